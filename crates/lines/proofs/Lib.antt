pub mod Figures
pub mod Fitting
pub mod Listing
pub mod Room
pub mod Taking
pub mod Whole
