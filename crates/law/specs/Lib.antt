pub mod Data
pub mod Figures
pub mod Laws
