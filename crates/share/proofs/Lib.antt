pub mod Parts
pub mod Fairness
pub mod Ranges
pub mod Walks
pub mod Splits
pub mod Quotients
