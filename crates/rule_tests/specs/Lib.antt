pub mod Proportions
pub mod Square
pub mod SquareLemmas
