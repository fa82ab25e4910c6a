pub mod Inputs
pub mod Wholes
