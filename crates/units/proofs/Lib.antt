mod Again
pub mod Sets
