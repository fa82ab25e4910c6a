pub mod Ends
pub mod Pieces
pub mod Tokens
