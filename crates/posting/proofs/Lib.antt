pub mod Accounts
pub mod Blocks
pub mod Search
pub mod Sums
