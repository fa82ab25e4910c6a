pub mod Amounts
pub mod Held
pub mod Keys
pub mod Loads
pub mod Shares
pub mod Alive
pub mod Rules
