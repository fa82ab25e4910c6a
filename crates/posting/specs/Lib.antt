pub mod Amounts
pub mod Members
pub mod Sheets
pub mod Days
pub mod Missing
