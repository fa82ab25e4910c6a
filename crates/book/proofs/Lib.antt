pub mod Causes
mod Changes
mod Kept
mod OpeningChecks
pub mod OpeningPages
pub mod OpeningStations
mod Owners
pub mod Places
mod Positions
mod Runs
mod Shares
mod Values
pub mod Writes
