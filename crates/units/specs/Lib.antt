pub mod Bits
pub mod Calls
pub mod Faults
pub mod Heads
pub mod Limits
pub mod Refusals
pub mod Stations
