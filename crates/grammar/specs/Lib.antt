pub mod Calls
pub mod Grammar
pub mod Laws
pub mod Limits
pub mod Machine
pub mod Reads
