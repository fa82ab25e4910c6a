mod Opening
mod Settling
mod Writes
