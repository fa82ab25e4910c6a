mod Changed
mod Phases
mod Pages
mod Places
mod Stations
mod Together
mod Same
mod Kept
mod Posted
mod Moves
mod Steps
mod Begun
mod Held
pub mod Lawful
