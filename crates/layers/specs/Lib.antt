pub mod Layered
pub mod Penalties
pub mod PenaltiesLemmas
pub mod Waivers
