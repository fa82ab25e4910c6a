pub mod Canon
pub mod Exactly
pub mod Reading
