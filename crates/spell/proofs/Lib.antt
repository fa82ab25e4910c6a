pub mod Answering
pub mod Holding
pub mod Lawful
pub mod Laying
pub mod Speaking
pub mod Texts
