pub mod Answered
pub mod Days
pub mod Runs
pub mod Texts
