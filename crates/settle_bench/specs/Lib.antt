pub mod Days
pub mod Full
pub mod Reports
