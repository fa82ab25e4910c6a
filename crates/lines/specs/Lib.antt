pub mod Arguments
pub mod Forms
pub mod Lists
