pub mod Claims
pub mod Findings
pub mod Lists
pub mod Pushed
