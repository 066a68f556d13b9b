pub mod Outside
pub mod Placing
pub mod Steps
pub mod Values
