pub mod Indexed
pub mod Made
pub mod Placing
pub mod Values
pub mod Variables
pub mod Views
