pub mod Code
pub mod Items
pub mod References
