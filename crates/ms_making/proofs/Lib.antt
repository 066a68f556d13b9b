pub mod Data
pub mod Repeated
