pub mod Connectives
pub mod Known
