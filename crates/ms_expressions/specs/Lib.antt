pub mod Rules
pub mod Nests
