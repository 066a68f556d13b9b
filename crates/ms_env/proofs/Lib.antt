pub mod Latest
pub mod Typings
