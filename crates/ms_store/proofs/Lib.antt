pub mod ListsOf
pub mod SharedCuts
pub mod Copying
