pub mod Givings
pub mod Sources
pub mod Views
