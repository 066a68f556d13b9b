pub mod Parts
pub mod Counting
pub mod Rows
pub mod Holing
pub mod SharedBounded
pub mod Making
