pub mod Spread
pub mod Trailed
