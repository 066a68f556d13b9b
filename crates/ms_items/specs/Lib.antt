pub mod Declaring
pub mod Parts
pub mod Walk
