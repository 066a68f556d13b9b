pub mod Coming
pub mod Constraining
pub mod Giving
pub mod Making
pub mod Parts
pub mod Standing
