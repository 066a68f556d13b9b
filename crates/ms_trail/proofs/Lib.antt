pub mod Filling
pub mod Slots
pub mod Trailing
pub mod Written
pub mod Cutting
pub mod Filled
pub mod Grown
