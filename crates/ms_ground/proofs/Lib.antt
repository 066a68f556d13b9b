pub mod Boxes
pub mod Distinct
pub mod Known
pub mod Sums
