pub mod Value
pub mod Enclosure
pub mod WellFormed
pub mod Size
pub mod Laws
pub mod Access
pub mod Extreme
pub mod Kept
