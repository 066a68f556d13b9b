pub mod Handed
pub mod Given
