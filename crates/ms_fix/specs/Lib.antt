pub mod Answers
pub mod Around
pub mod Faults
pub mod Known
pub mod Laws
