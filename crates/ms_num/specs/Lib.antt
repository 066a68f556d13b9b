pub mod Laws
pub mod Numbers
pub mod Ranges
pub mod Sets
pub mod Span
