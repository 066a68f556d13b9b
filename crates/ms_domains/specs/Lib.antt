pub mod Bounded
pub mod Row
pub mod Domains
