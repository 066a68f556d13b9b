pub mod Kinds
pub mod Level
pub mod Reading
pub mod Reads
