pub mod Stored
pub mod CutGives
pub mod Copied
