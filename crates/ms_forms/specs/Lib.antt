pub mod Blank
pub mod Failing
pub mod Spelling
