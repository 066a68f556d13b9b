pub mod Giving
pub mod Looking
pub mod Numbering
pub mod Reading
pub mod Standing
