pub mod Declaring
pub mod Depends
pub mod Drawing
pub mod First
pub mod Include
pub mod Numbering
pub mod Repeats
