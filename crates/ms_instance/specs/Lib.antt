pub mod Instances
pub mod Names
pub mod Points
pub mod Reading
pub mod Views
