pub mod Assigned
pub mod Globals
pub mod Looked
pub mod Scopes
pub mod Worlds
