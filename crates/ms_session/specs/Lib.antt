pub mod Frames
pub mod Laws
pub mod Narrowing
pub mod Plain
pub mod Scopes
pub mod Stored
pub mod Valid
