pub mod Calling
pub mod Directly
pub mod Fusion
pub mod Putting
pub mod Renamed
