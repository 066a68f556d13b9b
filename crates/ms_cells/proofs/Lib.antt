pub mod SharedLists
pub mod Undone
pub mod Reaching
pub mod Again
pub mod Rowed
pub mod Growing
