pub mod Folds
pub mod Moved
