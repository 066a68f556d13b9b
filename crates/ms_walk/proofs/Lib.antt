pub mod Folds
pub mod Entered
pub mod Bodies
pub mod Words
