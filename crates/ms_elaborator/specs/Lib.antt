pub mod Answers
pub mod Elaborate
pub mod Made
pub mod Walk
