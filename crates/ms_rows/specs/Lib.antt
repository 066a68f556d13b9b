pub mod Choice
pub mod Forms
