pub mod Bodies
pub mod Declarers
pub mod SharedItems
pub mod Walked
