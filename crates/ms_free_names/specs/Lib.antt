pub mod Bound
pub mod Used
pub mod Uses
