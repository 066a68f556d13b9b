pub mod List
pub mod Pcg
