pub mod SharedMembers
mod Moves
mod Orders
