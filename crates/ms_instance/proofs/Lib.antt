mod Outputs
mod Solved
mod Within
