pub mod Fit
pub mod Read
