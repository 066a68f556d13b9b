pub mod Constraints
pub mod Naming
pub mod Fitting
pub mod Results
pub mod Settling
pub mod Narrowing
pub mod Promises
