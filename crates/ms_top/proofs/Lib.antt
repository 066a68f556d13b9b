pub mod Absent
pub mod Ending
pub mod Enumerating
pub mod Fitting
pub mod Gathering
pub mod Outcome
pub mod Refusing
pub mod TextLemmas
