pub mod Direct
pub mod Laws
pub mod Renaming
pub mod Sample
