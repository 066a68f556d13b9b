-- Lemmas on boxes, for the crates above.
pub mod SharedCutting
pub mod SharedFitting
pub mod SharedParts
pub mod SharedPicking
pub mod SharedSingles
