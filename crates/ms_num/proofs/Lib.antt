-- Lemmas on intervals and sets; those in the files Shared are for the crates above.
pub mod Build
pub mod Cuts
pub mod Divisions
pub mod LeastIntervals
pub mod OneCut
pub mod SharedCounts
pub mod SharedImages
pub mod SharedMembers
pub mod SharedQuotients
pub mod SharedRemainders
pub mod SharedSets
pub mod SharedSizes
pub mod SharedSpans
