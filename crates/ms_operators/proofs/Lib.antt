pub mod Depths
pub mod NumberSets
pub mod SameRanges
