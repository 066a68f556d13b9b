pub mod Claimed
pub mod Findings
pub mod Stacked
pub mod Totals
pub mod Turns
