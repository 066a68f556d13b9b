-- What crates above may cite: the types of one list of items after another.
pub use Rattle.ms_items.proofs.Walked.{then_checked}
