-- What crates above need of answers: tokens have one at most.
pub use Rattle.ms_syntax.proofs.OneAnswer.{one_answer}
