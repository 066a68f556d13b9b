-- What crates above may cite: a term's least type or first fault, by the function.
pub use Rattle.ms_typing.proofs.Judging.{excludes, faulted, faulteds, judges, judges_all, least_of, one_fault, sound, sounds, typed, types}
