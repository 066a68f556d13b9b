-- What is put of a text, from what a put answers.
use Rattle.std.proofs.Common.{◌≡◌, ℕ, ◌≤◌, List, length, take, Option, Result, Ok, Err, OnOk, OnErr, sym, subst, arith}
use Rattle.std.specs.Prelude.{MatchResult}
use Rattle.std.proofs.lemmas.List.{take_all}
use Rattle.ms_io.specs.Files.{raised, Rose}
use Rattle.ms_io.specs.Sink.{Gains, Reports}

raised_rose : (n m : ℕ) → m ≡ raised n → Rose n m
raised_rose n m h = omega (arith, h)

pub put_reports : {U F : Type 0} (text : List ℕ) (old new : Option (List ℕ)) (faults after : ℕ) (r : Result U F)
    → OnOk r (Gains old text new) → OnErr r ((k : ℕ) × (k ≤ length text) × Gains old (take k text) new) → MatchResult r (λ _. after ≡ faults) (λ _. after ≡ raised faults)
    → Reports text old faults new after
put_reports text old new faults after (Ok u) ok err count = record {
  put = length text;
  prefix = subst (λ (t : List ℕ). Gains old t new) (sym (take_all (length text) text (omega arith))) ok;
  whole = λ _. ok;
}
put_reports text old new faults after (Err f) ok err count = record {
  put = err.0;
  prefix = err.2;
  whole = λ no. absurd (no (raised_rose faults after count));
}
