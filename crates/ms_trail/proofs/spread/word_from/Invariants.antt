use Rattle.std.proofs.Common.{◌≡◌, ℕ, ◌<◌, ◌≤◌, false}
use Rattle.std.specs.Prelude.{pos, ◌+ℤ◌}
use Rattle.ms_bits.specs.Word.{has_bit}
use Rattle.ms_domains.specs.Domains.{domain_set}
use Rattle.ms_trail.proofs.spread.word_from.Given as goal

abbrev pub invariant-loop-k : goal.invariant-loop-k
invariant-loop-k l = record {
  known : (j : ℕ) → j < l.k → has_bit l.bits j ≡ (domain_set l.lists l.row l.domain).has (l.base +ℤ pos j);
  rest : (j : ℕ) → l.k ≤ j → has_bit l.bits j ≡ false;
}
