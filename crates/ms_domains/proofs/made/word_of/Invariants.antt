use Rattle.std.proofs.Common.{◌≡◌, ℕ, ◌<◌, ◌≤◌, false}
use Rattle.std.specs.Prelude.{pos, ◌+ℤ◌}
use Rattle.ms_num.specs.Ranges.{is_member}
use Rattle.ms_bits.specs.Word.{has_bit}
use Rattle.ms_domains.proofs.made.word_of.Given as goal

abbrev pub invariant-loop-k : goal.invariant-loop-k
invariant-loop-k l = record {
  known : (j : ℕ) → j < l.k → has_bit l.bits j ≡ is_member l.set (l.base +ℤ pos j);
  rest : (j : ℕ) → l.k ≤ j → has_bit l.bits j ≡ false;
}
