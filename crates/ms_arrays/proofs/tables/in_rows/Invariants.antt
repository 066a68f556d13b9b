use Rattle.std.proofs.Common.{◌≡◌, ℕ, ◌+◌, ◌++◌}
use Rattle.ms_rules.specs.Tables.{in_rows}
use Rattle.ms_arrays.proofs.tables.in_rows.Given as goal

abbrev pub invariant-loop-turn : goal.invariant-loop-turn
invariant-loop-turn l = (left : ℕ) → l.turn + left ≡ l.rows → l.made.items ++ in_rows l.width left l.rest ≡ in_rows l.width l.rows l.numbers
