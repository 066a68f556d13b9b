use Rattle.std.proofs.Common.{◌≡◌, map, drop}
use Rattle.ms_trees.specs.Extreme.{extreme_at}
use Rattle.ms_trees.specs.Value.{numeric_meaning, folded}
use Rattle.ms_arrays.proofs.integers.folded.Given as goal

abbrev pub invariant-loop-number : goal.invariant-loop-number
invariant-loop-number l = folded (extreme_at l.which) l.best (map numeric_meaning (drop l.number-index l.numbers)) ≡ folded (extreme_at l.which) l.fn.first (map numeric_meaning l.numbers)
