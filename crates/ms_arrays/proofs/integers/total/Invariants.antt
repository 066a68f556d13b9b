use Rattle.std.proofs.Common.{◌≡◌, Some, drop}
use Rattle.std.specs.Prelude.{pos}
use Rattle.ms_rules.specs.Arrays.{sum_from}
use Rattle.ms_arrays.proofs.integers.total.Given as goal

abbrev pub invariant-loop-number : goal.invariant-loop-number
invariant-loop-number l = sum_from l.total (drop l.number-index l.numbers) ≡ sum_from (Some (pos 0)) l.numbers
