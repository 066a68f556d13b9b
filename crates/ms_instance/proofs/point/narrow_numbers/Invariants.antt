use Rattle.std.proofs.Common.{◌≡◌, ◌++◌, drop}
use Rattle.ms_instance.proofs.point.narrow_numbers.Given as goal

abbrev pub invariant-loop-number : goal.invariant-loop-number
invariant-loop-number l = l.numbers ≡ l.list.items ++ drop l.number-index l.numbers
