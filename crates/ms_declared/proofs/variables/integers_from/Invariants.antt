use Rattle.std.proofs.Common.{◌≡◌, ◌+◌, ◌-◌, ◌++◌}
use Rattle.ms_declared.specs.Variables.{integers_from}
use Rattle.ms_declared.proofs.variables.integers_from.Given as goal

abbrev pub invariant-loop-number : goal.invariant-loop-number
invariant-loop-number l = integers_from l.set l.first l.count ≡ l.xs ++ integers_from l.set l.number ((l.first + l.count) - l.number)
