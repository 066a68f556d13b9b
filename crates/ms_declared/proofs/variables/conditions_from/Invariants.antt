use Rattle.std.proofs.Common.{◌≡◌, ◌+◌, ◌-◌, ◌++◌}
use Rattle.ms_declared.specs.Variables.{conditions_from}
use Rattle.ms_declared.proofs.variables.conditions_from.Given as goal

abbrev pub invariant-loop-number : goal.invariant-loop-number
invariant-loop-number l = conditions_from l.set l.first l.count ≡ l.xs ++ conditions_from l.set l.number ((l.first + l.count) - l.number)
