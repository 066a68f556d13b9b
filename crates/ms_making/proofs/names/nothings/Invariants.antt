use Rattle.std.proofs.Common.{◌≡◌, ◌-◌, ◌++◌}
use Rattle.std.specs.Prelude.{replicate}
use Rattle.ms_rules.specs.Calls.{nothing}
use Rattle.ms_making.proofs.names.nothings.Given as goal

abbrev pub invariant-loop : goal.invariant-loop
invariant-loop l = replicate l.count nothing ≡ l.values.items ++ replicate (l.count - l.counter) nothing
