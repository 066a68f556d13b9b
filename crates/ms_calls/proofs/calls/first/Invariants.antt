use Rattle.std.proofs.Common.{◌≡◌, length}
use Rattle.ms_rules.specs.Calls as c
use Rattle.ms_calls.specs.Arguments.{first_from}
use Rattle.ms_calls.proofs.calls.first.Given as goal

abbrev pub invariant-all : goal.invariant-all
invariant-all l = first_from l.fn.arguments c.nothing ≡ first_from l.rest l.first

abbrev pub decreases-all : goal.decreases-all
decreases-all l = length l.rest
