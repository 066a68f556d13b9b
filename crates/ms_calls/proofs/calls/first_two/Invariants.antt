use Rattle.std.proofs.Common.{◌≡◌, length}
use Rattle.ms_rules.specs.Calls as c
use Rattle.ms_calls.specs.Arguments.{two_from}
use Rattle.ms_calls.proofs.calls.first_two.Given as goal

abbrev pub invariant-all : goal.invariant-all
invariant-all l = two_from l.fn.arguments (c.nothing, c.nothing) ≡ two_from l.rest l.found

abbrev pub decreases-all : goal.decreases-all
decreases-all l = length l.rest
