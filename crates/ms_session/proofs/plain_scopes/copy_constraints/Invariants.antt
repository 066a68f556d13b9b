use Rattle.std.proofs.Common.{◌≡◌, take}
use Rattle.ms_session.proofs.plain_scopes.copy_constraints.Given as goal

abbrev pub invariant-loop-constraint : goal.invariant-loop-constraint
invariant-loop-constraint l = l.copies.items ≡ take l.constraint-index l.constraints
