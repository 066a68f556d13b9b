use Rattle.std.proofs.Common.{◌≡◌, take}
use Rattle.ms_syntax.proofs.names.Binders.copy.Given as goal

abbrev pub invariant-loop-binder : goal.invariant-loop-binder
invariant-loop-binder l = l.list.items ≡ take l.binder-index l.self
