use Rattle.std.proofs.Common.{◌≡◌, ◌++◌, take}
use Rattle.ms_store.proofs.copies.add_copies.Given as goal

abbrev pub invariant-loop-set : goal.invariant-loop-set
invariant-loop-set l = l.all.items ≡ l.initial.all.items ++ take l.set-index l.sets
