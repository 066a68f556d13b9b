use Rattle.std.proofs.Common.{◌≡◌, map, take}
use Rattle.ms_exchange.specs.Read as r
use Rattle.ms_exchange.proofs.leaves.truths_read.Given as goal

abbrev pub invariant-loop-tree : goal.invariant-loop-tree
invariant-loop-tree l = l.truths ≡ map r.truth_read (take l.tree-index l.trees)
