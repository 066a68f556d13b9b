use Rattle.std.proofs.Common.{◌≡◌, map, take}
use Rattle.ms_placing.specs.Values as v
use Rattle.ms_exchange.proofs.outgoing.truth_trees.Given as goal

abbrev pub invariant-loop-truth : goal.invariant-loop-truth
invariant-loop-truth l = l.trees ≡ map v.truth_tree (take l.truth-index l.truths)
