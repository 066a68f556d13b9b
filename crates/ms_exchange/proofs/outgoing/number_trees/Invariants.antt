use Rattle.std.proofs.Common.{◌≡◌, map, take}
use Rattle.ms_placing.specs.Values as v
use Rattle.ms_exchange.proofs.outgoing.number_trees.Given as goal

abbrev pub invariant-loop-number : goal.invariant-loop-number
invariant-loop-number l = l.trees ≡ map v.number_tree (take l.number-index l.numbers)
