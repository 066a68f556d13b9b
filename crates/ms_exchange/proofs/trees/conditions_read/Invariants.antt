use Rattle.std.proofs.Common.{◌≡◌, map, take}
use Rattle.ms_trees.specs.declared.tree.Ground.{Ground}
use Rattle.ms_rules.specs.Operands as o
use Rattle.ms_exchange.specs.Read as r
use Rattle.ms_exchange.proofs.trees.conditions_read.Given as goal

abbrev pub invariant-loop-tree : goal.invariant-loop-tree
invariant-loop-tree g l = l.conditions ≡ map (λ (t : Ground). o.condition_of (r.tree_read (g.B.Intervals.spans l.sets) t)) (take l.tree-index l.trees)
