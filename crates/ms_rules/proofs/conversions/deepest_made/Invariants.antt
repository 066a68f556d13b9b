use Rattle.std.proofs.Common.{◌≡◌, max, drop}
use Rattle.ms_rules.specs.Conversions as c
use Rattle.ms_rules.proofs.conversions.deepest_made.Given as goal

abbrev pub invariant-loop-tree : goal.invariant-loop-tree
invariant-loop-tree l = max l.deepest (c.deepest_made l.kind (drop l.tree-index l.trees)) ≡ c.deepest_made l.kind l.trees
