use Rattle.std.proofs.Common.{◌≡◌, map, take}
use Rattle.ms_rules.specs.Shown as s
use Rattle.ms_functions.proofs.texts.trees_shown.Given as goal

abbrev pub invariant-loop-tree : goal.invariant-loop-tree
invariant-loop-tree l = l.texts.items ≡ map s.tree_shown (take l.tree-index l.trees)
