use Rattle.std.proofs.Common.{◌≡◌, map, take}
use Rattle.ms_tree_nodes.specs.Nodes as n
use Rattle.ms_rules.proofs.cells.truth_leaves.Given as goal

abbrev pub invariant-loop-truth : goal.invariant-loop-truth
invariant-loop-truth l = l.trees ≡ map n.truth_leaf (take l.truth-index l.truths)
