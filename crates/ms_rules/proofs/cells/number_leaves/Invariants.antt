use Rattle.std.proofs.Common.{◌≡◌, map, take}
use Rattle.ms_tree_nodes.specs.Nodes as n
use Rattle.ms_rules.proofs.cells.number_leaves.Given as goal

abbrev pub invariant-loop-number : goal.invariant-loop-number
invariant-loop-number l = l.trees ≡ map n.number_leaf (take l.number-index l.numbers)
