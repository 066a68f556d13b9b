use Rattle.std.proofs.Common.{◌≡◌, take}
use Rattle.ms_tree_nodes.specs.Nodes as n
use Rattle.ms_tree_nodes.proofs.parts.size_over.Given as goal

abbrev pub invariant-loop-x : goal.invariant-loop-x
invariant-loop-x l = l.size ≡ n.above (n.sizes_of (take l.x-index l.xs))
