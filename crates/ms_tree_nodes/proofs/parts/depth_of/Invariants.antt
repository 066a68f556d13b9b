use Rattle.std.proofs.Common.{◌≡◌, max, drop}
use Rattle.ms_tree_nodes.specs.Nodes as n
use Rattle.ms_tree_nodes.proofs.parts.depth_of.Given as goal

abbrev pub invariant-loop-x : goal.invariant-loop-x
invariant-loop-x l = max l.depth (n.deepest_of (drop l.x-index l.xs)) ≡ n.deepest_of l.xs
