use Rattle.std.proofs.Common.{◌≡◌, ◌++◌, length}
use Rattle.std.specs.Vec.Iter.{into_iter_items, into_iter_len}
use Rattle.ms_tree_nodes.specs.Nodes as n
use Rattle.ms_tree_nodes.proofs.parts.trees_of.Given as goal

abbrev pub invariant-loop-x : goal.invariant-loop-x
invariant-loop-x l =
    (into_iter_len l.x-iterator ≡ length (into_iter_items l.x-iterator))
    × (n.trees_of l.fn.xs ≡ l.trees ++ n.trees_of (into_iter_items l.x-iterator))
