use Rattle.std.specs.Vec.Iter.{into_iter_items, into_iter_len}
use Rattle.std.proofs.Common.{◌≡◌, ◌++◌, map, length}
use Rattle.ms_tree_nodes.specs.Nodes as n
use Rattle.ms_rules.proofs.cells.bits.Given as goal

abbrev pub invariant-loop-tree : goal.invariant-loop-tree
invariant-loop-tree l = (into_iter_len l.tree-iterator ≡ length (into_iter_items l.tree-iterator))
    × ((l.all ++ map n.bit (into_iter_items l.tree-iterator)) ≡ map n.bit l.fn.trees)
