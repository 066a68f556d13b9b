use Rattle.std.proofs.Common.{◌≡◌, ◌++◌, length, map}
use Rattle.std.specs.Vec.Iter.{into_iter_items, into_iter_len}
use Rattle.ms_tree_nodes.specs.Nodes.{tree_of}
use Rattle.ms_exchange.proofs.outgoing.trees_of.Given as goal

abbrev pub invariant-loop-x : goal.invariant-loop-x
invariant-loop-x l =
    (into_iter_len l.x-iterator ≡ length (into_iter_items l.x-iterator))
    × (map tree_of l.fn.placed ≡ l.trees ++ map tree_of (into_iter_items l.x-iterator))
