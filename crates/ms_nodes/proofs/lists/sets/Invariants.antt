use Rattle.std.proofs.Common.{◌≡◌, ◌++◌, length, map}
use Rattle.std.specs.Vec.Iter.{into_iter_items, into_iter_len}
use Rattle.ms_nodes.specs.Nodes.{source}
use Rattle.ms_nodes.proofs.lists.sets.Given as goal

abbrev pub invariant-loop-next : goal.invariant-loop-next
invariant-loop-next l =
    (into_iter_len l.next-iterator ≡ length (into_iter_items l.next-iterator))
    × (map source l.fn.sources.items ≡ l.list ++ map source (into_iter_items l.next-iterator))
