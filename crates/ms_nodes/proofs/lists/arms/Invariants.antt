use Rattle.std.proofs.Common.{◌≡◌, ◌∷◌, ◌++◌, length}
use Rattle.std.specs.Vec.Iter.{into_iter_items, into_iter_len}
use Rattle.ms_nodes.specs.Nodes.{arms}
use Rattle.ms_nodes.proofs.lists.arms.Given as goal

abbrev pub invariant-loop-next : goal.invariant-loop-next
invariant-loop-next l =
    (into_iter_len l.next-iterator ≡ length (into_iter_items l.next-iterator))
    × (arms l.asked (l.fn.first ∷ l.fn.more.items) ≡ l.list ++ arms l.asked (into_iter_items l.next-iterator))
