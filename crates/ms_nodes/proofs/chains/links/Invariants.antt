use Rattle.std.proofs.Common.{◌≡◌, ◌++◌, length}
use Rattle.std.specs.Vec.Iter.{into_iter_items, into_iter_len}
use Rattle.ms_nodes.specs.Nodes.{linked}
use Rattle.ms_nodes.proofs.chains.links.Given as goal

abbrev pub invariant-loop-next : goal.invariant-loop-next
invariant-loop-next l =
    (into_iter_len l.next-iterator ≡ length (into_iter_items l.next-iterator))
    × (linked l.whole l.fn.operands.items ≡ l.list ++ linked l.whole (into_iter_items l.next-iterator))
