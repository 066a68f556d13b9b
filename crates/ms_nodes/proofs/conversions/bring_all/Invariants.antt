use Rattle.std.proofs.Common.{◌≡◌, ◌++◌, length}
use Rattle.std.specs.Vec.Iter.{into_iter_items, into_iter_len}
use Rattle.ms_nodes.specs.Nodes.{bring_all}
use Rattle.ms_nodes.proofs.conversions.bring_all.Given as goal

abbrev pub invariant-loop-part : goal.invariant-loop-part
invariant-loop-part l =
    (into_iter_len l.part-iterator ≡ length (into_iter_items l.part-iterator))
    × (bring_all l.asked l.fn.parts.items ≡ l.codes ++ bring_all l.asked (into_iter_items l.part-iterator))
