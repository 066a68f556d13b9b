use Rattle.std.proofs.Common.{◌≡◌, ◌++◌, length, map}
use Rattle.std.specs.Vec.Iter.{into_iter_items, into_iter_len}
use Rattle.ms_nodes.specs.Nodes.{row_of}
use Rattle.ms_nodes.proofs.lists.rows.Given as goal

abbrev pub invariant-loop-elements : goal.invariant-loop-elements
invariant-loop-elements l =
    (into_iter_len l.elements-iterator ≡ length (into_iter_items l.elements-iterator))
    × (map (row_of l.asked) (map (λ r. r.items) l.fn.parts.items) ≡ l.list ++ map (row_of l.asked) (map (λ r. r.items) (into_iter_items l.elements-iterator)))
