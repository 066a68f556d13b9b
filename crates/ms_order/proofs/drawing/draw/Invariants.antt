use Rattle.std.proofs.Common.{◌≡◌, [], length, replicate, drop, map}
use Rattle.std.specs.List.{flat_map}
use Rattle.ms_syntax.specs.Tree.{item_view}
use Rattle.ms_order.specs.Drawing.{drawn, says_by}
use Rattle.ms_order.proofs.drawing.draw.Given as goal

abbrev pub invariant-loop-item : goal.invariant-loop-item
invariant-loop-item l = record {
  size : length l.graph.items ≡ length l.names;
  left : drawn l.names (flat_map (says_by l.names l.flags) (map item_view (drop l.item-index l.items))) (map (λ v. v.items) l.graph.items)
      ≡ drawn l.names (flat_map (says_by l.names l.flags) (map item_view l.items)) (replicate (length l.names) []);
}
