use Rattle.std.proofs.Common.{◌≡◌, [], length, replicate, drop, map}
use Rattle.std.specs.List.{flat_map}
use Rattle.ms_syntax.specs.Tree.{item_view, names_view}
use Rattle.ms_declarations.specs.Drawing.{drawn, says_with}
use Rattle.ms_declarations.proofs.cycle.draw.Given as goal

abbrev pub invariant-loop-item : goal.invariant-loop-item
invariant-loop-item l = record {
  size : length l.graph ≡ length l.names;
  left : drawn (names_view l.names) (flat_map (says_with (names_view l.values)) (map item_view (drop l.item-index l.items))) l.graph
      ≡ drawn (names_view l.names) (flat_map (says_with (names_view l.values)) (map item_view l.items)) (replicate (length l.names) []);
}
