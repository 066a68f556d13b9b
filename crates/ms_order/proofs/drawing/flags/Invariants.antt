use Rattle.std.proofs.Common.{◌≡◌, false, length, replicate, drop, map}
use Rattle.ms_syntax.specs.Tree.{item_view}
use Rattle.ms_order.specs.Drawing.{flags_by}
use Rattle.ms_order.proofs.drawing.flags.Given as goal

abbrev pub invariant-loop-item : goal.invariant-loop-item
invariant-loop-item l = record {
  size : length l.flags.items ≡ length l.names;
  left : flags_by l.names (map item_view (drop l.item-index l.items)) l.flags.items
      ≡ flags_by l.names (map item_view l.items) (replicate (length l.names) false);
}
