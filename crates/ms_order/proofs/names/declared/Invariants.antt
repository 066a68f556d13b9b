use Rattle.std.proofs.Common.{◌≡◌, drop, map, ◌++◌}
use Rattle.ms_syntax.specs.Tree.{item_view}
use Rattle.ms_order.specs.Order.{declared}
use Rattle.ms_order.proofs.names.declared.Given as goal

abbrev pub invariant-loop-item : goal.invariant-loop-item
invariant-loop-item l = l.names ++ declared (map item_view (drop l.item-index l.items)) ≡ declared (map item_view l.items)
