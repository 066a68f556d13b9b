use Rattle.std.proofs.Common.{◌≡◌, ◌++◌, drop, map}
use Rattle.ms_syntax.specs.Tree.{item_view}
use Rattle.ms_instance.specs.Reading.{shown_among}
use Rattle.ms_instance.proofs.shown.shown_names.Given as goal

abbrev pub invariant-loop-item : goal.invariant-loop-item
invariant-loop-item l = shown_among (map item_view l.items) ≡ l.names.items ++ shown_among (map item_view (drop l.item-index l.items))
