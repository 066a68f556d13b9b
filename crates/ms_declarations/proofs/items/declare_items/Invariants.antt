use Rattle.std.proofs.Common.{◌≡◌, ◌++◌, [], None, drop, map}
use Rattle.std.specs.List.{flat_map}
use Rattle.ms_syntax.specs.Tree.{item_view, names_view}
use Rattle.ms_declarations.specs.Repeats.{names_with, twice_items}
use Rattle.ms_declarations.proofs.items.declare_items.Given as goal

abbrev pub invariant-loop-item : goal.invariant-loop-item
invariant-loop-item l = record {
  left : twice_items (names_view l.types) [] None (map item_view l.items) ≡ twice_items (names_view l.types) (names_view l.names) l.solved (map item_view (drop l.item-index l.items));
  all : names_view l.names ++ flat_map (names_with (names_view l.types)) (map item_view (drop l.item-index l.items)) ≡ flat_map (names_with (names_view l.types)) (map item_view l.items);
}
