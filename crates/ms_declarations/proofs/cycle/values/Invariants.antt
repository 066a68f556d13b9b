use Rattle.std.proofs.Common.{◌≡◌, List, ℕ, drop, map, ◌||◌}
use Rattle.std.specs.Prelude.{is_some}
use Rattle.std.specs.List.{list_any}
use Rattle.ms_syntax.specs.Tree.{item_view, names_view}
use Rattle.ms_declarations.specs.Numbering.{number_of}
use Rattle.ms_declarations.specs.Depends.{is_value}
use Rattle.ms_declarations.proofs.cycle.values.Given as goal

abbrev pub invariant-loop-item : goal.invariant-loop-item
invariant-loop-item l = (w : List ℕ) → (is_some (number_of (names_view l.values) w) || list_any (is_value w) (map item_view (drop l.item-index l.items))) ≡ list_any (is_value w) (map item_view l.items)
