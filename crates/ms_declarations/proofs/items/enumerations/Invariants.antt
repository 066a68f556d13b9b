use Rattle.std.proofs.Common.{◌≡◌, ℕ, List, drop, map, ◌||◌}
use Rattle.std.specs.Prelude.{is_some}
use Rattle.std.specs.List.{list_any}
use Rattle.ms_syntax.specs.Tree.{item_view, names_view}
use Rattle.ms_declarations.specs.Numbering.{number_of}
use Rattle.ms_declarations.specs.Declaring.{enumerates}
use Rattle.ms_declarations.proofs.items.enumerations.Given as goal

abbrev pub invariant-loop-item : goal.invariant-loop-item
invariant-loop-item l = (w : List ℕ) → (is_some (number_of (names_view l.types) w) || list_any (enumerates w) (map item_view (drop l.item-index l.items))) ≡ list_any (enumerates w) (map item_view l.items)
