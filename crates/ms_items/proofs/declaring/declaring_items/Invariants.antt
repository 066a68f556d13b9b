use Rattle.std.proofs.Common.{◌≡◌, ◌++◌, drop, map}
use Rattle.ms_syntax.specs.Tree.{item_view}
use Rattle.ms_items.specs.Declaring.{declarers}
use Rattle.ms_items.proofs.declaring.declaring_items.Given as goal

abbrev pub invariant-loop-place : goal.invariant-loop-place
invariant-loop-place l = declarers 0 (map item_view l.list) ≡ l.places.items ++ declarers l.place (map item_view (drop l.place l.list))
