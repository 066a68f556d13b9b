use Rattle.std.proofs.Common.{◌≡◌, ◌++◌, drop, map}
use Rattle.ms_syntax.specs.Tree.{item_view}
use Rattle.ms_code.specs.Items.{items_code}
use Rattle.ms_names.specs.Worlds.{world_view}
use Rattle.ms_items.specs.Walk.{walk_items}
use Rattle.ms_items.proofs.texts.walk_items.Given as goal

abbrev pub invariant-loop-item : goal.invariant-loop-item
invariant-loop-item l =
    (walk_items (world_view l.world) (map item_view l.list) ≡ walk_items (world_view l.world) (map item_view (drop l.item-index l.list)))
    × (items_code (world_view l.world) (map item_view l.list) ≡ l.trees ++ items_code (world_view l.world) (map item_view (drop l.item-index l.list)))
