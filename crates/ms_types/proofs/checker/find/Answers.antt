use Rattle.std.proofs.Common.{rules, ◌≡◌, ap, map}
use Rattle.ms_syntax.specs.Tree.{item_view}
use Rattle.ms_names.specs.Worlds.{world_view}
use Rattle.ms_types.proofs.Deciding.{decided}
use Rattle.ms_types.proofs.checker.find.Goals as goal

pub returns : goal.returns
returns c =
    let a : c.as_slice.result.now ≡ c.args.model.now.items.items = search rules in
    let b : c.as_slice-2.result.now ≡ c.args.library.now.items.items = search rules in
    let d : c.as_slice-3.result.now ≡ c.args.model.now.items.items = search rules in
    let e : c.as_slice-4.result.now ≡ c.args.library.now.items.items = search rules in
    decided (map item_view c.args.model.now.items.items) (map item_view c.args.library.now.items.items)
    (map item_view c.as_slice.result.now) (map item_view c.as_slice-2.result.now) (map item_view c.as_slice-3.result.now) (map item_view c.as_slice-4.result.now)
    (world_view c.in_ok-world.world) c.in_ok-trees.trees
    (ap (map item_view) a) (ap (map item_view) b) (ap (map item_view) d) (ap (map item_view) e)
    c.in_ok-check_declarations.ensures c.in_ok-world.ensures c.in_ok-trees.ensures.typing c.in_ok-trees.ensures.trees
