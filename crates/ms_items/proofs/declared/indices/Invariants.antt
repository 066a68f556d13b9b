use Rattle.std.proofs.Common.{◌≡◌, ◌++◌, drop}
use Rattle.ms_syntax.specs.Tree.{indices_view}
use Rattle.ms_typing.specs.Least.{and_then, has}
use Rattle.ms_code.specs.Items.{indices_code}
use Rattle.ms_names.specs.Worlds.{world_view}
use Rattle.ms_items.specs.Walk.{walk_indices}
use Rattle.ms_items.proofs.declared.indices.Given as goal

abbrev pub invariant-loop-one : goal.invariant-loop-one
invariant-loop-one l =
    (walk_indices (world_view l.world) (indices_view l.list) ≡ and_then (walk_indices (world_view l.world) (indices_view (drop l.one-index l.list))) (λ ts. has (l.found.types.items ++ ts)))
    × (indices_code (world_view l.world) (indices_view l.list) ≡ l.found.codes ++ indices_code (world_view l.world) (indices_view (drop l.one-index l.list)))
