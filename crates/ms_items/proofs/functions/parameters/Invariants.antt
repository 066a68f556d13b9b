use Rattle.std.proofs.Common.{◌≡◌, ◌++◌, drop}
use Rattle.ms_syntax.specs.Tree.{params_view}
use Rattle.ms_typing.specs.Least.{and_then, has}
use Rattle.ms_names.specs.Worlds.{world_view}
use Rattle.ms_items.specs.Walk.{walk_params}
use Rattle.ms_items.proofs.functions.parameters.Given as goal

abbrev pub invariant-loop-one : goal.invariant-loop-one
invariant-loop-one l = walk_params (world_view l.world) l.search (params_view l.list) ≡ and_then (walk_params (world_view l.world) l.search (params_view (drop l.one-index l.list))) (λ us. has (l.types.items ++ us))
