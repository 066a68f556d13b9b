use Rattle.std.proofs.Common.{◌≡◌, ◌++◌, drop}
use Rattle.ms_syntax.specs.Tree.{params_view}
use Rattle.ms_typing.specs.Items.{param_types}
use Rattle.ms_items.proofs.functions.taken.Given as goal

abbrev pub invariant-loop-one : goal.invariant-loop-one
invariant-loop-one l = param_types (params_view l.list) ≡ l.types.items ++ param_types (params_view (drop l.one-index l.list))
