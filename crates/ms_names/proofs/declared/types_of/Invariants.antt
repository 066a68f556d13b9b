use Rattle.std.proofs.Common.{◌≡◌, ◌++◌, drop}
use Rattle.ms_syntax.specs.Tree.{params_view}
use Rattle.ms_typing.specs.Items.{param_types}
use Rattle.ms_names.proofs.declared.types_of.Given as goal

abbrev pub invariant-loop-parameter : goal.invariant-loop-parameter
invariant-loop-parameter l = param_types (params_view l.parameters) ≡ l.types.items ++ param_types (params_view (drop l.parameter-index l.parameters))
