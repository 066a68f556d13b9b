use Rattle.std.proofs.Common.{◌≡◌, length, []}
use Rattle.ms_syntax.specs.Tree.{params_view}
use Rattle.ms_typing.specs.Items.{with_params}
use Rattle.ms_names.specs.Looked.{looked}
use Rattle.ms_names.proofs.scope.look_in_parameters.Given as goal

abbrev pub decreases-loop-parameter : goal.decreases-loop-parameter
decreases-loop-parameter l = length l.rest

abbrev pub invariant-loop-parameter : goal.invariant-loop-parameter
invariant-loop-parameter l = looked l.fn.first (with_params (params_view l.parameters) []) l.name ≡ looked l.number (with_params (params_view l.rest) []) l.name
