use Rattle.std.proofs.Common.{◌≡◌, drop, map, []}
use Rattle.ms_syntax.specs.Tree.{names_view, parameter_view}
use Rattle.ms_declarations.specs.Repeats.{twice_params}
use Rattle.ms_declarations.proofs.twice.check_parameters.Given as goal

abbrev pub invariant-loop-parameter : goal.invariant-loop-parameter
invariant-loop-parameter l = twice_params [] (map parameter_view l.parameters) ≡ twice_params (names_view l.names) (map parameter_view (drop l.parameter-index l.parameters))
