use Rattle.std.proofs.Common.{◌≡◌, ◌++◌, drop, map}
use Rattle.ms_syntax.specs.Tree.{parameter_view}
use Rattle.ms_free_names.specs.Uses.{parameters, uses_params}
use Rattle.ms_free_names.proofs.uses.Uses.collect_parameters.Given as goal

abbrev pub invariant-loop-parameter : goal.invariant-loop-parameter
invariant-loop-parameter l = record {
  bound : l.self.bound ≡ l.initial.self.bound;
  found : l.self.found ++ uses_params l.self.bound (map parameter_view (drop l.parameter-index l.parameters)) ≡ l.initial.self.found ++ uses_params l.initial.self.bound (map parameter_view l.parameters);
}

abbrev pub invariant-loop-parameter-2 : goal.invariant-loop-parameter-2
invariant-loop-parameter-2 l = record {
  bound : l.self.bound ++ parameters (map parameter_view (drop l.parameter-index l.parameters)) ≡ l.initial.self.bound ++ parameters (map parameter_view l.parameters);
  found : l.self.found ≡ l.initial.self.found;
}
