use Rattle.std.proofs.Common.{◌≡◌, ◌++◌, drop}
use Rattle.ms_syntax.specs.Tree.{names_view}
use Rattle.ms_free_names.specs.Uses.{names_alone}
use Rattle.ms_free_names.proofs.uses.Uses.bind_all.Given as goal

abbrev pub invariant-loop-binder : goal.invariant-loop-binder
invariant-loop-binder l = record {
  bound : l.self.bound ++ names_alone (names_view (drop l.binder-index l.names)) ≡ l.initial.self.bound ++ names_alone (names_view l.names);
  found : l.self.found ≡ l.initial.self.found;
}
