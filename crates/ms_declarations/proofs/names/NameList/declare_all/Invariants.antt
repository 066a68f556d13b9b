use Rattle.std.proofs.Common.{◌≡◌, drop, ◌++◌}
use Rattle.ms_syntax.specs.Tree.{names_view}
use Rattle.ms_declarations.specs.Repeats.{more}
use Rattle.ms_declarations.proofs.names.NameList.declare_all.Given as goal

abbrev pub invariant-loop-binder : goal.invariant-loop-binder
invariant-loop-binder l = record {
  left : more (names_view l.initial.self) (names_view l.names) ≡ more (names_view l.self) (names_view (drop l.binder-index l.names));
  all : names_view l.self ++ names_view (drop l.binder-index l.names) ≡ names_view l.initial.self ++ names_view l.names;
}
