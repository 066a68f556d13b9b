use Rattle.std.proofs.Common.{◌≡◌, drop, ◌++◌}
use Rattle.ms_syntax.specs.Tree.{names_view}
use Rattle.ms_free_names.specs.Uses.{names_alone}
use Rattle.ms_order.proofs.names.NameList.add_all.Given as goal

abbrev pub invariant-loop-binder : goal.invariant-loop-binder
invariant-loop-binder l = l.self ++ names_alone (names_view (drop l.binder-index l.names)) ≡ l.initial.self ++ names_alone (names_view l.names)
