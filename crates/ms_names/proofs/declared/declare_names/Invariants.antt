use Rattle.std.proofs.Common.{◌≡◌, ◌++◌, drop}
use Rattle.ms_syntax.specs.Tree.{names_view}
use Rattle.ms_typing.specs.Items.{list_names}
use Rattle.ms_names.specs.Globals.{globals_view}
use Rattle.ms_names.proofs.declared.declare_names.Given as goal

abbrev pub invariant-loop-binder : goal.invariant-loop-binder
invariant-loop-binder l = globals_view l.fn.list.items ++ list_names (names_view l.binders) ≡ globals_view l.list.items ++ list_names (names_view (drop l.binder-index l.binders))
