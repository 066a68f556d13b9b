use Rattle.std.proofs.Common.{◌≡◌, ◌++◌, drop}
use Rattle.ms_syntax.specs.Tree.{names_view}
use Rattle.ms_typing.specs.Items.{list_names}
use Rattle.ms_given.specs.Givings.{names_of}
use Rattle.ms_given.specs.Views.{names_in}
use Rattle.ms_given.proofs.names.push_listed.Given as goal

abbrev pub invariant-loop-binder : goal.invariant-loop-binder
invariant-loop-binder l =
    names_in l.initial.list.items ++ names_of (list_names (names_view l.names))
    ≡ names_in l.list.items ++ names_of (list_names (names_view (drop l.binder-index l.names)))
