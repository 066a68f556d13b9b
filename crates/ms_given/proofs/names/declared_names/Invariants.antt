use Rattle.std.proofs.Common.{◌≡◌, ◌++◌, drop, map}
use Rattle.ms_syntax.specs.Tree.{item_view}
use Rattle.ms_typing.specs.Items.{globals}
use Rattle.ms_given.specs.Givings.{names_of}
use Rattle.ms_given.specs.Views.{names_in}
use Rattle.ms_given.proofs.names.declared_names.Given as goal

abbrev pub invariant-loop-item : goal.invariant-loop-item
invariant-loop-item l =
    names_of (globals (map item_view l.items)) ≡ names_in l.list.items ++ names_of (globals (map item_view (drop l.item-index l.items)))
