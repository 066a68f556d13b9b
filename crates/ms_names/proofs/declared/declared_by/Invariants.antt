use Rattle.std.proofs.Common.{◌≡◌, ◌++◌, drop, map}
use Rattle.ms_syntax.specs.Tree.{item_view}
use Rattle.ms_typing.specs.Items.{globals}
use Rattle.ms_names.specs.Globals.{globals_view}
use Rattle.ms_names.proofs.declared.declared_by.Given as goal

abbrev pub invariant-loop-item : goal.invariant-loop-item
invariant-loop-item l = globals (map item_view l.items) ≡ globals_view l.list.items ++ globals (map item_view (drop l.item-index l.items))
