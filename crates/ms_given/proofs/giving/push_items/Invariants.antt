use Rattle.std.proofs.Common.{◌≡◌, ◌++◌, drop, map}
use Rattle.ms_syntax.specs.Tree.{item_view}
use Rattle.ms_given.specs.Givings.{given_in}
use Rattle.ms_given.specs.Views.{givings_of}
use Rattle.ms_given.proofs.giving.push_items.Given as goal

abbrev pub invariant-loop-number : goal.invariant-loop-number
invariant-loop-number l =
    givings_of l.initial.list.items ++ given_in 0 (map item_view l.items)
    ≡ givings_of l.list.items ++ given_in l.number (map item_view (drop l.number l.items))
