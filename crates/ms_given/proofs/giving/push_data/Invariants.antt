use Rattle.std.proofs.Common.{◌≡◌, ◌++◌, drop, map}
use Rattle.ms_syntax.specs.Tree.{assignment_view}
use Rattle.ms_given.specs.Givings.{given_as}
use Rattle.ms_given.specs.Views.{givings_of}
use Rattle.ms_given.proofs.giving.push_data.Given as goal

abbrev pub invariant-loop-number : goal.invariant-loop-number
invariant-loop-number l =
    givings_of l.initial.list.items ++ given_as 0 (map assignment_view l.data)
    ≡ givings_of l.list.items ++ given_as l.number (map assignment_view (drop l.number l.data))
