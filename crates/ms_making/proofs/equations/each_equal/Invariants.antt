use Rattle.std.proofs.Common.{◌≡◌, drop}
use Rattle.ms_made.specs.Constraining.{constrain_all, each_equal}
use Rattle.ms_making.specs.Views.{constraints_of}
use Rattle.ms_making.proofs.equations.each_equal.Given as goal

abbrev pub invariant-loop-i : goal.invariant-loop-i
invariant-loop-i l =
    constrain_all l.place (each_equal l.xs l.ys) (constraints_of l.initial.constraints)
    ≡ constrain_all l.place (each_equal (drop l.i l.xs) (drop l.i l.ys)) (constraints_of l.constraints)
