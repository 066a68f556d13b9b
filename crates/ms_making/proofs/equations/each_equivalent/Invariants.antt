use Rattle.std.proofs.Common.{◌≡◌, drop}
use Rattle.ms_made.specs.Constraining.{constrain_all, each_equivalent}
use Rattle.ms_making.specs.Views.{constraints_of}
use Rattle.ms_making.proofs.equations.each_equivalent.Given as goal

abbrev pub invariant-loop-i : goal.invariant-loop-i
invariant-loop-i l =
    constrain_all l.place (each_equivalent l.xs l.ys) (constraints_of l.initial.constraints)
    ≡ constrain_all l.place (each_equivalent (drop l.i l.xs) (drop l.i l.ys)) (constraints_of l.constraints)
