use Rattle.std.proofs.Common.{◌≡◌, drop}
use Rattle.ms_declared.specs.Indexed.{sides_behind, sides_of}
use Rattle.ms_declared.proofs.sides.sides_of.Given as goal

abbrev pub invariant-loop-e : goal.invariant-loop-e
invariant-loop-e g l =
    sides_of (g.O.Surroundings.around l.outside) l.file l.indices
    ≡ sides_behind (g.O.Surroundings.around l.outside) l.file l.sides.items (drop l.e-index l.indices)
