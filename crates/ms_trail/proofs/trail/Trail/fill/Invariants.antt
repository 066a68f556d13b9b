use Rattle.ms_trail.proofs.Filled.{Fills}
use Rattle.ms_trail.proofs.trail.Trail.fill.Given as goal

abbrev pub invariant-loop-i : goal.invariant-loop-i
invariant-loop-i l = Fills l.initial.self l.self l.v l.domain l.i
