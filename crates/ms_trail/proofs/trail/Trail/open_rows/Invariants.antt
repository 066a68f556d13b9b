use Rattle.std.proofs.Common.{◌≡◌}
use Rattle.ms_trail.specs.Trailed.{sets_of}
use Rattle.ms_trail.proofs.trail.Trail.open_rows.Given as goal

abbrev pub invariant-loop-v : goal.invariant-loop-v
invariant-loop-v l = sets_of l.self ≡ sets_of l.initial.self
