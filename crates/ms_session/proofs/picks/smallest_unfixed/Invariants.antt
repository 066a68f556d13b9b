use Rattle.std.proofs.Common.{◌≡◌, drop}
use Rattle.ms_boxes.specs.Branchings.{smallest_unfixed}
use Rattle.ms_boxes.specs.Boxes.{box_of}
use Rattle.ms_session.proofs.Turns.{joined}
use Rattle.ms_session.proofs.picks.smallest_unfixed.Given as goal

abbrev pub invariant-loop-variable : goal.invariant-loop-variable
invariant-loop-variable l = joined (box_of l.sets) l.best (smallest_unfixed (box_of l.sets) (drop l.variable-index l.variables)) ≡ smallest_unfixed (box_of l.sets) l.variables
