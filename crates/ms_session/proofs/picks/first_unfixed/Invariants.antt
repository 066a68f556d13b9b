use Rattle.std.proofs.Common.{◌≡◌, drop}
use Rattle.ms_boxes.specs.Branchings.{first_unfixed}
use Rattle.ms_boxes.specs.Boxes.{box_of}
use Rattle.ms_session.proofs.picks.first_unfixed.Given as goal

abbrev pub invariant-loop-variable : goal.invariant-loop-variable
invariant-loop-variable l = first_unfixed (box_of l.sets) (drop l.variable-index l.variables) ≡ first_unfixed (box_of l.sets) l.variables
