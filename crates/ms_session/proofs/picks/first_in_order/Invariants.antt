use Rattle.std.proofs.Common.{length}
use Rattle.ms_boxes.specs.Boxes.{box_of}
use Rattle.ms_session.proofs.Turns.{FirstFrom}
use Rattle.ms_session.proofs.picks.first_in_order.Given as goal

abbrev pub invariant-loop-variable : goal.invariant-loop-variable
invariant-loop-variable l = FirstFrom (box_of l.sets) (length l.sets) l.variable
