use Rattle.ms_boxes.specs.Boxes.{box_of}
use Rattle.ms_session.specs.Narrowing.{Narrows}
use Rattle.ms_session.proofs.narrowing.narrow.Given as goal

abbrev pub invariant-loop-constraint : goal.invariant-loop-constraint
invariant-loop-constraint l = Narrows l.constraints (box_of l.fn.sets) (box_of l.current)
