use Rattle.std.proofs.Common.{take}
use Rattle.ms_boxes.specs.Boxes.{box_of, IsProper}
use Rattle.ms_session.proofs.plain_scope.are_proper.Given as goal

abbrev pub invariant-loop-set : goal.invariant-loop-set
invariant-loop-set l = IsProper (box_of (take l.set-index l.sets))
