use Rattle.std.proofs.Common.{◌≡◌, take}
use Rattle.ms_boxes.specs.Boxes.{box_of, least_point}
use Rattle.ms_session.proofs.plain_node.least.Given as goal

abbrev pub invariant-loop-set : goal.invariant-loop-set
invariant-loop-set l = l.numbers.items ≡ least_point (box_of (take l.set-index l.sets))
