use Rattle.ms_num.specs.Sets.{spans_of}
use Rattle.ms_boxes.specs.Boxes.{box_of}
use Rattle.std.proofs.Common.{take}
use Rattle.std.specs.Prelude.{All}
use Rattle.ms_session.specs.Plain.{MayBeTrue}
use Rattle.ms_session.proofs.plain_node.is_refuted.Given as goal

abbrev pub invariant-loop-constraint : goal.invariant-loop-constraint
invariant-loop-constraint l = All (MayBeTrue (spans_of (box_of l.sets))) (take l.constraint-index l.constraints)
