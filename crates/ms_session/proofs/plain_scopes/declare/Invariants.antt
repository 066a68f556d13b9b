use Rattle.std.proofs.Common.{◌≡◌, take}
use Rattle.ms_boxes.specs.Boxes.{Each, IsDeclared, box_of}
use Rattle.ms_session.proofs.plain_scopes.declare.Given as goal

abbrev pub invariant-loop-set : goal.invariant-loop-set
invariant-loop-set l = record {
  copied : l.copies.items ≡ take l.set-index l.sets;
  declared : Each IsDeclared (box_of (take l.set-index l.sets));
}
