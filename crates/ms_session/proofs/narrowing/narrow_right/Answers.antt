use Rattle.std.proofs.Common.{ap, subst}
use Rattle.std.specs.Prelude.{IfSome}
use Rattle.ms_num.specs.Sets.{spans_of}
use Rattle.ms_boxes.specs.Boxes.{box_of}
use Rattle.ms_session.specs.Narrowing.{Bounds}
use Rattle.ms_session.proofs.Narrowings.{box_self, narrowed_by}
use Rattle.ms_session.proofs.narrowing.narrow_right.Goals as goal

pub returns-in-Some : goal.returns-in-Some
returns-in-Some c =
    let spans = spans_of (box_of c.as_slice.result.now) in
    let bounds = subst (λ q. IfSome q (Bounds spans c.args.constraint.now)) c.in-Some.is c.in_ok-bound.ensures in
    narrowed_by (box_of c.args.sets) c.args.constraint.now c.in-Some.bound spans c.cut.result c.requires.proper (ap (λ q. spans_of (box_of q)) c.as_slice.ensures) bounds c.cut.ensures

pub returns-in-None : goal.returns-in-None
returns-in-None c = record { box = box_self (box_of c.args.sets) c.requires.proper; keeps = λ p i h. i }
