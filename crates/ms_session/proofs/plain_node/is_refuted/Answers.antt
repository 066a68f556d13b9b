use Rattle.std.proofs.Common.{arith, sym, ◌∙◌, ap}
use Rattle.ms_num.specs.Sets.{spans_of}
use Rattle.ms_boxes.specs.Boxes.{box_of}
use Rattle.ms_trees.specs.Enclosure.{enclosure}
use Rattle.ms_trees.proofs.Bools.{not_true}
use Rattle.ms_session.specs.Plain.{MayBeTrue}
use Rattle.ms_session.proofs.Walks.{passed_more, passed_all, not_false, hull_yes, refuted_at}
use Rattle.ms_session.proofs.plain_node.is_refuted.Goals as goal

pub loop-constraint-preserved : goal.loop-constraint-preserved
loop-constraint-preserved c =
    let yes = sym (hull_yes (enclosure (spans_of (box_of c.args.sets.now)) c.constraint-item.result).interval (enclosure (spans_of (box_of c.args.sets.now)) c.constraint-item.result)) ∙ sym (ap (λ h. h.may_be_true) c.in_ok-hull.ensures) ∙ not_false c.in_ok-hull.hull.may_be_true c.if-not-hull.false in
    passed_more (MayBeTrue (spans_of (box_of c.args.sets.now))) c.args.constraints.now c.loop-constraint.constraint-index c.constraint-item.result c.loop-constraint-test.true c.constraint-item.is c.loop-constraint.invariant yes

pub returns-then-not-hull : goal.returns-then-not-hull
returns-then-not-hull c =
    let no = sym (hull_yes (enclosure (spans_of (box_of c.args.sets.now)) c.constraint-item.result).interval (enclosure (spans_of (box_of c.args.sets.now)) c.constraint-item.result)) ∙ sym (ap (λ h. h.may_be_true) c.in_ok-hull.ensures) ∙ not_true c.in_ok-hull.hull.may_be_true c.if-not-hull.true in
    refuted_at c.hull_laws.ensures.refuted (box_of c.args.sets.now) c.args.constraints.now c.loop-constraint.constraint-index c.constraint-item.result c.loop-constraint-test.true c.constraint-item.is c.requires.proper c.requires.fit no

pub returns : goal.returns
returns c = passed_all (MayBeTrue (spans_of (box_of c.args.sets.now))) c.args.constraints.now c.loop-constraint.constraint-index (omega arith) c.loop-constraint.invariant
