use Rattle.std.proofs.Common.{◌≡◌, ◌∙◌, sym, ap, None, Some}
use Rattle.ms_boxes.specs.Branchings.{pick}
use Rattle.ms_boxes.specs.Boxes.{box_of, least_point}
use Rattle.ms_boxes.proofs.SharedSingles.{closed_size}
use Rattle.ms_boxes.proofs.SharedPicking.{picked_is_open}
use Rattle.ms_session.proofs.RangeBoxes.{picked_within, cuts_from}
use Rattle.ms_session.proofs.Walks.{not_refuted, single_answer}
use Rattle.ms_session.proofs.plain_node.narrowed_step.Goals as goal

pub halves-requires-clause-unfixed : goal.halves-requires-clause-unfixed
halves-requires-clause-unfixed c =
    let some : pick c.args.branching.now (box_of c.args.sets) ≡ Some (c.in-Some.variable, c.in-Some.choice) = ap (λ q. pick c.args.branching.now (box_of q)) (sym c.as_slice-2.ensures) ∙ sym c.pick.ensures ∙ c.in-Some.is in
    picked_is_open c.args.branching.now (box_of c.args.sets) c.in-Some.variable c.in-Some.choice some

pub halves-requires-clause-within : goal.halves-requires-clause-within
halves-requires-clause-within c =
    let some : pick c.args.branching.now (box_of c.args.sets) ≡ Some (c.in-Some.variable, c.in-Some.choice) = ap (λ q. pick c.args.branching.now (box_of q)) (sym c.as_slice-2.ensures) ∙ sym c.pick.ensures ∙ c.in-Some.is in
    picked_within c.args.branching.now c.args.sets c.in-Some.variable c.in-Some.choice some

pub returns-in_ok-least-in-None : goal.returns-in_ok-least-in-None
returns-in_ok-least-in-None c =
    let none : pick c.args.branching.now (box_of c.args.sets) ≡ None = ap (λ q. pick c.args.branching.now (box_of q)) (sym c.as_slice-2.ensures) ∙ sym c.pick.ensures ∙ c.in-None.is in
    single_answer c.hull_laws.ensures.single (box_of c.args.sets) c.args.constraints.now c.in_ok-least-in-None.field-0 c.requires.proper (closed_size c.args.branching.now (box_of c.args.sets) c.requires.proper none) (c.in_ok-least-in-None.ensures ∙ ap (λ q. least_point (box_of q)) c.as_slice-in-None.ensures) c.requires.fit
    (not_refuted c.args.sets c.as_slice.result.now c.args.constraints.now c.in_ok-is_refuted.field-0 c.as_slice.ensures c.if-branch.false c.in_ok-is_refuted.ensures)

pub returns-in_ok-first-in-Some : goal.returns-in_ok-first-in-Some
returns-in_ok-first-in-Some c =
    let some : pick c.args.branching.now (box_of c.args.sets) ≡ Some (c.in-Some.variable, c.in-Some.choice) = ap (λ q. pick c.args.branching.now (box_of q)) (sym c.as_slice-2.ensures) ∙ sym c.pick.ensures ∙ c.in-Some.is in
    cuts_from c.args.branching.now c.args.constraints.now (box_of c.args.sets) (box_of c.in_ok-first-in-Some.first) (box_of c.in_ok-first-in-Some.second) c.in-Some.variable c.in-Some.choice c.requires.proper some
    (not_refuted c.args.sets c.as_slice.result.now c.args.constraints.now c.in_ok-is_refuted.field-0 c.as_slice.ensures c.if-branch.false c.in_ok-is_refuted.ensures)
    c.in_ok-first-in-Some.ensures
