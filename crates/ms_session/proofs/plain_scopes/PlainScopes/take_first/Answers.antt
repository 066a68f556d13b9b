use Rattle.std.proofs.Common.{sym, subst, refl}
use Rattle.std.specs.Prelude.{All, IfOk}
use Rattle.ms_trees.specs.WellFormed.{IsTruth}
use Rattle.ms_num.specs.Sets.{spans_of}
use Rattle.ms_session.specs.Scopes.{NodeGives}
use Rattle.ms_boxes.specs.Boxes.{box_of}
use Rattle.ms_session.specs.Plain.{IsBoxStep}
use Rattle.ms_session.specs.Stored.{state_of}
use Rattle.ms_boxes.proofs.SharedFitting.{box_proper, all_fit}
use Rattle.ms_session.proofs.Stacks.{Taking, last_box, sound_put, node_put, stored}
use Rattle.ms_session.proofs.plain_scopes.PlainScopes.take_first.Goals as goal

pub box_step-requires-clause-proper : goal.box_step-requires-clause-proper
box_step-requires-clause-proper c = box_proper (box_of c.self.inside.declared) (box_of c.in-Some.first) (last_box (box_of c.self.inside.declared) c.self.inside.current.boxes.items c.pop.new.self.items c.in-Some.first c.self.invariant.scope.boxes c.in-Some.ensures.items)

pub box_step-requires-clause-fit : goal.box_step-requires-clause-fit
box_step-requires-clause-fit c = subst (All (IsTruth (spans_of (box_of c.in-Some.first)))) (sym c.as_slice-constraints.ensures.value) (all_fit c.hull_laws.ensures.well_formed (box_of c.self.inside.declared) (box_of c.in-Some.first) c.self.invariant.declared (last_box (box_of c.self.inside.declared) c.self.inside.current.boxes.items c.pop.new.self.items c.in-Some.first c.self.invariant.scope.boxes c.in-Some.ensures.items) c.self.inside.constraints.items c.self.invariant.scope.fit)

-- the scope, the scope without its first box, and what was made of the box
taking : (c : goal.After-apply) → Taking (box_of c.self.inside.declared) c.self.inside.branching c.self.inside.constraints.items c.self.inside.current (record (c.self.inside.current) { boxes = c.pop.new.self }) c.in-Some.first c.in_ok-step.step
taking c = record {
  sound = c.self.invariant.scope;
  live = refl;
  given = refl;
  boxes = c.in-Some.ensures.items;
  spent = refl;
  closed = refl;
  takes = subst (λ q. IsBoxStep c.self.inside.branching q (box_of c.in-Some.first) c.in_ok-step.step) c.as_slice-constraints.ensures.value c.in_ok-step.ensures;
}

pub invariant_of-self-2 : goal.invariant_of-self-2
invariant_of-self-2 c = record {
  declared = c.self.invariant.declared;
  scope = sound_put (box_of c.self.inside.declared) c.self.inside.branching c.self.inside.constraints.items c.self.inside.current (record (c.self.inside.current) { boxes = c.pop.new.self }) c.apply.new.self c.in-Some.first c.in_ok-step.step c.apply.result (taking c) c.apply.ensures.ok c.apply.ensures.err;
  below = c.self.invariant.below;
  depth = c.self.invariant.depth;
}

pub returns-clause-ok : goal.returns-clause-ok
returns-clause-ok c =
    let gives = node_put c.self.inside.declared c.self.inside.branching c.self.inside.constraints.items c.self.inside.current (record (c.self.inside.current) { boxes = c.pop.new.self }) c.apply.new.self c.self.inside.parents.items c.self.inside.failed c.in-Some.first c.in_ok-step.step c.apply.result (taking c) c.apply.ensures.ok in
    subst (λ q. IfOk c.apply.result (λ a. NodeGives (state_of q) a (state_of (stored c.self.inside.declared c.self.inside.branching c.self.inside.constraints.items c.apply.new.self c.self.inside.parents.items c.self.inside.failed)))) c.self.view_is gives
