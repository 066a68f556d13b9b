-- The steps of `next`.
use Rattle.std.proofs.Common.{◌≡◌, ◌≢◌, ℕ, zero, suc, ◌+◌, ◌<◌, List, [], ◌∷◌, length, Option, Some, None, refl, ap, ◌∙◌, arith, true}
use Rattle.std.specs.Prelude.{if◌then◌else◌, ◌==◌}
use Rattle.ms_session.specs.declared.budget.Frame.{Frame}
use Rattle.ms_session.specs.declared.session.Step.{Step}
use Rattle.ms_session.specs.declared.session.Step.TheVariants.{Found, NoneLeft, Spent}
use Rattle.ms_boxes.specs.Boxes.{Assignment, Box}
use Rattle.ms_session.specs.Frames.{empty_frame, spend_one, spend_many, outer_left}
use Rattle.ms_session.specs.Scopes.{Scope, SessionState, NodeGives, Next, none_left, stops, gives, goes_on, NextGives, Breaks, Loses, HasRoom, scope_after, after_node, with_scope}

-- from the start some nodes led here, and whatever the nodes from here come to, those from the start come to
pub record Walk (s0 : SessionState) (fr0 : List Frame) (s : SessionState) (fr : List Frame) : Type 0 where
  pub goes_on : (a : Step) (sc : Scope) (fr' : List Frame) → Next (s.sets) (s.branching) (s.scope) fr a sc fr' → Next (s0.sets) (s0.branching) (s0.scope) fr0 a sc fr'
  pub stays : s ≡ with_scope s0 (s.scope)
  pub lost : ℕ
  pub frames : fr ≡ spend_many lost fr0

pub walk_start : (s : SessionState) (fr : List Frame) → Walk s fr s fr
walk_start s fr = record { goes_on = λ a sc fr' h. h; stays = refl; lost = 0; frames = refl }

over : (s0 s : SessionState) → s ≡ with_scope s0 (s.scope) → (sc : Scope) → with_scope s sc ≡ with_scope s0 sc
over s0 s e sc = ap (λ q. with_scope q sc) e

pub walk_node : (s0 : SessionState) (fr0 : List Frame) (s s' : SessionState) (fr : List Frame) → Walk s0 fr0 s fr → empty_frame fr ≡ None → NodeGives s None s' → Walk s0 fr0 s' (spend_one fr)
walk_node s0 fr0 s s' fr w e n = rw n.is (record {
  goes_on = λ a sc fr' h. w.goes_on a sc fr' (goes_on e n.node h);
  stays = over s0 s w.stays (after_node (s.scope) n.frontier);
  lost = suc w.lost;
  frames = ap spend_one w.frames;
})

pub walk_steps : (s0 : SessionState) (fr0 : List Frame) (s : SessionState) (fr : List Frame) (a : Step) (sc : Scope) (fr' : List Frame) (s' : SessionState) → Walk s0 fr0 s fr → Next (s.sets) (s.branching) (s.scope) fr a sc fr' → s' ≡ with_scope s sc → NextGives s0 fr0 a s' fr'
walk_steps s0 fr0 s fr a sc fr' s' w h e = record { scope = sc; next = w.goes_on a sc fr' h; is = e ∙ over s0 s w.stays sc }

pub walk_found : (s0 : SessionState) (fr0 : List Frame) (s s' : SessionState) (fr : List Frame) (p : Assignment) → Walk s0 fr0 s fr → empty_frame fr ≡ None → NodeGives s (Some p) s' → NextGives s0 fr0 (Found p) s' (spend_one fr)
walk_found s0 fr0 s s' fr p w e n = walk_steps s0 fr0 s fr (Found p) (scope_after (s.scope) n.frontier (Some p)) (spend_one fr) s' w (gives e n.node) n.is

pub walk_spent : (s0 : SessionState) (fr0 : List Frame) (s : SessionState) (fr : List Frame) (k : ℕ) → Walk s0 fr0 s fr → s.scope.frontier ≢ [] → empty_frame fr ≡ Some k → NextGives s0 fr0 Spent s fr
walk_spent s0 fr0 s fr k w some e = walk_steps s0 fr0 s fr Spent (s.scope) fr s w (by_list (s.scope.frontier) refl) refl
  where
    by_list : (bs : List Box) → s.scope.frontier ≡ bs → Next (s.sets) (s.branching) (s.scope) fr Spent (s.scope) fr
    by_list [] is = absurd (some is)
    by_list (b ∷ bs) is = stops is e

pub walk_done : (s0 : SessionState) (fr0 : List Frame) (s s' : SessionState) (fr : List Frame) → Walk s0 fr0 s fr → s.scope.frontier ≡ [] → s' ≡ with_scope s (record (s.scope) { closed = true }) → NextGives s0 fr0 NoneLeft s' fr
walk_done s0 fr0 s s' fr w e is = walk_steps s0 fr0 s fr NoneLeft (record (s.scope) { closed = true }) fr s' w (none_left e) is

pub walk_breaks : (s0 : SessionState) (fr0 : List Frame) (s s' : SessionState) (fr : List Frame) → Walk s0 fr0 s fr → Breaks s s' → Breaks s0 s' × Loses fr0 fr
walk_breaks s0 fr0 s s' fr w b = (record { scope = b.scope; is = b.is ∙ ap (λ (q : SessionState). record q { scope = b.scope; failed = true }) w.stays }, record { nodes = w.lost; is = w.frames })

not_zero : (n : ℕ) (y : Option ℕ) → (if n == 0 then Some 0 else y) ≡ None → 0 < n
not_zero zero y e = absurd cc
not_zero (suc n) y e = omega arith

pub outer_some : (fr : List Frame) → 0 < length fr → empty_frame fr ≡ None → 0 < outer_left fr
outer_some [] l e = absurd (omega arith)
outer_some (f ∷ fr) l e = not_zero (f.left) _ e

room : (sc sc' : Scope) (fr : List Frame) → 0 < length fr → empty_frame fr ≡ None → sc'.spent ≡ sc.spent + 1 → HasRoom fr sc → HasRoom (spend_one fr) sc'
room sc sc' [] l e is h = absurd (omega arith)
room sc sc' (f ∷ fr) l e is h = let p = not_zero (f.left) _ e in omega arith

pub spend_room : (s s' : SessionState) (fr : List Frame) → 0 < length fr → empty_frame fr ≡ None → NodeGives s None s' → HasRoom fr (s.scope) → HasRoom (spend_one fr) (s'.scope)
spend_room s s' fr l e n h = room (s.scope) (s'.scope) fr l e (ap (λ (q : SessionState). q.scope.spent) n.is) h
