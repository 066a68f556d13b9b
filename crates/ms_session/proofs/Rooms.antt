-- The nodes that are spent in a scope are those that its outermost frame loses.
use Rattle.std.proofs.Common.{◌≡◌, ◌+◌, ◌<◌, ◌≤◌, refl, sym, subst, arith, List, [], ◌∷◌, ◌++◌, length, None}
use Rattle.ms_trees.specs.declared.branching.Branching.{Branching}
use Rattle.ms_session.specs.declared.budget.Frame.{Frame}
use Rattle.ms_session.specs.declared.session.Step.{Step}
use Rattle.ms_session.specs.Frames.{empty_frame, spend_one, outer_left}
use Rattle.ms_boxes.specs.Boxes.{Box, Each}
use Rattle.ms_session.specs.Scopes.{Scope, Next, none_left, stops, gives, goes_on, after_node, HasRoom}
use Rattle.ms_session.specs.Laws.{AllHaveRoom, OpeningHasRoom, PushingKeepsRoom, PoppingKeepsRoom, EnteringKeepsRoom, LeavingKeepsRoom, PostingKeepsRoom, SteppingKeepsRoom}
use Rattle.ms_session.proofs.Loops.{outer_some}

-- what nodes take from a frame, and where they count
record IsBoxStep (sc sc' : Scope) (fr fr' : List Frame) : Type 0 where
  same : sc'.spent + outer_left fr' ≡ sc.spent + outer_left fr
  less : outer_left fr' ≤ outer_left fr

one_taken : (sc : Scope) (fr : List Frame) → 0 < length fr → empty_frame fr ≡ None → (sc.spent + 1) + outer_left (spend_one fr) ≡ sc.spent + outer_left fr
one_taken sc [] l e = absurd (omega arith)
one_taken sc (f ∷ fr) l e = let p = outer_some (f ∷ fr) l e in omega (arith, p)

one_less : (fr : List Frame) → outer_left (spend_one fr) ≤ outer_left fr
one_less [] = omega arith
one_less (f ∷ fr) = omega arith

still_some : (fr : List Frame) → 0 < length fr → 0 < length (spend_one fr)
still_some [] l = absurd (omega arith)
still_some (f ∷ fr) l = omega arith

taken : (sets : Box) (br : Branching) (sc sc' : Scope) (fr fr' : List Frame) (step : Step) → 0 < length fr → Next sets br sc fr step sc' fr' → IsBoxStep sc sc' fr fr'
taken sets br sc sc' fr fr' step l (none_left e) = record { same = refl; less = omega arith }
taken sets br sc sc' fr fr' step l (stops e k) = record { same = refl; less = omega arith }
taken sets br sc sc' fr fr' step l (gives {p = p} {fs = fs} e n) = record { same = one_taken sc fr l e; less = one_less fr }
taken sets br sc sc' fr fr' step l (goes_on {fs = fs} e n h) =
    let rest = taken sets br (after_node sc fs) sc' (spend_one fr) fr' step (still_some fr l) h in
    let one = one_taken sc fr l e in
    let less = one_less fr in
    record { same = let s = rest.same in omega (arith, s, one); less = let s = rest.less in omega (arith, s, less) }

each_less : (fr fr' : List Frame) → outer_left fr' ≤ outer_left fr → (scs : List Scope) → Each (HasRoom fr) scs → Each (HasRoom fr') scs
each_less fr fr' l [] h = tt
each_less fr fr' l (sc ∷ scs) h = (let k = h.0 in omega (arith, k, l), each_less fr fr' l scs h.1)

pub stepping_keeps_room : SteppingKeepsRoom
stepping_keeps_room old new fr fr' step l h s =
    let t = taken old.sets old.branching old.scope s.scope fr fr' step l s.next in
    subst (AllHaveRoom fr') (sym s.is) (let k = h.0 in let e = t.same in omega (arith, k, e), each_less fr fr' t.less old.parents h.1)

pub opening_has_room : OpeningHasRoom
opening_has_room sets br cons s fr o l = (let z = o.scope.spent in omega (arith, z, l), subst (Each (HasRoom fr)) (sym o.parents) tt)

pub entering_keeps_room : EnteringKeepsRoom
entering_keeps_room old new fr h e = subst (AllHaveRoom fr) (sym e.is) (let z = e.fresh.spent in let k = h.0 in omega (arith, z, k), h)

each_same : (fr fr' : List Frame) → outer_left fr' ≡ outer_left fr → (scs : List Scope) → Each (HasRoom fr) scs → Each (HasRoom fr') scs
each_same fr fr' e scs h = each_less fr fr' (omega (arith, e)) scs h

outer_stays : (fr : List Frame) (f : Frame) → 0 < length fr → outer_left (fr ++ f ∷ []) ≡ outer_left fr
outer_stays [] f l = absurd (omega arith)
outer_stays (g ∷ fr) f l = refl

pub pushing_keeps_room : PushingKeepsRoom
pushing_keeps_room s fr f l h = each_same fr (fr ++ f ∷ []) (outer_stays fr f l) (s.scope ∷ s.parents) h

pub popping_keeps_room : PoppingKeepsRoom
popping_keeps_room s fr f l h = each_same (fr ++ f ∷ []) fr (sym (outer_stays fr f l)) (s.scope ∷ s.parents) h

pub leaving_keeps_room : LeavingKeepsRoom
leaving_keeps_room old new fr h e = subst (AllHaveRoom fr) (sym e.is) (subst (Each (HasRoom fr)) e.stood h.1)

pub posting_keeps_room : PostingKeepsRoom
posting_keeps_room s g fr h = h
