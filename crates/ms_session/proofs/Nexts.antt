-- What holds of `next`, by its nodes.
use Rattle.std.proofs.Common.{◌≡◌, ◌≢◌, ◌⊎◌, inl, inr, ℕ, ◌+◌, ◌≤◌, zero, suc, refl, sym, ap, ◌∙◌, subst, arith, rules, List, [], ◌∷◌, length, Option, Some, None}
use Rattle.std.proofs.lemmas.Bool.Decides.{nat_tests}
use Rattle.std.specs.Prelude.{◌<◌, Bool, true, false, if◌then◌else◌, ◌==◌, slice_get, option_map}
use Rattle.ms_trees.specs.declared.branching.Branching.{Branching}
use Rattle.ms_session.specs.declared.budget.Frame.{Frame}
use Rattle.ms_session.specs.declared.session.Step.{Step}
use Rattle.ms_session.specs.declared.session.Step.TheVariants.{Found, NoneLeft, Spent}
use Rattle.ms_session.specs.Frames.{empty_from, empty_frame, spend_one, spent_frame}
use Rattle.ms_boxes.specs.Boxes.{Each, EachPair, IsGiven, InSome, Assignment, Box, InBox, IsBox, frontier_nodes}
use Rattle.ms_boxes.specs.Branchings.{IsOrdered, comparison_order, Before}
use Rattle.ms_session.specs.Scopes.{Scope, Next, after_node, none_left, stops, gives, goes_on}
use Rattle.ms_boxes.specs.Trees.{Meets, Node}
use Rattle.ms_boxes.specs.Nodes.{answers}
use Rattle.ms_session.specs.Valid.{IsValid}
use Rattle.ms_boxes.specs.Laws.{AllBefore}
use Rattle.ms_session.specs.Laws.{NodesKeepValid, NextKeepsValid, FewNodes, HasEnough, EnoughIsLeft, EnoughIsNeverSpent, LargeFrameNeverCuts, EnoughStaysEnough, IsNewSolution, BySolutions, NextIsBySolutions}
use Rattle.ms_boxes.proofs.SharedCutting.{box_some}
use Rattle.ms_session.proofs.Validity.{node_valid}
use Rattle.ms_boxes.proofs.SharedParts.{box_in_sets, box_length}

pub nodes_keep_valid : NodesKeepValid
nodes_keep_valid sets br sc answer fs v n = node_valid sets br (sc.cons) (sc.given) (sc.frontier) (sc.spent) (sc.closed) answer fs v n

pub next_keeps_valid : NextKeepsValid
next_keeps_valid sets br sc sc' fr fr' step v (none_left e) = record { fit = v.fit; boxes = v.boxes; apart = v.apart; new = v.new; covers = v.covers; bounded = v.bounded; once = v.once; closed = λ _. e; given = v.given; in_order = v.in_order }
next_keeps_valid sets br sc sc' fr fr' step v (stops e k) = v
next_keeps_valid sets br sc sc' fr fr' step v (gives {p = p} {fs = fs} e n) = nodes_keep_valid sets br sc (Some p) fs v n
next_keeps_valid sets br sc sc' fr fr' step v (goes_on {fs = fs} e n h) = next_keeps_valid sets br (after_node sc fs) sc' (spend_one fr) fr' step (nodes_keep_valid sets br sc None fs v n) h

pub few_nodes : FewNodes
few_nodes sets br sc v = let h = v.bounded in omega (arith, h)

zero_plus : (n : ℕ) → 0 + n ≡ n
zero_plus n = omega arith

later : (j k : ℕ) → j + suc k ≡ suc j + k
later j k = omega arith

some_same : (a b : ℕ) → Some a ≡ Some b → a ≡ b
some_same a b e = ap (or_else a) e
  where
    or_else : ℕ → Option ℕ → ℕ
    or_else d None = d
    or_else d (Some x) = x

-- the test of a number above 0
not_first : (n : ℕ) (x y : Option ℕ) → (if suc n == 0 then x else y) ≡ y
not_first n x y = search rules

-- the place of an empty frame is counted from the first
empty_at_least : (j k : ℕ) (fr : List Frame) → empty_from j fr ≡ Some k → j ≤ k
empty_at_least j k [] e = absurd cc
empty_at_least j k (f ∷ fr) e = by_left (f.left) (empty_at_least (suc j) k fr) e
  where
    by_left : (n : ℕ) → (empty_from (suc j) fr ≡ Some k → suc j ≤ k) → (if n == 0 then Some j else empty_from (suc j) fr) ≡ Some k → j ≤ k
    by_left zero after h = let s : j ≡ k = some_same j k h in omega (arith, s)
    by_left (suc n) after h = let l = after (sym (not_first n (Some j) (empty_from (suc j) fr)) ∙ h) in omega (arith, l)

-- a frame of which something is left is not the empty one
not_empty : (j k : ℕ) (fr : List Frame) (f : Frame) → slice_get fr k ≡ Some f → 1 ≤ f.left → empty_from j fr ≢ Some (j + k)
not_empty j k [] f e l = λ q. absurd cc
not_empty j zero (g ∷ fr) f e l = by_left (g.left) (ap left_or (sym e))
  where
    left_or : Option Frame → ℕ
    left_or None = 0
    left_or (Some f) = f.left

    by_left : (n : ℕ) → f.left ≡ n → (if n == 0 then Some j else empty_from (suc j) fr) ≢ Some (j + 0)
    by_left zero is = λ q. absurd (omega (arith, l, is))
    by_left (suc n) is = λ q. let m = empty_at_least (suc j) (j + 0) fr (sym (not_first n (Some j) (empty_from (suc j) fr)) ∙ q) in absurd (omega (arith, m))
not_empty j (suc k) (g ∷ fr) f e l = by_left (g.left) (not_empty (suc j) k fr f e l)
  where
    by_left : (n : ℕ) → empty_from (suc j) fr ≢ Some (suc j + k) → (if n == 0 then Some j else empty_from (suc j) fr) ≢ Some (j + suc k)
    by_left zero after = λ q. let s : j ≡ j + suc k = some_same j (j + suc k) q in absurd (omega (arith, s))
    by_left (suc n) after = λ q. after (sym (not_first n (Some j) (empty_from (suc j) fr)) ∙ q ∙ ap Some (later j k))

-- the same frame after one node
spent_at : (fr : List Frame) (k : ℕ) (f : Frame) → slice_get fr k ≡ Some f → slice_get (spend_one fr) k ≡ Some (spent_frame f)
spent_at [] k f e = absurd cc
spent_at (g ∷ fr) zero f e = ap (option_map spent_frame) e
spent_at (g ∷ fr) (suc k) f e = spent_at fr k f e

enough_after : (sets : Box) (sc : Scope) (fs : List Box) (f : Frame) → HasEnough sets sc f → HasEnough sets (after_node sc fs) (spent_frame f)
enough_after sets sc fs f h = omega (arith, h)

same_frame : (fr : List Frame) (k : ℕ) (f g : Frame) → slice_get fr k ≡ Some f → slice_get fr k ≡ Some g → f ≡ g
same_frame fr k f g e h = ap (or_else f) (sym e ∙ h)
  where
    or_else : Frame → Option Frame → Frame
    or_else d None = d
    or_else d (Some x) = x

frontier_some : (sets : Box) (fs : List Box) (b : Box) (rest : List Box) → fs ≡ b ∷ rest → Each (IsBox sets) fs → 1 ≤ frontier_nodes fs
frontier_some sets [] b rest e i = absurd (cc)
frontier_some sets (c ∷ fs) b rest e i = let h = box_some sets c i.0 in omega (arith, h)

never_cut : (sets : Box) (br : Branching) (sc sc' : Scope) (fr fr' : List Frame) (step : Step) (k : ℕ) (f : Frame) → step ≡ Spent → IsValid sets br sc → Next sets br sc fr step sc' fr' → slice_get fr k ≡ Some f → HasEnough sets sc f → empty_frame fr' ≢ Some k
never_cut sets br sc sc' fr fr' step k f is v (none_left h) at e = absurd cc
never_cut sets br sc sc' fr fr' step k f is v (stops {b = b} {rest = rest} h _) at e =
    let s = frontier_some sets (sc.frontier) b rest h v.boxes in
    let t = v.bounded in
    λ q. not_empty 0 k fr f at (omega (arith, s, t, e)) (q ∙ ap Some (sym (zero_plus k)))
never_cut sets br sc sc' fr fr' step k f is v (gives h n) at e = absurd cc
never_cut sets br sc sc' fr fr' step k f is v (goes_on {fs = fs} _ n h) at e = never_cut sets br (after_node sc fs) sc' (spend_one fr) fr' step k (spent_frame f) is (nodes_keep_valid sets br sc None fs v n) h (spent_at fr k f at) (enough_after sets sc fs f e)

pub enough_is_left : EnoughIsLeft
enough_is_left sets br sc f v some e = by_frontier (sc.frontier) refl
  where
    by_frontier : (fs : List Box) → sc.frontier ≡ fs → 0 < f.left
    by_frontier [] h = absurd (some h)
    by_frontier (b ∷ rest) h =
        let s = frontier_some sets (sc.frontier) b rest h v.boxes in
        let t = v.bounded in
        omega (arith, s, t, e)

none_is_empty : (k : ℕ) (fr : List Frame) → Each (λ f. 0 < f.left) fr → empty_from k fr ≡ None
none_is_empty k [] h = refl
none_is_empty k (f ∷ fr) h = by_test (f.left == 0) refl (none_is_empty (suc k) fr h.1)
  where
    by_test : (t : Bool) → (f.left == 0) ≡ t → empty_from (suc k) fr ≡ None → (if t then Some k else empty_from (suc k) fr) ≡ None
    by_test true e rest = absurd (let z : f.left ≡ 0 = grind (arith, nat_tests) in let l = h.0 in omega (arith, z, l))
    by_test false e rest = rest

each_left : (sets : Box) (br : Branching) (sc : Scope) (fr : List Frame) → IsValid sets br sc → sc.frontier ≢ [] → Each (HasEnough sets sc) fr → Each (λ f. 0 < f.left) fr
each_left sets br sc [] v some h = tt
each_left sets br sc (f ∷ fr) v some h = (enough_is_left sets br sc f v some h.0, each_left sets br sc fr v some h.1)

each_enough : (sets : Box) (sc : Scope) (fs : List Box) (fr : List Frame) → Each (HasEnough sets sc) fr → Each (HasEnough sets (after_node sc fs)) (spend_one fr)
each_enough sets sc fs [] h = tt
each_enough sets sc fs (f ∷ fr) h = (enough_after sets sc fs f h.0, each_enough sets sc fs fr h.1)

never_spent : (sets : Box) (br : Branching) (sc sc' : Scope) (fr fr' : List Frame) (step : Step) → step ≡ Spent → IsValid sets br sc → Next sets br sc fr step sc' fr' → Each (HasEnough sets sc) fr → ⊥
never_spent sets br sc sc' fr fr' step is v (none_left h) e = absurd cc
never_spent sets br sc sc' fr fr' step is v (stops {b = b} {rest = rest} {k = k} h g) e = none_not_some k (sym (none_is_empty 0 fr (each_left sets br sc fr v (λ n. nothing_in b rest (sym h ∙ n)) e)) ∙ g)
  where
    none_not_some : (k : ℕ) → None ≡ Some k → ⊥
    none_not_some k e = absurd (cc)

    nothing_in : (b : Box) (rest : List Box) → b ∷ rest ≡ [] → ⊥
    nothing_in b rest e = absurd (cc)
never_spent sets br sc sc' fr fr' step is v (gives h n) e = absurd cc
never_spent sets br sc sc' fr fr' step is v (goes_on {fs = fs} _ n h) e = never_spent sets br (after_node sc fs) sc' (spend_one fr) fr' step is (nodes_keep_valid sets br sc None fs v n) h (each_enough sets sc fs fr e)

pub enough_is_never_spent : EnoughIsNeverSpent
enough_is_never_spent sets br sc sc' fr fr' v n e = never_spent sets br sc sc' fr fr' Spent refl v n e

pub large_frame_never_cuts : LargeFrameNeverCuts
large_frame_never_cuts sets br sc sc' fr fr' k f v n = never_cut sets br sc sc' fr fr' Spent k f refl v n

pub enough_stays_enough : EnoughStaysEnough
enough_stays_enough sets br sc sc' fr fr' step k f f' (none_left h) at now e = let s = same_frame fr k f f' at now in subst (HasEnough sets sc) s e
enough_stays_enough sets br sc sc' fr fr' step k f f' (stops h _) at now e = let s = same_frame fr k f f' at now in subst (HasEnough sets sc) s e
enough_stays_enough sets br sc sc' fr fr' step k f f' (gives {p = p} {fs = fs} _ n) at now e = let s = same_frame (spend_one fr) k (spent_frame f) f' (spent_at fr k f at) now in subst (HasEnough sets (after_node sc fs)) s (enough_after sets sc fs f e)
enough_stays_enough sets br sc sc' fr fr' step k f f' (goes_on {fs = fs} _ n h) at now e = enough_stays_enough sets br (after_node sc fs) sc' (spend_one fr) fr' step k (spent_frame f) f' h (spent_at fr k f at) now (enough_after sets sc fs f e)

before_some : (br : Branching) (sets b : Box) (bs : List Box) (p q : Assignment) → IsBox sets b → Each (AllBefore br b) bs → InBox p b → InSome q bs → Before (comparison_order br (length sets)) p q
before_some br sets b [] p q i a hp hq = absurd hq
before_some br sets b (c ∷ bs) p q i a hp (inl h) = subst (λ m. Before (comparison_order br m) p q) (box_length sets b i) (a.0 p q hp h)
before_some br sets b (c ∷ bs) p q i a hp (inr h) = before_some br sets b bs p q i a.1 hp h

found : (sets : Box) (br : Branching) (sc : Scope) (frontier : List Box) (p : Assignment) (fs : List Box) → sc.frontier ≡ frontier → IsValid sets br sc → Node sets br (sc.cons) frontier (Some p) fs → IsNewSolution sets br sc p
found sets br sc frontier p fs e v (answers {b} {rest} only) = record {
  assigned = box_in_sets sets b boxes.0 p only.inside;
  meets = only.meets;
  new = λ g. v.new p g (subst (InSome p) (sym e) (inl only.inside));
  least = λ o q i m never. least o q m never (subst (λ f. IsGiven (sc.given) q ⊎ InSome q f) e (v.covers q i m));
}
  where
    boxes : Each (IsBox sets) (b ∷ rest)
    boxes = subst (Each (IsBox sets)) e v.boxes

    least : IsOrdered br → (q : Assignment) → Meets (sc.cons) q → (IsGiven (sc.given) q → ⊥) → IsGiven (sc.given) q ⊎ (InBox q b ⊎ InSome q rest) → (q ≡ p) ⊎ Before (comparison_order br (length sets)) p q
    least o q m never (inl g) = absurd (never g)
    least o q m never (inr (inl h)) = inl (only.alone q h m)
    least o q m never (inr (inr h)) = inr (before_some br sets b rest p q boxes.0 (subst (EachPair (AllBefore br)) e (v.in_order o)).0 only.inside h)

on : (sets : Box) (br : Branching) (sc : Scope) (fs : List Box) (step : Step) → BySolutions sets br (after_node sc fs) step → BySolutions sets br sc step
on sets br sc fs (Found p) h = record { assigned = h.assigned; meets = h.meets; new = h.new; least = h.least }
on sets br sc fs NoneLeft h = h
on sets br sc fs Spent h = h

pub next_is_by_solutions : NextIsBySolutions
next_is_by_solutions sets br sc sc' fr fr' step v (none_left e) = λ p i m. none p (v.covers p i m)
  where
    none : (p : Assignment) → IsGiven (sc.given) p ⊎ InSome p (sc.frontier) → IsGiven (sc.given) p
    none p (inl g) = g
    none p (inr h) = absurd (subst (InSome p) e h)
next_is_by_solutions sets br sc sc' fr fr' step v (stops e k) = tt
next_is_by_solutions sets br sc sc' fr fr' step v (gives {p = p} {fs = fs} e n) = found sets br sc (sc.frontier) p fs refl v n
next_is_by_solutions sets br sc sc' fr fr' step v (goes_on {fs = fs} e n h) = on sets br sc fs step (next_is_by_solutions sets br (after_node sc fs) sc' (spend_one fr) fr' step (nodes_keep_valid sets br sc None fs v n) h)
