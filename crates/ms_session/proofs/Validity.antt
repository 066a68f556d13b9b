-- Each node keeps a scope valid.
use Rattle.std.proofs.Common.{◌≡◌, ◌⊎◌, inl, inr, ℕ, sym, ◌∙◌, subst, arith, Bool, List, [], ◌∷◌, ◌++◌, Option}
use Rattle.ms_trees.specs.declared.tree.Ground.{Ground}
use Rattle.ms_trees.specs.declared.branching.Branching.{Branching}
use Rattle.ms_boxes.specs.Boxes.{EachPair, Each, IsGiven, InSome, Assignment, Box, InBox, IsBox, Covers, AreDisjoint}
use Rattle.ms_boxes.specs.Branchings.{comparison_order, Before}
use Rattle.ms_boxes.specs.Trees.{Meets, Node}
use Rattle.ms_boxes.specs.Nodes.{drops, answers, splits}
use Rattle.ms_session.specs.Scopes.{scope_after}
use Rattle.ms_session.specs.Valid.{AreDifferent, IsValid}
use Rattle.ms_boxes.specs.Laws.{AllBefore}
use Rattle.ms_boxes.specs.Laws.{Parts}
use Rattle.ms_boxes.specs.Trees.{ground_trees}
use Rattle.ms_boxes.proofs.SharedParts.{box_in_sets, box_length, parts_of, parts_in_order}
use Rattle.ms_boxes.proofs.SharedCutting.{box_some}

pub given_left : (gs : List Assignment) (p q : Assignment) → IsGiven gs q → IsGiven (gs ++ p ∷ []) q
given_left [] p q h = absurd h
given_left (g ∷ gs) p q (inl e) = inl e
given_left (g ∷ gs) p q (inr h) = inr (given_left gs p q h)

pub given_last : (gs : List Assignment) (p q : Assignment) → p ≡ q → IsGiven (gs ++ p ∷ []) q
given_last [] p q e = inl e
given_last (g ∷ gs) p q e = inr (given_last gs p q e)

pub given_either : (gs : List Assignment) (p q : Assignment) → IsGiven (gs ++ p ∷ []) q → IsGiven gs q ⊎ (p ≡ q)
given_either [] p q (inl e) = inr e
given_either [] p q (inr h) = absurd h
given_either (g ∷ gs) p q (inl e) = inl (inl e)
given_either (g ∷ gs) p q (inr h) = over (given_either gs p q h)
  where
    over : IsGiven gs q ⊎ (p ≡ q) → IsGiven (g ∷ gs) q ⊎ (p ≡ q)
    over (inl k) = inl (inr k)
    over (inr e) = inr e

each_last : (P : Assignment → Type 0) (gs : List Assignment) (p : Assignment) → Each P gs → P p → Each P (gs ++ p ∷ [])
each_last P [] p h q = (q, tt)
each_last P (g ∷ gs) p h q = (h.0, each_last P gs p h.1 q)

-- one more that was not given before
given_once : (gs : List Assignment) (p : Assignment) → EachPair AreDifferent gs → (IsGiven gs p → ⊥) → EachPair AreDifferent (gs ++ p ∷ [])
given_once [] p a new = (tt, tt)
given_once (g ∷ gs) p a new = (each_last (AreDifferent g) gs p a.0 (λ e. new (inl e)), given_once gs p a.1 (λ h. new (inr h)))

each_some : (b : Box) (bs : List Box) (p : Assignment) → Each (AreDisjoint b) bs → InBox p b → InSome p bs → ⊥
each_some b [] p d h s = s
each_some b (c ∷ bs) p d h (inl i) = d.0 p h i
each_some b (c ∷ bs) p d h (inr s) = each_some b bs p d.1 h s

each_within : (b c : Box) (bs : List Box) → Covers b c → Each (AreDisjoint b) bs → Each (AreDisjoint c) bs
each_within b c [] w d = tt
each_within b c (e ∷ bs) w d = (λ p h. d.0 p (w p h), each_within b c bs w d.1)

within_before : (br : Branching) (sets b c : Box) (bs : List Box) → IsBox sets b → IsBox sets c → Covers b c → Each (AllBefore br b) bs → Each (AllBefore br c) bs
within_before br sets b c [] i j w a = tt
within_before br sets b c (e ∷ bs) i j w a = (λ p q hp hq. subst (λ m. Before (comparison_order br m) p q) (box_length sets b i ∙ sym (box_length sets c j)) (a.0 p q (w p hp) hq), within_before br sets b c bs i j w a.1)

-- the parts of a scope after a drop or a split
pub node_valid : (sets : Box) (br : Branching) (cons : List Ground) (given : List Assignment) (frontier : List Box) (spent : ℕ) (closed : Bool) (answer : Option Assignment) (fs : List Box) → IsValid sets br (record { cons = cons; given = given; frontier = frontier; spent = spent; closed = closed }) → Node sets br cons frontier answer fs → IsValid sets br (scope_after (record { cons = cons; given = given; frontier = frontier; spent = spent; closed = closed }) fs answer)
node_valid sets br cons given frontier spent closed answer fs v (drops {b} {rest} none) = record {
  fit = v.fit;
  boxes = v.boxes.1;
  apart = v.apart.1;
  new = λ p g s. v.new p g (inr s);
  covers = λ p i m. left p m (v.covers p i m);
  bounded = let h = v.bounded in let o = box_some sets b v.boxes.0 in omega (arith, h, o);
  once = v.once;
  closed = λ e. absurd (let f = v.closed e in cc);
  given = v.given;
  in_order = λ o. (v.in_order o).1;
}
  where
    left : (p : Assignment) → Meets cons p → IsGiven given p ⊎ (InBox p b ⊎ InSome p rest) → IsGiven given p ⊎ InSome p rest
    left p m (inl g) = inl g
    left p m (inr (inl h)) = absurd (none p h m)
    left p m (inr (inr s)) = inr s
node_valid sets br cons given frontier spent closed answer fs v (answers {b} {rest} {p} only) = record {
  fit = v.fit;
  boxes = v.boxes.1;
  apart = v.apart.1;
  new = λ q g s. fresh q s (given_either given p q g);
  covers = λ q i m. found q m (v.covers q i m);
  bounded = let h = v.bounded in let o = box_some sets b v.boxes.0 in omega (arith, h, o);
  once = given_once given p v.once (λ h. v.new p h (inl only.inside));
  closed = λ e. absurd (let f = v.closed e in cc);
  given = λ q g. declared q (given_either given p q g);
  in_order = λ o. (v.in_order o).1;
}
  where
    fresh : (q : Assignment) → InSome q rest → IsGiven given q ⊎ (p ≡ q) → ⊥
    fresh q s (inl g) = v.new q g (inr s)
    fresh q s (inr e) = each_some b rest q v.apart.0 (subst (λ r. InBox r b) e only.inside) s

    found : (q : Assignment) → Meets cons q → IsGiven given q ⊎ (InBox q b ⊎ InSome q rest) → IsGiven (given ++ p ∷ []) q ⊎ InSome q rest
    found q m (inl g) = inl (given_left given p q g)
    found q m (inr (inl h)) = inl (given_last given p q (sym (only.alone q h m)))
    found q m (inr (inr s)) = inr s

    declared : (q : Assignment) → IsGiven given q ⊎ (p ≡ q) → InBox q sets
    declared q (inl g) = v.given q g
    declared q (inr e) = subst (λ r. InBox r sets) e (box_in_sets sets b v.boxes.0 p only.inside)
node_valid sets br cons given frontier spent closed answer fs v (splits {b} {c} {d} {rest} s) = record {
  fit = v.fit;
  boxes = (k.left_box, (k.right_box, v.boxes.1));
  apart = ((k.apart, each_within b c rest k.left_in v.apart.0), (each_within b d rest k.right_in v.apart.0, v.apart.1));
  new = λ p g h. fresh p g h;
  covers = λ p i m. covered p m (v.covers p i m);
  bounded = let h = v.bounded in let l = box_some sets c k.left_box in let r = box_some sets d k.right_box in let o = k.sizes in omega (arith, h, l, r, o);
  once = v.once;
  closed = λ e. absurd (let f = v.closed e in cc);
  given = v.given;
  in_order = λ o. ((parts_in_order ground_trees sets br cons b c d v.boxes.0 s o, within_before br sets b c rest v.boxes.0 k.left_box k.left_in (v.in_order o).0), (within_before br sets b d rest v.boxes.0 k.right_box k.right_in (v.in_order o).0, (v.in_order o).1));
}
  where
    k : Parts ground_trees sets cons b c d
    k = parts_of ground_trees sets br cons b c d v.boxes.0 s

    fresh : (p : Assignment) → IsGiven given p → InBox p c ⊎ (InBox p d ⊎ InSome p rest) → ⊥
    fresh p g (inl h) = v.new p g (inl (k.left_in p h))
    fresh p g (inr (inl h)) = v.new p g (inl (k.right_in p h))
    fresh p g (inr (inr h)) = v.new p g (inr h)

    part : {A : Type 0} (p : Assignment) → InBox p c ⊎ InBox p d → A ⊎ (InBox p c ⊎ (InBox p d ⊎ InSome p rest))
    part p (inl h) = inr (inl h)
    part p (inr h) = inr (inr (inl h))

    covered : (p : Assignment) → Meets cons p → IsGiven given p ⊎ (InBox p b ⊎ InSome p rest) → IsGiven given p ⊎ (InBox p c ⊎ (InBox p d ⊎ InSome p rest))
    covered p m (inl g) = inl g
    covered p m (inr (inl h)) = part p (k.keeps p h m)
    covered p m (inr (inr h)) = inr (inr (inr h))
