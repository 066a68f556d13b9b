-- Both parts of a box that is split.
use Rattle.std.proofs.Common.{◌≡◌, ◌⊎◌, inl, inr, ℕ, ◌*◌, ◌<◌, ◌≤◌, zero, suc, refl, sym, ap, ◌∙◌, subst, arith, true, false, Bool, not, List, [], ◌∷◌, length, ◌&&◌}
use Rattle.std.specs.Prelude.{ℤ, int_le, ◌≤ℤ◌, ◌<ℤ◌, slice_set}
use Rattle.std.proofs.lemmas.Int.{ints}
use Rattle.std.proofs.Math.Nat.{mul-le-mul_left, mul-le-mul_right}
use Rattle.ms_num.specs.Numbers.{int_eq}
use Rattle.ms_trees.specs.declared.branching.Branching.{Branching}
use Rattle.ms_num.specs.Sets.{set_size}
use Rattle.ms_boxes.specs.Boxes.{Assignment, Box, InBox, IsBox, Covers, box_size, set_at, number_at, least_point}
use Rattle.ms_boxes.specs.Nodes.{Language, SplitsIn}
use Rattle.ms_boxes.specs.Laws.{AllBefore, Parts, SplitsGiveParts, PartsStandInOrder}
use Rattle.ms_num.proofs.SharedSpans.{le_from, of_le, and_left}
use Rattle.ms_boxes.specs.Branchings.{Picks, is_tried, is_left, IsOrdered, comparison_order, Before}
use Rattle.ms_num.proofs.SharedCounts.{size_among}
use Rattle.ms_boxes.proofs.SharedCutting.{CutBox, cut_box, cut_is_box, size_sum}
use Rattle.ms_boxes.proofs.SharedPicking.{picked_is_open, open_within, PicksFirst, ordered_picks, first_decides}

pub box_in_sets : (sets b : Box) → IsBox sets b → (p : Assignment) → InBox p b → InBox p sets
box_in_sets [] [] i [] h = tt
box_in_sets [] [] i (n ∷ p) h = absurd h
box_in_sets [] (s ∷ b) i p h = absurd i
box_in_sets (d ∷ sets) [] i p h = absurd i
box_in_sets (d ∷ sets) (s ∷ b) i [] h = absurd h
box_in_sets (d ∷ sets) (s ∷ b) i (n ∷ p) h = (i.1 n h.0, box_in_sets sets b i.2 p h.1)

pub box_length : (sets b : Box) → IsBox sets b → length b ≡ length sets
box_length [] [] i = refl
box_length [] (s ∷ b) i = absurd i
box_length (d ∷ sets) [] i = absurd i
box_length (d ∷ sets) (s ∷ b) i = ap suc (box_length sets b i.2)

lows_in : (sets b : Box) → IsBox sets b → InBox (least_point b) b
lows_in [] [] i = tt
lows_in [] (s ∷ b) i = absurd i
lows_in (d ∷ sets) [] i = absurd i
lows_in (d ∷ sets) (s ∷ b) i = (i.0.low, lows_in sets b i.2)

pub products : (a b c d : ℕ) → a ≤ b → c ≤ d → a * c ≤ b * d
products a b c d h k = let x = mul-le-mul_right c h in let y = mul-le-mul_left b k in omega (arith, x, y)

pub within_size : (sets b n : Box) → IsBox sets b → IsBox sets n → Covers b n → box_size n ≤ box_size b
within_size [] [] [] i j w = omega arith
within_size [] (s ∷ b) n i j w = absurd i
within_size [] [] (t ∷ n) i j w = absurd j
within_size (d ∷ sets) [] n i j w = absurd i
within_size (d ∷ sets) (s ∷ b) [] i j w = absurd j
within_size (d ∷ sets) (s ∷ b) (t ∷ n) i j w =
    products (set_size t) (set_size s) (box_size n) (box_size b)
    (size_among s t i.0 j.0 (λ z h. (w (z ∷ least_point n) (h, lows_in sets n j.2)).0))
    (within_size sets b n i.2 j.2 (λ p h. (w (t.lo ∷ p) (j.0.low, h)).1))

not_le : (a b : ℤ) → int_le a b ≡ false → b <ℤ a
not_le a b e = omega (arith, ints, e)

not_both : (t : Bool) → t ≡ true → not t ≡ true → ⊥
not_both true e f = absurd (cc)
not_both false e f = absurd (cc)

pub parts_of : {C : Type 0} (language : Language C) (sets : Box) (br : Branching) (cons : List C) (b c d : Box) → IsBox sets b → SplitsIn language sets br cons b c d → Parts language sets cons b c d
parts_of language sets br cons b c d i s = subst (λ q. Parts language sets cons b q d) (sym k.first_box) (subst (λ q. Parts language sets cons b (slice_set n v k.first) q) (sym k.second_box) (record {
  left_box = cut_is_box keep sets n v k.first s.proper l k.tried;
  right_box = cut_is_box other sets n v k.second s.proper l k.left;
  left_in = λ p h. s.within p (x.inside p h);
  right_in = λ p h. s.within p (y.inside p h);
  apart = λ p h g. not_both (keep (number_at p v)) (x.passes p h) (y.passes p g);
  keeps = λ p h m. by_test p (s.keeps p h m) (keep (number_at p v)) refl;
  sizes = let e = size_sum keep sets n v k.first k.second s.proper l k.tried k.left in let w = within_size sets b n i s.proper s.within in omega (arith, e, w);
}))
  where
    n : Box
    n = s.narrowed

    k : Picks br n c d
    k = s.picks

    v : ℕ
    v = k.variable

    keep : ℤ → Bool
    keep = is_tried k.choice (set_at n v)

    other : ℤ → Bool
    other = is_left k.choice (set_at n v)

    l : v < length n
    l = open_within n v (picked_is_open br n v k.choice k.picked)

    x : CutBox keep v n (slice_set n v k.first)
    x = cut_box keep n v k.first l k.tried

    y : CutBox other v n (slice_set n v k.second)
    y = cut_box other n v k.second l k.left

    by_test : (p : Assignment) → InBox p n → (t : Bool) → keep (number_at p v) ≡ t → InBox p (slice_set n v k.first) ⊎ InBox p (slice_set n v k.second)
    by_test p h true e = inl (x.back p h e)
    by_test p h false e = inr (y.back p h (ap not e))

member_from : (sets n : Box) (v : ℕ) (q : Assignment) → IsBox sets n → v < length n → InBox q n → (set_at n v).lo ≤ℤ number_at q v
member_from [] [] v q i l h = absurd (omega (arith, l))
member_from [] (t ∷ n) v q i l h = absurd i
member_from (d ∷ sets) [] v q i l h = absurd i
member_from (d ∷ sets) (t ∷ n) v [] i l h = absurd h
member_from (d ∷ sets) (t ∷ n) zero (z ∷ q) i l h = i.0.from z h.0
member_from (d ∷ sets) (t ∷ n) (suc v) (z ∷ q) i l h = member_from sets n v q i.2 (omega (arith, l)) h.1

by_ends : (x y low : ℤ) → int_eq x low ≡ true → not (int_eq y low) ≡ true → low ≤ℤ y → x <ℤ y
by_ends x y low e f g = by_test (int_le low y) (int_le y low) refl refl f
  where
    x_is : x ≤ℤ low
    x_is = le_from x low (and_left (int_le x low) (int_le low x) e)

    by_test : (s t : Bool) → int_le low y ≡ s → int_le y low ≡ t → not (t && s) ≡ true → x <ℤ y
    by_test true true a b h = absurd (cc)
    by_test true false a b h = let u = not_le y low b in omega (arith, ints, u, x_is)
    by_test false t a b h = absurd (let u = of_le low y g in cc)

-- under an ordered branching the part that is tried comes first
pub parts_in_order : {C : Type 0} (language : Language C) (sets : Box) (br : Branching) (cons : List C) (b c d : Box) → IsBox sets b → (s : SplitsIn language sets br cons b c d) → IsOrdered br → AllBefore br c d
parts_in_order language sets br cons b c d i s o p q hp hq =
    subst (λ m. Before (comparison_order br m) p q) same (first_decides sets n s.proper (comparison_order br (length n)) v f.first p q (x.inside p hp') (y.inside q hq') less)
  where
    n : Box
    n = s.narrowed

    k : Picks br n c d
    k = s.picks

    v : ℕ
    v = k.variable

    keep : ℤ → Bool
    keep = is_tried k.choice (set_at n v)

    other : ℤ → Bool
    other = is_left k.choice (set_at n v)

    f : PicksFirst br n v k.choice
    f = ordered_picks br n v k.choice o k.picked

    l : v < length n
    l = open_within n v (picked_is_open br n v k.choice k.picked)

    x : CutBox keep v n (slice_set n v k.first)
    x = cut_box keep n v k.first l k.tried

    y : CutBox other v n (slice_set n v k.second)
    y = cut_box other n v k.second l k.left

    hp' : InBox p (slice_set n v k.first)
    hp' = subst (InBox p) k.first_box hp

    hq' : InBox q (slice_set n v k.second)
    hq' = subst (InBox q) k.second_box hq

    same : length n ≡ length c
    same = box_length sets n s.proper ∙ sym (box_length sets c (parts_of language sets br cons b c d i s).left_box)

    tried : int_eq (number_at p v) (set_at n v).lo ≡ true
    tried = subst (λ ch. is_tried ch (set_at n v) (number_at p v) ≡ true) f.least (x.passes p hp')

    left : not (int_eq (number_at q v) (set_at n v).lo) ≡ true
    left = subst (λ ch. is_left ch (set_at n v) (number_at q v) ≡ true) f.least (y.passes q hq')

    from : (set_at n v).lo ≤ℤ number_at q v
    from = member_from sets n v q s.proper l (y.inside q hq')

    less : number_at p v <ℤ number_at q v
    less = by_ends (number_at p v) (number_at q v) (set_at n v).lo tried left from

pub splits_give_parts : (C : Type 0) → SplitsGiveParts C
splits_give_parts C language sets br cons b c d i s = parts_of language sets br cons b c d i s

pub parts_stand_in_order : (C : Type 0) → PartsStandInOrder C
parts_stand_in_order C language sets br cons b c d i s o = parts_in_order language sets br cons b c d i s o
