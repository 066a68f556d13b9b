-- Boxes of one assignment, and boxes with a variable that is unfixed.
use Rattle.std.proofs.Common.{◌≡◌, ◌⊎◌, inl, inr, ℕ, ◌+◌, ◌*◌, ◌<◌, ◌≤◌, zero, suc, refl, sym, ap, ◌∙◌, subst, arith, true, false, Bool, if◌then◌else◌, List, [], ◌∷◌, length, Option, Some, None}
use Rattle.std.specs.Prelude.{ℤ, nat_le, option_map, All}
use Rattle.ms_trees.specs.WellFormed.{IsTruth}
use Rattle.std.proofs.lemmas.Int.{ints}
use Rattle.std.proofs.lemmas.Bool.{leb-true, leb-false, cases_order}
use Rattle.ms_num.specs.Span.{Span, point}
use Rattle.ms_trees.specs.Enclosure.{points}
use Rattle.ms_trees.specs.declared.tree.Ground.{Ground}
use Rattle.ms_trees.specs.declared.branching.Branching.{Branching}
use Rattle.ms_num.specs.Sets.{Set, IsSet, set_size, span_of, spans_of}
use Rattle.ms_boxes.specs.Boxes.{Assignment, Box, InBox, box_size, least_point, IsProper}
use Rattle.ms_boxes.specs.Branchings.{is_unfixed, first_unfixed, named_unfixed, places, places_from, with_least, named_or, pick}
use Rattle.ms_boxes.specs.Trees.{Meets, HoldsNone, IsOnly}
use Rattle.ms_num.proofs.SharedCounts.{size_some}
use Rattle.ms_num.proofs.SharedSizes.{closed_ends}

none_not_some : {A : Type 0} (x : A) → Some x ≡ None → ⊥
none_not_some x e = absurd (cc)

-- where nothing is picked no variable is unfixed
pub none_picked : (br : Branching) (b : Box) → pick br b ≡ None → first_unfixed b (places (length b)) ≡ None
none_picked br b e = by_named (named_unfixed br b) e
  where
    by_first : (o : Option ℕ) → option_map with_least o ≡ None → o ≡ None
    by_first None e = refl
    by_first (Some v) e = absurd (none_not_some (with_least v) e)

    by_named : (o : Option ℕ) → named_or (br.value) o (first_unfixed b (places (length b))) ≡ None → first_unfixed b (places (length b)) ≡ None
    by_named None e = by_first (first_unfixed b (places (length b))) e
    by_named (Some v) e = absurd (none_not_some (v, br.value) e)

closed_from : (b : Box) (k n : ℕ) → first_unfixed b (places_from k n) ≡ None → (v : ℕ) → k ≤ v → v < k + n → is_unfixed b v ≡ false
closed_from b k zero e v from to = absurd (omega (arith, from, to))
closed_from b k (suc n) e v from to = by_test (is_unfixed b k) refl e (λ f l. closed_from b (suc k) n f v l (omega (arith, to))) (cases_order k v)
  where
    by_test : (t : Bool) → is_unfixed b k ≡ t → (if t then Some k else first_unfixed b (places_from (suc k) n)) ≡ None → (first_unfixed b (places_from (suc k) n) ≡ None → suc k ≤ v → is_unfixed b v ≡ false) → (k ≡ v) ⊎ ((k < v) ⊎ (v < k)) → is_unfixed b v ≡ false
    by_test true is e rest o = absurd (none_not_some k e)
    by_test false is e rest (inl f) = ap (is_unfixed b) (sym f) ∙ is
    by_test false is e rest (inr (inl l)) = rest e (omega (arith, l))
    by_test false is e rest (inr (inr l)) = absurd (omega (arith, l, from))

one_size : (b : Box) → IsProper b → ((v : ℕ) → v < length b → is_unfixed b v ≡ false) → box_size b ≡ 1
one_size [] i h = refl
one_size (s ∷ b) i h = product (set_size s) (box_size b) (leb-false 2 (set_size s) (h 0 (omega arith))) (size_some s i.0) (one_size b i.1 (λ v l. h (suc v) (omega (arith, l))))
  where
    product : (m n : ℕ) → m < 2 → 1 ≤ m → n ≡ 1 → m * n ≡ 1
    product zero n l k e = absurd (omega (arith, k))
    product (suc zero) n l k e = omega (arith, e)
    product (suc (suc m)) n l k e = absurd (omega (arith, l))

pub closed_size : (br : Branching) (b : Box) → IsProper b → pick br b ≡ None → box_size b ≡ 1
closed_size br b i e = one_size b i (λ v l. closed_from b 0 (length b) (none_picked br b e) v (omega arith) (omega (arith, l)))

pub box_any : (b : Box) → IsProper b → 1 ≤ box_size b
box_any [] i = omega arith
box_any (s ∷ b) i = product (set_size s) (box_size b) (size_some s i.0) (box_any b i.1)
  where
    product : (m n : ℕ) → 1 ≤ m → 1 ≤ n → 1 ≤ m * n
    product zero n h k = absurd (omega (arith, h))
    product (suc m) zero h k = absurd (omega (arith, k))
    product (suc m) (suc n) h k = omega arith

-- a box with an unfixed variable has two assignments or more
pub open_size : (b : Box) (v : ℕ) → IsProper b → is_unfixed b v ≡ true → 2 ≤ box_size b
open_size [] v i e = absurd (let f = leb-true 2 0 e in omega (arith, f))
open_size (s ∷ b) zero i e = product (set_size s) (box_size b) (leb-true 2 (set_size s) e) (box_any b i.1)
  where
    product : (m n : ℕ) → 2 ≤ m → 1 ≤ n → 2 ≤ m * n
    product m zero h k = absurd (omega (arith, k))
    product m (suc n) h k = grind arith
open_size (s ∷ b) (suc v) i e = product (set_size s) (box_size b) (size_some s i.0) (open_size b v i.1 e)
  where
    product : (m n : ℕ) → 1 ≤ m → 2 ≤ n → 2 ≤ m * n
    product zero n h k = absurd (omega (arith, h))
    product (suc m) n h k = grind arith

-- both factors of 1 are 1
record AreOne (m n : ℕ) : Type 0 where
  first : m ≡ 1
  second : n ≡ 1

ones : (m n : ℕ) → m * n ≡ 1 → AreOne m n
ones zero n e = absurd (omega (arith, e))
ones (suc m) zero e = absurd (omega (arith, e))
ones (suc zero) (suc n) e = record { first = refl; second = omega (arith, e) }
ones (suc (suc m)) (suc n) e = absurd (omega (arith, e))

single_set : (s : Set) → IsSet s → set_size s ≡ 1 → s.lo ≡ s.hi
single_set s i e = closed_ends s i (ap (nat_le 2) e)

-- the intervals of a box of one assignment are those of the assignment
pub single_spans : (b : Box) → IsProper b → box_size b ≡ 1 → spans_of b ≡ points (least_point b)
single_spans [] i e = refl
single_spans (s ∷ b) i e = both (span_of s) (point s.lo) (spans_of b) (points (least_point b)) (ap (λ h. record { lo = s.lo; hi = h }) (sym (single_set s i.0 (ones (set_size s) (box_size b) e).first))) (single_spans b i.1 (ones (set_size s) (box_size b) e).second)
  where
    both : (x y : Span) (xs ys : List Span) → x ≡ y → xs ≡ ys → x ∷ xs ≡ y ∷ ys
    both x y xs ys e f = cc

pub lows_inside : (b : Box) → IsProper b → InBox (least_point b) b
lows_inside [] i = tt
lows_inside (s ∷ b) i = (i.0.low, lows_inside b i.1)

-- there is no other assignment
pub single_alone : (b : Box) → IsProper b → box_size b ≡ 1 → (q : Assignment) → InBox q b → q ≡ least_point b
single_alone [] i e [] h = refl
single_alone [] i e (n ∷ q) h = absurd h
single_alone (s ∷ b) i e [] h = absurd h
single_alone (s ∷ b) i e (n ∷ q) h = both n s.lo q (least_point b) (number n h.0) (single_alone b i.1 (ones (set_size s) (box_size b) e).second q h.1)
  where
    both : (x y : ℤ) (xs ys : List ℤ) → x ≡ y → xs ≡ ys → x ∷ xs ≡ y ∷ ys
    both x y xs ys e f = cc

    number : (n : ℤ) → s.has n ≡ true → n ≡ s.lo
    number n h = let from = i.0.from n h in let to = i.0.to n h in let same = single_set s i.0 (ones (set_size s) (box_size b) e).first in omega (arith, ints, from, to, same)

pub single_only : (b : Box) (cons : List Ground) (p : Assignment) → IsProper b → box_size b ≡ 1 → p ≡ least_point b → Meets cons p → IsOnly cons b p
single_only b cons p i e f m = record {
  inside = subst (λ q. InBox q b) (sym f) (lows_inside b i);
  meets = m;
  alone = λ q h n. single_alone b i e q h ∙ sym f;
}

pub single_none : (b : Box) (cons : List Ground) (p : Assignment) → IsProper b → box_size b ≡ 1 → p ≡ least_point b → (Meets cons p → ⊥) → HoldsNone cons b
single_none b cons p i e f never q h m = never (subst (Meets cons) (single_alone b i e q h ∙ sym f) m)

-- on a box of one assignment a constraint is fit just where it is fit on the assignment
pub single_fit : (b : Box) (cons : List Ground) (p : Assignment) → IsProper b → box_size b ≡ 1 → p ≡ least_point b → All (IsTruth (spans_of b)) cons → All (IsTruth (points p)) cons
single_fit b cons p i e f h = subst (λ q. All (IsTruth q) cons) (single_spans b i e ∙ ap points (sym f)) h
