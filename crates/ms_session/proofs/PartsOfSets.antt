-- The parts of a set that is cut.
use Rattle.std.proofs.Common.{◌≡◌, ℕ, refl, sym, ap, ◌∙◌, subst, arith, true, false, Bool, not, ◌&&◌, List}
use Rattle.std.specs.Prelude.{ℤ, pos, ◌+ℤ◌, ◌≤ℤ◌, ◌<ℤ◌, ◌-ℤ◌, ◌/◌, int_div, int_le}
use Rattle.std.proofs.Common.{w64, to_z, of_z}
use Rattle.std.proofs.lemmas.Int.{ints}
use Rattle.ms_num.proofs.SharedSpans.{read_51, le_from, of_le}
use Rattle.ms_num.proofs.SharedSets.{not_le, ranges_set, read_lo, read_hi}
use Rattle.ms_num.specs.Span.{Span, IsInterval}
use Rattle.ms_num.specs.Numbers.{int_eq}
use Rattle.ms_num.specs.Ranges.{IsRanges, is_member}
use Rattle.ms_num.proofs.SharedMembers.{same_tests}
use Rattle.ms_trees.specs.declared.branching.ValueChoice.TheVariants.{Least, Greatest, LowerHalf}
use Rattle.ms_num.specs.Sets.{Set, IsSet, IsCut, set_of, IsMiddle}
use Rattle.ms_num.proofs.SharedCounts.{IsNat, nat_of}
use Rattle.ms_boxes.specs.Branchings.{is_tried, is_left}
use Rattle.std.specs.Prelude.{Result, Ok, Err, IfOk}

-- two tests that agree on the members of a set keep the same of it
pub same_kept : (a b c : Bool) → (a ≡ true → b ≡ c) → (a && b) ≡ (a && c)
same_kept true b c h = h refl
same_kept false b c h = refl

both_true : (a b : Bool) → a ≡ true → b ≡ true → (a && b) ≡ true
both_true a b e f = ap (λ x. x && b) e ∙ f

first_true : (a b : Bool) → (a && b) ≡ true → a ≡ true
first_true true b h = refl
first_true false b h = h

second_true : (a b : Bool) → (a && b) ≡ true → b ≡ true
second_true true b h = h
second_true false b h = absurd (cc)

-- no number of the set is below its least, so those up to it are the least alone
pub least_alone : (s : Set) → IsSet s → (z : ℤ) → s.has z ≡ true → int_le z s.lo ≡ int_eq z s.lo
least_alone s i z h = same_tests (int_le z s.lo) (int_eq z s.lo) (λ e. both_true _ _ e (of_le s.lo z (i.from z h))) (λ e. first_true _ _ e)

pub greatest_alone : (s : Set) → IsSet s → (z : ℤ) → s.has z ≡ true → int_le s.hi z ≡ int_eq z s.hi
greatest_alone s i z h = same_tests (int_le s.hi z) (int_eq z s.hi) (λ e. both_true _ _ (of_le z s.hi (i.to z h)) e) (λ e. second_true _ _ e)

pub up_to_middle : (lo hi m : ℤ) → IsMiddle lo hi m → (z : ℤ) → int_le z m ≡ int_le (z +ℤ z) (lo +ℤ hi)
up_to_middle lo hi m i z = let u = i.under in let o = i.over in same_tests (int_le z m) (int_le (z +ℤ z) (lo +ℤ hi)) (λ e. of_le (z +ℤ z) (lo +ℤ hi) (let f = le_from z m e in omega (arith, ints, f, u))) (λ e. of_le z m (let f = le_from (z +ℤ z) (lo +ℤ hi) e in omega (arith, ints, f, o)))

pub past_middle : (lo hi m : ℤ) → IsMiddle lo hi m → (z : ℤ) → int_le (m +ℤ pos 1) z ≡ not (int_le (z +ℤ z) (lo +ℤ hi))
past_middle lo hi m i z = opposite (int_le z m) (int_le (m +ℤ pos 1) z) (int_le (z +ℤ z) (lo +ℤ hi)) (up_to_middle lo hi m i z) one none
  where
    opposite : (a b c : Bool) → a ≡ c → (a ≡ true → b ≡ true → ⊥) → (a ≡ false → b ≡ false → ⊥) → b ≡ not c
    opposite true true c e f g = absurd (f refl refl)
    opposite true false c e f g = ap not e
    opposite false true c e f g = ap not e
    opposite false false c e f g = absurd (g refl refl)

    one : int_le z m ≡ true → int_le (m +ℤ pos 1) z ≡ true → ⊥
    one e f = let a = le_from z m e in let b = le_from (m +ℤ pos 1) z f in absurd (omega (arith, ints, a, b))

    none : int_le z m ≡ false → int_le (m +ℤ pos 1) z ≡ false → ⊥
    none e f = absurd (omega (arith, ints, e, f))

pub if_both : {X E : Type 0} (r : Result X E) (P Q R : X → Type 0) → IfOk r P → IfOk r Q → ((x : X) → P x → Q x → R x) → IfOk r R
if_both (Ok x) P Q R p q f = f x p q
if_both (Err e) P Q R p q f = tt

-- the ranges of a cut, by their members
cut_is : (s : Set) (t : List Span) (keep test : ℤ → Bool) → IsRanges t → ((z : ℤ) → is_member t z ≡ (s.has z && test z)) → ((z : ℤ) → s.has z ≡ true → test z ≡ keep z) → (z : ℤ) → s.has z ≡ true → keep z ≡ true → IsCut keep s (set_of t)
cut_is s t keep test r m h z hz kz = record { members = members; proper = ranges_set t r z (members z ∙ both_true (s.has z) (keep z) hz kz) }
  where
    members : (z : ℤ) → is_member t z ≡ (s.has z && keep z)
    members z = m z ∙ same_kept (s.has z) (test z) (keep z) (h z)

and_false : (a b : Bool) → b ≡ false → not (a && b) ≡ true
and_false true b e = ap not e
and_false false b e = refl

pub tried_least : (s : Set) (t : List Span) (n : ℤ) → IsSet s → n ≡ s.lo → IsRanges t → ((z : ℤ) → is_member t z ≡ (s.has z && int_le z n)) → IsCut (is_tried Least s) s (set_of t)
tried_least s t n i e r m = cut_is s t (is_tried Least s) (λ z. int_le z n) r m (λ z h. ap (int_le z) e ∙ least_alone s i z h) s.lo i.low (both_true (int_le s.lo s.lo) (int_le s.lo s.lo) (of_le s.lo s.lo (i.from s.lo i.low)) (of_le s.lo s.lo (i.from s.lo i.low)))

pub tried_greatest : (s : Set) (t : List Span) (n : ℤ) → IsSet s → n ≡ s.hi → IsRanges t → ((z : ℤ) → is_member t z ≡ (s.has z && int_le n z)) → IsCut (is_tried Greatest s) s (set_of t)
tried_greatest s t n i e r m = cut_is s t (is_tried Greatest s) (λ z. int_le n z) r m (λ z h. ap (λ q. int_le q z) e ∙ greatest_alone s i z h) s.hi i.high (both_true (int_le s.hi s.hi) (int_le s.hi s.hi) (of_le s.hi s.hi (i.to s.hi i.high)) (of_le s.hi s.hi (i.to s.hi i.high)))

pub tried_half : (s : Set) (t : List Span) (n k : ℤ) → IsSet s → IsMiddle s.lo s.hi n → k ≡ n → IsRanges t → ((z : ℤ) → is_member t z ≡ (s.has z && int_le z k)) → IsCut (is_tried LowerHalf s) s (set_of t)
tried_half s t n k i e f r m = cut_is s t (is_tried LowerHalf s) (λ z. int_le z k) r m (λ z h. ap (int_le z) f ∙ up_to_middle s.lo s.hi n e z) s.lo i.low (of_le (s.lo +ℤ s.lo) (s.lo +ℤ s.hi) (let f = i.from s.hi i.high in omega (arith, ints, f)))

pub left_least : (s : Set) (t : List Span) (n : ℤ) → IsSet s → s.lo <ℤ s.hi → n ≡ s.lo → IsRanges t → ((z : ℤ) → is_member t z ≡ (s.has z && not (int_eq z n))) → IsCut (is_left Least s) s (set_of t)
left_least s t n i l e r m = cut_is s t (is_left Least s) (λ z. not (int_eq z n)) r m (λ z h. ap (λ q. not (int_eq z q)) e) s.hi i.high (first_false (int_le s.hi s.lo) (int_le s.lo s.hi) (not_le s.lo s.hi l))
  where
    first_false : (a b : Bool) → a ≡ false → not (a && b) ≡ true
    first_false true b e = absurd (cc)
    first_false false b e = refl

pub left_greatest : (s : Set) (t : List Span) (n : ℤ) → IsSet s → s.lo <ℤ s.hi → n ≡ s.hi → IsRanges t → ((z : ℤ) → is_member t z ≡ (s.has z && not (int_eq z n))) → IsCut (is_left Greatest s) s (set_of t)
left_greatest s t n i l e r m = cut_is s t (is_left Greatest s) (λ z. not (int_eq z n)) r m (λ z h. ap (λ q. not (int_eq z q)) e) s.lo i.low (and_false (int_le s.lo s.hi) (int_le s.hi s.lo) (not_le s.lo s.hi l))

pub left_half : (s : Set) (t : List Span) (n k : ℤ) → IsSet s → s.lo <ℤ s.hi → IsMiddle s.lo s.hi n → k ≡ n +ℤ pos 1 → IsRanges t → ((z : ℤ) → is_member t z ≡ (s.has z && int_le k z)) → IsCut (is_left LowerHalf s) s (set_of t)
left_half s t n k i l e f r m = cut_is s t (is_left LowerHalf s) (λ z. int_le k z) r m (λ z h. ap (λ q. int_le q z) f ∙ past_middle s.lo s.hi n e z) s.hi i.high (ap not (not_le (s.lo +ℤ s.hi) (s.hi +ℤ s.hi) (omega (arith, ints, l))))

half_of : (n : ℕ) → int_div (pos n) (pos 2) ≡ pos (n / 2)
half_of n = refl

pub middle_of : (lo hi : ℤ) → lo ≤ℤ hi → IsMiddle lo hi (lo +ℤ int_div (hi -ℤ lo) (pos 2))
middle_of lo hi l = by_nat (nat_of (hi -ℤ lo) (omega (arith, ints, l)))
  where
    by_nat : IsNat (hi -ℤ lo) → IsMiddle lo hi (lo +ℤ int_div (hi -ℤ lo) (pos 2))
    by_nat k =
        let n = k.number in let e = k.is in
        let h : int_div (hi -ℤ lo) (pos 2) ≡ pos (n / 2) = ap (λ q. int_div q (pos 2)) e ∙ half_of n in
        record { under = omega (arith, ints, e, h); over = omega (arith, ints, e, h) }

pub read_middle : (iv : Span) (m : ℤ) → IsInterval iv → IsMiddle iv.lo iv.hi m → to_z w64 (of_z w64 m) ≡ m
read_middle iv m i k = let a = i.low in let b = i.ordered in let c = i.high in let u = k.under in let o = k.over in read_51 m (omega (arith, ints, a, b, o)) (omega (arith, ints, b, c, u))

pub read_after : (iv : Span) (m : ℤ) → IsInterval iv → IsMiddle iv.lo iv.hi m → to_z w64 (of_z w64 (to_z w64 (of_z w64 m) +ℤ pos 1)) ≡ m +ℤ pos 1
read_after iv m i k = let a = i.low in let b = i.ordered in let c = i.high in let u = k.under in let o = k.over in ap (λ q. to_z w64 (of_z w64 (q +ℤ pos 1))) (read_middle iv m i k) ∙ read_51 (m +ℤ pos 1) (omega (arith, ints, a, b, o)) (omega (arith, ints, b, c, u))

pub read_distance : (iv : Span) → IsInterval iv → to_z w64 (of_z w64 (iv.hi -ℤ iv.lo)) ≡ iv.hi -ℤ iv.lo
read_distance iv i = let a = i.low in let b = i.ordered in let c = i.high in read_51 (iv.hi -ℤ iv.lo) (omega (arith, ints, b)) (omega (arith, ints, a, c))

pub middle_read : (iv : Span) (x y : ℤ) → IsInterval iv → x ≡ iv.lo → y ≡ iv.hi → IsMiddle iv.lo iv.hi (to_z w64 (of_z w64 (to_z w64 (of_z w64 x) +ℤ to_z w64 (of_z w64 (int_div (to_z w64 (of_z w64 (to_z w64 (of_z w64 y) -ℤ to_z w64 (of_z w64 x)))) (pos 2))))))
middle_read iv x y i ex ey = subst (IsMiddle iv.lo iv.hi) (sym whole) m
  where
    d : ℤ
    d = int_div (iv.hi -ℤ iv.lo) (pos 2)

    m : IsMiddle iv.lo iv.hi (iv.lo +ℤ d)
    m = middle_of iv.lo iv.hi i.ordered

    distance : to_z w64 (of_z w64 (to_z w64 (of_z w64 y) -ℤ to_z w64 (of_z w64 x))) ≡ iv.hi -ℤ iv.lo
    distance = ap (λ q. to_z w64 (of_z w64 (q -ℤ to_z w64 (of_z w64 x)))) (read_hi iv y i ey) ∙ ap (λ q. to_z w64 (of_z w64 (iv.hi -ℤ q))) (read_lo iv x i ex) ∙ read_distance iv i

    half : to_z w64 (of_z w64 (int_div (to_z w64 (of_z w64 (to_z w64 (of_z w64 y) -ℤ to_z w64 (of_z w64 x)))) (pos 2))) ≡ d
    half = ap (λ q. to_z w64 (of_z w64 (int_div q (pos 2)))) distance ∙ (let a = i.low in let b = i.high in let u = m.under in let o = m.over in let l = i.ordered in read_51 d (omega (arith, ints, a, b, u, o, l)) (omega (arith, ints, a, b, u, o, l)))

    whole : to_z w64 (of_z w64 (to_z w64 (of_z w64 x) +ℤ to_z w64 (of_z w64 (int_div (to_z w64 (of_z w64 (to_z w64 (of_z w64 y) -ℤ to_z w64 (of_z w64 x)))) (pos 2))))) ≡ iv.lo +ℤ d
    whole = ap (λ q. to_z w64 (of_z w64 (q +ℤ to_z w64 (of_z w64 (int_div (to_z w64 (of_z w64 (to_z w64 (of_z w64 y) -ℤ to_z w64 (of_z w64 x)))) (pos 2)))))) (read_lo iv x i ex) ∙ ap (λ q. to_z w64 (of_z w64 (iv.lo +ℤ q))) half ∙ read_middle iv (iv.lo +ℤ d) i m
