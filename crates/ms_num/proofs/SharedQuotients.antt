-- The least intervals of quotients, cut toward zero.
use Rattle.std.proofs.Common.{◌≡◌, ◌∙◌, ℕ, zero, suc, ◌/◌, ◌≤◌, ◌^◌, ◌-◌, ◌⊎◌, inl, inr, refl, sym, ap, arith, le_trans, Bool, true, false, cond, Some, None, w64, to_z, of_z}
use Rattle.std.proofs.lemmas.Bool.{false≢true}
use Rattle.std.specs.Prelude.{ℤ, pos, negsuc, neg_ℤ, ◌<ℤ◌, ◌≤ℤ◌, int_div, int_lt, IfSome, option_map, ◌↔◌}
use Rattle.std.specs.Int.{int_min, int_max}
use Rattle.std.specs.Int.Signed.{≤ℤ_refl}
use Rattle.std.proofs.Math.Nat.{div-mul-le_self, mul-le-mul_left, div-le_self}
use Rattle.std.proofs.lemmas.Nat.{le-div}
use Rattle.std.proofs.lemmas.Int.{ints, clamps, by_lt_z}
use Rattle.ms_num.specs.Numbers.{div_at}
use Rattle.ms_num.specs.Span.{Span, Has, IsInterval, IsResult, IsLeast, IsOneSign, join, quotients, div_span, is_within, join_some, point}
use Rattle.ms_num.proofs.SharedSpans.{Between, between, four_have, min_is, max_is, same_some, of_le, within_low, within_high, read_within}
use Rattle.ms_num.proofs.Cuts.{lt_from, lt_of, ge_from}
use Rattle.ms_num.proofs.SharedMembers.{same_span}

-- ---- one divisor after another, and one dividend after another

div_up : (a b n : ℕ) → a ≤ b → a / suc n ≤ b / suc n
div_up a b n h = le-div (a / suc n) b (suc n) (omega arith) (le_trans (div-mul-le_self a (suc n)) h)

div_down : (a m n : ℕ) → m ≤ n → a / suc n ≤ a / suc m
div_down a m n h = let k : suc m ≤ suc n = omega arith in le-div (a / suc n) a (suc m) (omega arith) (le_trans (mul-le-mul_left (a / suc n) k) (div-mul-le_self a (suc n)))

neg_le : (m n : ℕ) → m ≤ n → neg_ℤ (pos n) ≤ℤ neg_ℤ (pos m)
neg_le m n h = omega (arith, ints)

neg_pos : (m n : ℕ) → neg_ℤ (pos m) ≤ℤ pos n
neg_pos m n = omega (arith, ints)

quot_up : (x y : ℤ) (n : ℕ) → x ≤ℤ y → int_div x (pos (suc n)) ≤ℤ int_div y (pos (suc n))
quot_up (pos a) (pos b) n h = let k = div_up a b n (omega (arith, ints)) in omega (arith, ints)
quot_up (pos a) (negsuc b) n h = absurd (omega (arith, ints))
quot_up (negsuc a) (pos b) n h = neg_pos (suc a / suc n) (b / suc n)
quot_up (negsuc a) (negsuc b) n h = neg_le (suc b / suc n) (suc a / suc n) (div_up (suc b) (suc a) n (omega (arith, ints)))

quot_between : (x : ℤ) (c y d : ℕ) → c ≤ y → y ≤ d → Between (int_div x (pos (suc c))) (int_div x (pos (suc d))) (int_div x (pos (suc y)))
quot_between (pos a) c y d h k = let p = div_down a c y h in let q = div_down a y d k in between _ _ _ (inr (omega (arith, ints), omega (arith, ints)))
quot_between (negsuc a) c y d h k = between _ _ _ (inl (neg_le _ _ (div_down (suc a) c y h), neg_le _ _ (div_down (suc a) y d k)))

-- by the negated divisor it is the negated quotient
turned : (x : ℤ) (n : ℕ) → int_div x (negsuc n) ≡ neg_ℤ (int_div x (pos (suc n)))
turned (pos a) n = refl
turned (negsuc a) n = twice (suc a / suc n)
  where
    twice : (m : ℕ) → pos m ≡ neg_ℤ (neg_ℤ (pos m))
    twice m = omega (arith, ints)

between_turned : (p q z : ℤ) → Between p q z → Between (neg_ℤ q) (neg_ℤ p) (neg_ℤ z)
between_turned p q z b = let l = b.low in let h = b.high in record { low = omega (arith, ints, clamps); high = omega (arith, ints, clamps) }

between_flipped : (p q z : ℤ) → Between p q z → Between q p z
between_flipped p q z b = let l = b.low in let h = b.high in record { low = omega (arith, ints, clamps); high = omega (arith, ints, clamps) }

positive_form : (z : ℤ) → pos 0 <ℤ z → (n : ℕ) × (z ≡ pos (suc n))
positive_form (pos zero) h = absurd (omega (arith, ints))
positive_form (pos (suc n)) h = (n, refl)
positive_form (negsuc n) h = absurd (omega (arith, ints))

negative_form : (z : ℤ) → z <ℤ pos 0 → (n : ℕ) × (z ≡ negsuc n)
negative_form (pos n) h = absurd (omega (arith, ints))
negative_form (negsuc n) h = (n, refl)

-- the quotient lies between those by the ends
positive_between : (x l y h : ℤ) (c n d : ℕ) → l ≡ pos (suc c) → y ≡ pos (suc n) → h ≡ pos (suc d) → c ≤ n → n ≤ d → Between (int_div x l) (int_div x h) (int_div x y)
positive_between x l y h c n d e f g p q = rw (e, f, g) (quot_between x c n d p q)

negative_between : (x l y h : ℤ) (c n d : ℕ) → l ≡ negsuc c → y ≡ negsuc n → h ≡ negsuc d → d ≤ n → n ≤ c → Between (int_div x l) (int_div x h) (int_div x y)
negative_between x l y h c n d e f g p q = rw (e, f, g, turned x c, turned x n, turned x d) (between_turned _ _ _ (quot_between x d n c p q))

by_positive : (x l y h : ℤ) → l ≤ℤ y → y ≤ℤ h → pos 0 <ℤ l → Between (int_div x l) (int_div x h) (int_div x y)
by_positive x l y h p q s =
    let c = positive_form l s in
    let n = positive_form y (omega (arith, ints)) in
    let d = positive_form h (omega (arith, ints)) in
    let e = c.1 in let f = n.1 in let g = d.1 in
    positive_between x l y h c.0 n.0 d.0 e f g (omega (arith, ints)) (omega (arith, ints))

by_negative : (x l y h : ℤ) → l ≤ℤ y → y ≤ℤ h → h <ℤ pos 0 → Between (int_div x l) (int_div x h) (int_div x y)
by_negative x l y h p q s =
    let c = negative_form l (omega (arith, ints)) in
    let n = negative_form y (omega (arith, ints)) in
    let d = negative_form h s in
    let e = c.1 in let f = n.1 in let g = d.1 in
    negative_between x l y h c.0 n.0 d.0 e f g (omega (arith, ints)) (omega (arith, ints))

by_divisors : (x : ℤ) (b : Span) (y : ℤ) → IsOneSign b → Has b y → Between (int_div x b.lo) (int_div x b.hi) (int_div x y)
by_divisors x b y s h = elim s.sign [ inl p ↦ by_positive x b.lo y b.hi h.from h.to p | inr n ↦ by_negative x b.lo y b.hi h.from h.to n ]

-- and between those of the ends
by_dividends : (a : Span) (x y : ℤ) → Has a x → (pos 0 <ℤ y) ⊎ (y <ℤ pos 0) → Between (int_div a.lo y) (int_div a.hi y) (int_div x y)
by_dividends a x y h s = elim s [ inl p ↦ up (positive_form y p) | inr n ↦ down (negative_form y n) ]
  where
    rising : (n : ℕ) → Between (int_div a.lo (pos (suc n))) (int_div a.hi (pos (suc n))) (int_div x (pos (suc n)))
    rising n = between _ _ _ (inl (quot_up a.lo x n h.from, quot_up x a.hi n h.to))

    up : (n : ℕ) × (y ≡ pos (suc n)) → Between (int_div a.lo y) (int_div a.hi y) (int_div x y)
    up n = rw n.1 (rising n.0)

    down : (n : ℕ) × (y ≡ negsuc n) → Between (int_div a.lo y) (int_div a.hi y) (int_div x y)
    down n = rw (n.1, turned a.lo n.0, turned a.hi n.0, turned x n.0) (between_flipped _ _ _ (between_turned _ _ _ (rising n.0)))

sign_of : (b : Span) (y : ℤ) → IsOneSign b → Has b y → (pos 0 <ℤ y) ⊎ (y <ℤ pos 0)
sign_of b y s h = elim s.sign [ inl p ↦ inl (above p h.from) | inr n ↦ inr (under n h.to) ]
  where
    above : pos 0 <ℤ b.lo → b.lo ≤ℤ y → pos 0 <ℤ y
    above p f = omega (arith, ints)

    under : b.hi <ℤ pos 0 → y ≤ℤ b.hi → y <ℤ pos 0
    under n t = omega (arith, ints)

-- a quotient by a divisor other than 0 is defined
defined : (x y : ℤ) → (pos 0 <ℤ y) ⊎ (y <ℤ pos 0) → div_at x y ≡ Some (int_div x y)
defined x (pos zero) s = elim s [ inl p ↦ absurd (none p) | inr n ↦ absurd (none n) ]
  where
    none : pos 0 <ℤ pos 0 → ⊥
    none h = omega (arith, ints)
defined x (pos (suc n)) s = refl
defined x (negsuc n) s = refl

-- ---- the quotients by divisors of one sign

pub quotients_least : (a b : Span) → a.lo ≤ℤ a.hi → IsOneSign b → IsLeast (IsResult div_at a b) (quotients a b)
quotients_least a b p s = record {
  all = λ z r.
      let sign = sign_of b r.right s r.right_in in
      rw (← same_some (sym (defined r.left r.right sign) ∙ r.gives))
      (four_have (int_div a.lo b.lo) (int_div a.lo b.hi) (int_div a.hi b.lo) (int_div a.hi b.hi) (int_div a.lo r.right) (int_div a.hi r.right) (int_div r.left r.right)
      (by_divisors a.lo b r.right s r.right_in) (by_divisors a.hi b r.right s r.right_in) (by_dividends a r.left r.right r.left_in sign));
  low = min_is P _ _ (min_is P _ _ (at a.lo b.lo al bl) (at a.lo b.hi al bh)) (min_is P _ _ (at a.hi b.lo ah bl) (at a.hi b.hi ah bh));
  high = max_is P _ _ (max_is P _ _ (at a.lo b.lo al bl) (at a.lo b.hi al bh)) (max_is P _ _ (at a.hi b.lo ah bl) (at a.hi b.hi ah bh));
}
  where
    P : ℤ → Type 0
    P = IsResult div_at a b

    at : (x y : ℤ) → Has a x → Has b y → IsResult div_at a b (int_div x y)
    at x y h k = record { left = x; right = y; left_in = h; right_in = k; gives = defined x y (sign_of b y s k) }

    al : Has a a.lo
    al = record { from = ≤ℤ_refl a.lo; to = p }

    ah : Has a a.hi
    ah = record { from = p; to = ≤ℤ_refl a.hi }

    bl : Has b b.lo
    bl = record { from = ≤ℤ_refl b.lo; to = s.ordered }

    bh : Has b b.hi
    bh = record { from = s.ordered; to = ≤ℤ_refl b.hi }

-- ---- the quotients by divisors on both sides of 0

-- what holds of one part or of the other
join_least : (P Q R : ℤ → Type 0) (s t : Span) → IsLeast P s → IsLeast Q t → ((z : ℤ) → P z → R z) → ((z : ℤ) → Q z → R z) → ((z : ℤ) → R z → P z ⊎ Q z) → IsLeast R (join s t)
join_least P Q R s t p q f g h = record {
  all = λ z r. elim (h z r) [ inl k ↦ left z (p.all z k) | inr k ↦ right z (q.all z k) ];
  low = min_is R s.lo t.lo (f s.lo p.low) (g t.lo q.low);
  high = max_is R s.hi t.hi (f s.hi p.high) (g t.hi q.high);
}
  where
    left : (z : ℤ) → Has s z → Has (join s t) z
    left z k = let a = k.from in let b = k.to in record { from = omega (arith, ints, clamps); to = omega (arith, ints, clamps) }

    right : (z : ℤ) → Has t z → Has (join s t) z
    right z k = let a = k.from in let b = k.to in record { from = omega (arith, ints, clamps); to = omega (arith, ints, clamps) }

same_least : (P R : ℤ → Type 0) (s : Span) → IsLeast P s → ((z : ℤ) → P z → R z) → ((z : ℤ) → R z → P z) → IsLeast R s
same_least P R s p f h = record { all = λ z r. p.all z (h z r); low = f s.lo p.low; high = f s.hi p.high }

-- the divisors below 0 and above it
abbrev pub under : Span → Span
under b = record { lo = b.lo; hi = int_min b.hi (negsuc 0) }

abbrev pub over : Span → Span
over b = record { lo = int_max b.lo (pos 1); hi = b.hi }

pub under_sign : (b : Span) → b.lo ≤ℤ b.hi → b.lo <ℤ pos 0 → IsOneSign (under b)
under_sign b o l = record { ordered = omega (arith, ints, clamps); sign = inr (omega (arith, ints, clamps)) }

pub over_sign : (b : Span) → b.lo ≤ℤ b.hi → pos 0 <ℤ b.hi → IsOneSign (over b)
over_sign b o l = record { ordered = omega (arith, ints, clamps); sign = inl (omega (arith, ints, clamps)) }

-- a result by a part is a result
more : (a b c : Span) → b.lo ≤ℤ c.lo → c.hi ≤ℤ b.hi → (z : ℤ) → IsResult div_at a c z → IsResult div_at a b z
more a b c l h z r = record { left = r.left; right = r.right; left_in = r.left_in; right_in = wide r.right r.right_in; gives = r.gives }
  where
    wide : (y : ℤ) → Has c y → Has b y
    wide y k = let f = k.from in let t = k.to in record { from = omega (arith, ints); to = omega (arith, ints) }

from_under : (a b : Span) (z : ℤ) → IsResult div_at a (under b) z → IsResult div_at a b z
from_under a b = more a b (under b) (≤ℤ_refl b.lo) (omega (arith, ints, clamps))

from_over : (a b : Span) (z : ℤ) → IsResult div_at a (over b) z → IsResult div_at a b z
from_over a b = more a b (over b) (omega (arith, ints, clamps)) (≤ℤ_refl b.hi)

no_zero : (x z : ℤ) → div_at x (pos 0) ≡ Some z → ⊥
no_zero x z e = cc

-- a result is one by a divisor below 0, or by one above it
parts : (a b : Span) (z : ℤ) → IsResult div_at a b z → ((b.lo <ℤ pos 0) × IsResult div_at a (under b) z) ⊎ ((pos 0 <ℤ b.hi) × IsResult div_at a (over b) z)
parts a b z r = by_lt_z r.right (pos 0) below (λ n. by_lt_z (pos 0) r.right above (λ m. absurd (zero r.right n m r.gives)))
  where
    zero : (y : ℤ) → pos 0 ≤ℤ y → y ≤ℤ pos 0 → div_at r.left y ≡ Some z → ⊥
    zero y n m e = let same : y ≡ pos 0 = omega (arith, ints) in no_zero r.left z (rw same at e)

    below : r.right <ℤ pos 0 → ((b.lo <ℤ pos 0) × IsResult div_at a (under b) z) ⊎ ((pos 0 <ℤ b.hi) × IsResult div_at a (over b) z)
    below l =
        let f = r.right_in.from in let t = r.right_in.to in
        inl (omega (arith, ints), record { left = r.left; right = r.right; left_in = r.left_in; right_in = record { from = f; to = omega (arith, ints, clamps) }; gives = r.gives })

    above : pos 0 <ℤ r.right → ((b.lo <ℤ pos 0) × IsResult div_at a (under b) z) ⊎ ((pos 0 <ℤ b.hi) × IsResult div_at a (over b) z)
    above l =
        let f = r.right_in.from in let t = r.right_in.to in
        inr (omega (arith, ints), record { left = r.left; right = r.right; left_in = r.left_in; right_in = record { from = omega (arith, ints, clamps); to = t }; gives = r.gives })

pub div_least : (a b : Span) → a.lo ≤ℤ a.hi → b.lo ≤ℤ b.hi → IfSome (div_span a b) (IsLeast (IsResult div_at a b))
div_least a b p q = by_case (int_lt b.lo (pos 0)) (int_lt (pos 0) b.hi) refl refl
  where
    no_under : int_lt b.lo (pos 0) ≡ false → b.lo <ℤ pos 0 → ⊥
    no_under e l = false≢true (sym e ∙ lt_of b.lo (pos 0) l)

    no_over : int_lt (pos 0) b.hi ≡ false → pos 0 <ℤ b.hi → ⊥
    no_over e l = false≢true (sym e ∙ lt_of (pos 0) b.hi l)

    split : (z : ℤ) → IsResult div_at a b z → IsResult div_at a (under b) z ⊎ IsResult div_at a (over b) z
    split z r = elim (parts a b z r) [ inl k ↦ inl k.1 | inr k ↦ inr k.1 ]

    only_under : int_lt (pos 0) b.hi ≡ false → (z : ℤ) → IsResult div_at a b z → IsResult div_at a (under b) z
    only_under e z r = elim (parts a b z r) [ inl k ↦ k.1 | inr k ↦ absurd (no_over e k.0) ]

    only_over : int_lt b.lo (pos 0) ≡ false → (z : ℤ) → IsResult div_at a b z → IsResult div_at a (over b) z
    only_over e z r = elim (parts a b z r) [ inl k ↦ absurd (no_under e k.0) | inr k ↦ k.1 ]

    by_case : (u v : Bool) → int_lt b.lo (pos 0) ≡ u → int_lt (pos 0) b.hi ≡ v → IfSome (div_span a b) (IsLeast (IsResult div_at a b))
    by_case true true e f =
        rw (e, f) (join_least (IsResult div_at a (under b)) (IsResult div_at a (over b)) (IsResult div_at a b) (quotients a (under b)) (quotients a (over b))
        (quotients_least a (under b) p (under_sign b q (lt_from b.lo (pos 0) e))) (quotients_least a (over b) p (over_sign b q (lt_from (pos 0) b.hi f))) (from_under a b) (from_over a b) split)
    by_case true false e f =
        rw (e, f) (same_least (IsResult div_at a (under b)) (IsResult div_at a b) (quotients a (under b)) (quotients_least a (under b) p (under_sign b q (lt_from b.lo (pos 0) e))) (from_under a b) (only_under f))
    by_case false true e f =
        rw (e, f) (same_least (IsResult div_at a (over b)) (IsResult div_at a b) (quotients a (over b)) (quotients_least a (over b) p (over_sign b q (lt_from (pos 0) b.hi f))) (from_over a b) (only_over e))
    by_case false false e f = rw (e, f) tt

-- a quotient is no further from 0 than its dividend
pub quot_within : (x y : ℤ) → is_within x ≡ true → is_within (int_div x y) ≡ true
quot_within x y h = let l = within_low x h in let u = within_high x h in inside x y l u
  where
    ends : (z : ℤ) → negsuc (2 ^ 50 - 1) ≤ℤ z → z ≤ℤ pos (2 ^ 50) → is_within z ≡ true
    ends z l u = rw (of_le (negsuc (2 ^ 50 - 1)) z l, of_le z (pos (2 ^ 50)) u) refl

    inside : (x y : ℤ) → negsuc (2 ^ 50 - 1) ≤ℤ x → x ≤ℤ pos (2 ^ 50) → is_within (int_div x y) ≡ true
    inside (pos a) (pos b) l u = let k = div-le_self a b in ends (pos (a / b)) (omega (arith, ints)) (omega (arith, ints))
    inside (pos a) (negsuc b) l u = let k = div-le_self a (suc b) in ends (neg_ℤ (pos (a / suc b))) (omega (arith, ints)) (omega (arith, ints))
    inside (negsuc a) (pos b) l u = let k = div-le_self (suc a) b in ends (neg_ℤ (pos (suc a / b))) (omega (arith, ints)) (omega (arith, ints))
    inside (negsuc a) (negsuc b) l u = let k = div-le_self (suc a) (suc b) in ends (pos (suc a / suc b)) (omega (arith, ints)) (omega (arith, ints))

-- there is no quotient exactly where 0 is the only divisor
pub div_none : (a b : Span) → b.lo ≤ℤ b.hi → (div_span a b ≡ None) ↔ (b ≡ point (pos 0))
div_none a b q = (to, from)
  where
    to : div_span a b ≡ None → b ≡ point (pos 0)
    to e = by_case (int_lt b.lo (pos 0)) (int_lt (pos 0) b.hi) refl refl e
      where
        by_case : (u v : Bool) → int_lt b.lo (pos 0) ≡ u → int_lt (pos 0) b.hi ≡ v → join_some (option_map (quotients a) (cond u (Some (under b)) None)) (option_map (quotients a) (cond v (Some (over b)) None)) ≡ None → b ≡ point (pos 0)
        by_case true true f g e = absurd (no e)
          where
            no : Some (join (quotients a (under b)) (quotients a (over b))) ≡ None → ⊥
            no e = cc
        by_case true false f g e = absurd (no e)
          where
            no : Some (quotients a (under b)) ≡ None → ⊥
            no e = cc
        by_case false true f g e = absurd (no e)
          where
            no : Some (quotients a (over b)) ≡ None → ⊥
            no e = cc
        by_case false false f g e =
            let l = ge_from b.lo (pos 0) f in
            let h = ge_from (pos 0) b.hi g in
            same_span b (point (pos 0)) (omega (arith, ints)) (omega (arith, ints))

    from : b ≡ point (pos 0) → div_span a b ≡ None
    from e = ap (div_span a) e

-- a quotient of ends, as the code computes it
pub read_quot : (x y : ℤ) → is_within x ≡ true → is_within y ≡ true → to_z w64 (of_z w64 (int_div (to_z w64 (of_z w64 x)) (to_z w64 (of_z w64 y)))) ≡ int_div x y
read_quot x y p q = rw (read_within x p, read_within y q) (read_within (int_div x y) (quot_within x y p))

-- both ends of a part lie within the interval
pub part_within : (s t : Span) → IsInterval s → s.lo ≤ℤ t.lo → t.lo ≤ℤ t.hi → t.hi ≤ℤ s.hi → IsInterval t
part_within s t i l o h = let a = i.low in let b = i.high in record { ordered = o; low = omega (arith, ints); high = omega (arith, ints) }
