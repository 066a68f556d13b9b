-- The hull of remainders.
use Rattle.std.proofs.Common.{◌≡◌, ◌∙◌, ℕ, zero, suc, ◌<◌, ◌≤◌, ◌^◌, ◌-◌, ◌⊎◌, inl, inr, refl, sym, ap, arith, Bool, true, false, cond, ◌&&◌, subst, Option, Some, None, w64, to_z, of_z}
use Rattle.std.proofs.lemmas.Bool.{false≢true, and_from, false_from_ne_true}
use Rattle.std.specs.Prelude.{ℤ, pos, negsuc, neg_ℤ, ◌+ℤ◌, ◌-ℤ◌, ◌*ℤ◌, ◌<ℤ◌, ◌≤ℤ◌, ◌↔◌, int_div, int_rem, int_lt, unsigned_abs, IfSome, option_map}
use Rattle.std.specs.Int.{int_min, int_max}
use Rattle.std.specs.Int.Signed.{≤ℤ_refl}
use Rattle.std.proofs.Math.Nat.{mod-le}
use Rattle.std.proofs.lemmas.Int.{ints, clamps, by_lt_z, rem_below}
use Rattle.ms_num.specs.Numbers.{int_eq, mod_at}
use Rattle.ms_num.specs.Span.{Span, Has, IsInterval, IsResult, IsLeast, Inside, point, is_single, remainder_bound, remainders, cut_around_zero, mod_span, is_within}
use Rattle.ms_num.proofs.SharedSpans.{same_some, of_le, and_left, and_right, within_low, within_high, lo_within, hi_within, read_within}
use Rattle.ms_num.proofs.SharedImages.{abs_is}
use Rattle.ms_num.proofs.SharedMembers.{same_span}
use Rattle.ms_num.proofs.Cuts.{lt_from, ge_from}
use Rattle.ms_num.proofs.Build.{eq_from, eq_of}
use Rattle.ms_num.proofs.Divisions.{left_over, rem_not_negative, rem_not_positive}

-- what is known of a remainder: it is no further from 0 than the dividend, nearer than the divisor, and has the sign of the dividend
pub record IsRemainder (x y z : ℤ) : Type 0 where
  pub smaller : pos (unsigned_abs z) <ℤ pos (unsigned_abs y)
  pub less : pos (unsigned_abs z) ≤ℤ pos (unsigned_abs x)
  pub not_negative : pos 0 ≤ℤ x → pos 0 ≤ℤ z
  pub not_positive : x ≤ℤ pos 0 → z ≤ℤ pos 0

rem_less : (x d : ℤ) → unsigned_abs (int_rem x d) ≤ unsigned_abs x
rem_less (pos a) d = mod-le a (unsigned_abs d)
rem_less (negsuc a) d = rw abs_neg (mod-le (suc a) (unsigned_abs d))
  where
    abs_neg : (n : ℕ) → unsigned_abs (neg_ℤ (pos n)) ≡ n
    abs_neg zero = refl
    abs_neg (suc n) = refl

is_remainder : (x d z : ℤ) → 0 < unsigned_abs d → (x -ℤ (d *ℤ int_div x d)) ≡ z → IsRemainder x d z
is_remainder x d z n e =
    let same : int_rem x d ≡ z = sym (left_over x d) ∙ e in
    let a = rem_below x d n in
    let b = rem_less x d in
    rw (← same) (record {
      smaller = omega (arith, ints);
      less = omega (arith, ints);
      not_negative = rem_not_negative x d;
      not_positive = rem_not_positive x d;
    })

pub mod_is : (x y z : ℤ) → mod_at x y ≡ Some z → IsRemainder x y z
mod_is x (pos zero) z e = absurd (none e)
  where
    none : None ≡ Some z → ⊥
    none e = cc
mod_is x (pos (suc n)) z e = is_remainder x (pos (suc n)) z (omega arith) (same_some e)
mod_is x (negsuc n) z e = is_remainder x (negsuc n) z (omega arith) (same_some e)

-- a divisor of the interval is no further from 0 than its ends
bound_above : (b : Span) (y : ℤ) → Has b y → pos (unsigned_abs y) ≤ℤ (remainder_bound b +ℤ pos 1)
bound_above b y h =
    let f = h.from in let t = h.to in
    let k = abs_is y in let l = abs_is b.lo in let u = abs_is b.hi in
    omega (arith, ints, clamps)

-- the hull has each remainder
pub remainders_have : (a b : Span) (z : ℤ) → IsResult mod_at a b z → Has (remainders a (remainder_bound b)) z
remainders_have a b z r = record { from = from (int_lt a.lo (pos 0)) refl; to = to (int_lt (pos 0) a.hi) refl }
  where
    m : ℤ
    m = remainder_bound b

    is : IsRemainder r.left r.right z
    is = mod_is r.left r.right z r.gives

    near : pos (unsigned_abs z) ≤ℤ remainder_bound b
    near = let k = bound_above b r.right r.right_in in let s = is.smaller in omega (arith, ints)

    from : (c : Bool) → int_lt a.lo (pos 0) ≡ c → cond c (int_max a.lo (neg_ℤ (remainder_bound b))) (pos 0) ≤ℤ z
    from true e =
        let n = near in let l = is.less in
        let p = abs_is z in let q = abs_is r.left in
        let f = r.left_in.from in
        by_lt_z r.left (pos 0) (λ k. omega (arith, ints, clamps)) (λ k. let g = is.not_negative k in let h = lt_from a.lo (pos 0) e in omega (arith, ints, clamps))
    from false e = let h = ge_from a.lo (pos 0) e in let f = r.left_in.from in is.not_negative (omega (arith, ints))

    to : (c : Bool) → int_lt (pos 0) a.hi ≡ c → z ≤ℤ cond c (int_min a.hi (remainder_bound b)) (pos 0)
    to true e =
        let n = near in let l = is.less in
        let p = abs_is z in let q = abs_is r.left in
        let t = r.left_in.to in
        by_lt_z (pos 0) r.left (λ k. omega (arith, ints, clamps)) (λ k. let g = is.not_positive k in let h = lt_from (pos 0) a.hi e in omega (arith, ints, clamps))
    to false e = let h = ge_from (pos 0) a.hi e in let t = r.left_in.to in is.not_positive (omega (arith, ints))

-- where there is a divisor other than 0 the bound is not negative
pub bound_not_negative : (b : Span) → b.lo ≤ℤ b.hi → (b ≡ point (pos 0) → ⊥) → pos 0 ≤ℤ remainder_bound b
bound_not_negative b o f =
    let l = abs_is b.lo in let u = abs_is b.hi in
    by_lt_z (remainder_bound b) (pos 0) (λ k. absurd (f (same_span b (point (pos 0)) (omega (arith, ints, clamps)) (omega (arith, ints, clamps))))) (λ k. k)

-- the hull's ends, without cases
pub low_end_is : (a m : ℤ) → pos 0 ≤ℤ m → int_max (int_min a (pos 0)) (neg_ℤ m) ≡ cond (int_lt a (pos 0)) (int_max a (neg_ℤ m)) (pos 0)
low_end_is a m h = by_case (int_lt a (pos 0)) refl
  where
    by_case : (c : Bool) → int_lt a (pos 0) ≡ c → int_max (int_min a (pos 0)) (neg_ℤ m) ≡ cond c (int_max a (neg_ℤ m)) (pos 0)
    by_case true e = let k = lt_from a (pos 0) e in omega (arith, ints, clamps)
    by_case false e = let k = ge_from a (pos 0) e in omega (arith, ints, clamps)

pub high_end_is : (a m : ℤ) → pos 0 ≤ℤ m → int_min (int_max a (pos 0)) m ≡ cond (int_lt (pos 0) a) (int_min a m) (pos 0)
high_end_is a m h = by_case (int_lt (pos 0) a) refl
  where
    by_case : (c : Bool) → int_lt (pos 0) a ≡ c → int_min (int_max a (pos 0)) m ≡ cond c (int_min a m) (pos 0)
    by_case true e = let k = lt_from (pos 0) a e in omega (arith, ints, clamps)
    by_case false e = let k = ge_from (pos 0) a e in omega (arith, ints, clamps)

-- ---- two numbers

-- a single interval has one number
only : (s : Span) (z : ℤ) → is_single s ≡ true → Has s z → z ≡ s.lo
only s z e h = let same = eq_from s.lo s.hi e in let f = h.from in let t = h.to in omega (arith, ints)

pub single_least : (a b : Span) (v : ℤ) → is_single a ≡ true → is_single b ≡ true → mod_at a.lo b.lo ≡ Some v → IsLeast (IsResult mod_at a b) (point v)
single_least a b v p q e = record {
  all = λ z r.
      let same : v ≡ z = same_some (sym e ∙ (rw (only a r.left p r.left_in, only b r.right q r.right_in) at r.gives)) in
      record { from = omega (arith, ints); to = omega (arith, ints) };
  low = result;
  high = result;
}
  where
    first : (s : Span) → is_single s ≡ true → Has s s.lo
    first s e = let same = eq_from s.lo s.hi e in record { from = ≤ℤ_refl s.lo; to = omega (arith, ints) }

    result : IsResult mod_at a b v
    result = record { left = a.lo; right = b.lo; left_in = first a p; right_in = first b q; gives = e }

-- ---- the rule as a whole

single_zero : (b : Span) → (is_single b && int_eq b.lo (pos 0)) ≡ true → b ≡ point (pos 0)
single_zero b e =
    let p = eq_from b.lo b.hi (and_left (is_single b) (int_eq b.lo (pos 0)) e) in
    let q = eq_from b.lo (pos 0) (and_right (is_single b) (int_eq b.lo (pos 0)) e) in
    same_span b (point (pos 0)) q (omega (arith, ints))

not_zero : (b : Span) → (b ≡ point (pos 0) → ⊥) → b.lo ≡ b.hi → b.lo ≡ pos 0 → ⊥
not_zero b f e g = f (same_span b (point (pos 0)) g (sym e ∙ g))

-- a remainder by a number other than 0 is defined
mod_defined : (x y : ℤ) → (y ≡ pos 0 → ⊥) → (v : ℤ) × (mod_at x y ≡ Some v)
mod_defined x (pos zero) f = absurd (f refl)
mod_defined x (pos (suc n)) f = (x -ℤ (pos (suc n) *ℤ int_div x (pos (suc n))), refl)
mod_defined x (negsuc n) f = (x -ℤ (negsuc n *ℤ int_div x (negsuc n)), refl)

-- the rule gives nothing, one number or the hull
pub mod_cases : (P : Option Span → Type 0) (a b : Span) → (b ≡ point (pos 0) → P None) → ((v : ℤ) → (b ≡ point (pos 0) → ⊥) → is_single a ≡ true → is_single b ≡ true → mod_at a.lo b.lo ≡ Some v → P (Some (point v))) → ((b ≡ point (pos 0) → ⊥) → (is_single a && is_single b) ≡ false → P (Some (remainders a (remainder_bound b)))) → P (mod_span a b)
mod_cases P a b none single hull = by_zero (is_single b && int_eq b.lo (pos 0)) refl
  where
    not_only_zero : (is_single b && int_eq b.lo (pos 0)) ≡ false → b ≡ point (pos 0) → ⊥
    not_only_zero e f = false≢true (sym e ∙ ap (λ s. is_single s && int_eq s.lo (pos 0)) f)

    by_single : (d : Bool) → (is_single b && int_eq b.lo (pos 0)) ≡ false → (is_single a && is_single b) ≡ d → P (cond d (option_map point (mod_at a.lo b.lo)) (Some (remainders a (remainder_bound b))))
    by_single true e k =
        let p = and_left (is_single a) (is_single b) k in
        let q = and_right (is_single a) (is_single b) k in
        let f = not_only_zero e in
        let v = mod_defined a.lo b.lo (not_zero b f (eq_from b.lo b.hi q)) in
        subst (λ o. P (option_map point o)) (sym v.1) (single v.0 f p q v.1)
    by_single false e k = hull (not_only_zero e) k

    by_zero : (c : Bool) → (is_single b && int_eq b.lo (pos 0)) ≡ c → P (cond c None (cond (is_single a && is_single b) (option_map point (mod_at a.lo b.lo)) (Some (remainders a (remainder_bound b)))))
    by_zero true e = none (single_zero b e)
    by_zero false e = by_single (is_single a && is_single b) e refl

-- the hull has each remainder
pub mod_has : (a b : Span) → IfSome (mod_span a b) (λ s. (z : ℤ) → IsResult mod_at a b z → Has s z)
mod_has a b =
    mod_cases (λ o. IfSome o (λ s. (z : ℤ) → IsResult mod_at a b z → Has s z)) a b (λ e. tt)
    (λ v f p q e. (single_least a b v p q e).all)
    (λ f e. remainders_have a b)

abbrev NoneIfZero : Span → Option Span → Type 0
NoneIfZero b o = (o ≡ None) ↔ (b ≡ point (pos 0))

some_none : (b s : Span) → (b ≡ point (pos 0) → ⊥) → NoneIfZero b (Some s)
some_none b s f = (no, λ e. absurd (f e))
  where
    no : Some s ≡ None → b ≡ point (pos 0)
    no e = cc

-- there is none exactly where 0 is the only divisor
pub mod_none : (a b : Span) → (mod_span a b ≡ None) ↔ (b ≡ point (pos 0))
mod_none a b = mod_cases (NoneIfZero b) a b (λ e. (λ _. e, λ _. refl)) (λ v f p q e. some_none b (point v) f) (λ f e. some_none b (remainders a (remainder_bound b)) f)

-- and it is the remainder itself for two numbers
pub mod_single : (a b : Span) → a.lo ≡ a.hi → b.lo ≡ b.hi → IfSome (mod_span a b) (IsLeast (IsResult mod_at a b))
mod_single a b p q =
    mod_cases (λ o. IfSome o (IsLeast (IsResult mod_at a b))) a b (λ e. tt)
    (λ v f k l e. single_least a b v k l e)
    (λ f e. absurd (false≢true (sym e ∙ and_from (is_single a) (is_single b) (eq_of a.lo a.hi p) (eq_of b.lo b.hi q))))

-- ---- smaller intervals

hull_inside : (a b a' b' : Span) → Inside a a' → Inside b b' → pos 0 ≤ℤ remainder_bound b → Inside (remainders a (remainder_bound b)) (remainders a' (remainder_bound b'))
hull_inside a b a' b' i j n = whole (remainder_bound b) (remainder_bound b') n bound
  where
    bound : remainder_bound b ≤ℤ remainder_bound b'
    bound =
        let jl = j.lo in let jp = j.proper in let jh = j.hi in
        let l = bound_above b' b.lo (record { from = jl; to = omega (arith, ints) }) in
        let h = bound_above b' b.hi (record { from = omega (arith, ints); to = jh }) in
        least (pos (unsigned_abs b.lo)) (pos (unsigned_abs b.hi)) (remainder_bound b') l h
      where
        least : (u v m : ℤ) → u ≤ℤ (m +ℤ pos 1) → v ≤ℤ (m +ℤ pos 1) → (int_max u v -ℤ pos 1) ≤ℤ m
        least u v m l h = omega (arith, ints, clamps)

    whole : (m m' : ℤ) → pos 0 ≤ℤ m → m ≤ℤ m' → Inside (remainders a m) (remainders a' m')
    whole m m' n k =
        let il = i.lo in let ip = i.proper in let ih = i.hi in
        record {
          lo = rw (← low_end_is a.lo m n, ← low_end_is a'.lo m' (omega (arith, ints))) (omega (arith, ints, clamps));
          proper = rw (← low_end_is a.lo m n, ← high_end_is a.hi m n) (omega (arith, ints, clamps));
          hi = rw (← high_end_is a.hi m n, ← high_end_is a'.hi m' (omega (arith, ints))) (omega (arith, ints, clamps));
        }

single_inside : (s t : Span) → Inside s t → is_single t ≡ true → is_single s ≡ true
single_inside s t i e =
    let same = eq_from t.lo t.hi e in
    let l = i.lo in let p = i.proper in let h = i.hi in
    eq_of s.lo s.hi (omega (arith, ints))

-- the hull on smaller intervals is smaller
pub mod_inside : (a b a' b' : Span) → Inside a a' → Inside b b' → IfSome (mod_span a b) (λ s. IfSome (mod_span a' b') (Inside s))
mod_inside a b a' b' i j =
    mod_cases (λ o. IfSome o (λ s. IfSome (mod_span a' b') (Inside s))) a b (λ e. tt)
    (λ v f p q e. if_some (mod_span a' b') (mod_has a' b') v (result v p q e))
    (λ f e. mod_cases (λ o. IfSome o (Inside (remainders a (remainder_bound b)))) a' b' (λ e. tt)
    (λ v g p q k. absurd (false≢true (sym e ∙ and_from (is_single a) (is_single b) (single_inside a a' i p) (single_inside b b' j q))))
    (λ g k. hull_inside a b a' b' i j (bound_not_negative b j.proper f)))
  where
    first : (s t : Span) → Inside s t → Has t s.lo
    first s t i = let l = i.lo in let p = i.proper in let h = i.hi in record { from = l; to = omega (arith, ints) }

    result : (v : ℤ) → is_single a ≡ true → is_single b ≡ true → mod_at a.lo b.lo ≡ Some v → IsResult mod_at a' b' v
    result v p q e = record { left = a.lo; right = b.lo; left_in = first a a' i; right_in = first b b' j; gives = e }

    if_some : (o : Option Span) → IfSome o (λ s. (z : ℤ) → IsResult mod_at a' b' z → Has s z) → (v : ℤ) → IsResult mod_at a' b' v → IfSome o (Inside (point v))
    if_some None h v r = tt
    if_some (Some s) h v r = let k = h v r in record { lo = k.from; proper = ≤ℤ_refl v; hi = k.to }

-- ---- within the limits

pub rem_within : (x y : ℤ) → is_within x ≡ true → is_within (int_rem x y) ≡ true
rem_within x y h =
    let l = within_low x h in let u = within_high x h in
    let k = rem_less x y in
    let p = abs_is (int_rem x y) in let q = abs_is x in
    ends (int_rem x y) (less x (int_rem x y) l u k p q) (more x (int_rem x y) l u k p q)
  where
    ends : (z : ℤ) → negsuc (2 ^ 50 - 1) ≤ℤ z → z ≤ℤ pos (2 ^ 50) → is_within z ≡ true
    ends z l u = rw (of_le (negsuc (2 ^ 50 - 1)) z l, of_le z (pos (2 ^ 50)) u) refl

    less : (x z : ℤ) → negsuc (2 ^ 50 - 1) ≤ℤ x → x ≤ℤ pos (2 ^ 50) → unsigned_abs z ≤ unsigned_abs x → pos (unsigned_abs z) ≡ int_max z (neg_ℤ z) → pos (unsigned_abs x) ≡ int_max x (neg_ℤ x) → negsuc (2 ^ 50 - 1) ≤ℤ z
    less x z l u k p q = omega (arith, ints, clamps)

    more : (x z : ℤ) → negsuc (2 ^ 50 - 1) ≤ℤ x → x ≤ℤ pos (2 ^ 50) → unsigned_abs z ≤ unsigned_abs x → pos (unsigned_abs z) ≡ int_max z (neg_ℤ z) → pos (unsigned_abs x) ≡ int_max x (neg_ℤ x) → z ≤ℤ pos (2 ^ 50)
    more x z l u k p q = omega (arith, ints, clamps)

-- the remainder of two numbers
pub mod_at_is : (x y : ℤ) → (y ≡ pos 0 → ⊥) → mod_at x y ≡ Some (int_rem x y)
mod_at_is x (pos zero) f = absurd (f refl)
mod_at_is x (pos (suc n)) f = ap (λ z. Some z) (left_over x (pos (suc n)))
mod_at_is x (negsuc n) f = ap (λ z. Some z) (left_over x (negsuc n))

pub cut_interval : (a : Span) (l h : ℤ) → IsInterval a → l ≤ℤ pos 0 → pos 0 ≤ℤ h → IsInterval (cut_around_zero a l h)
cut_interval a l h i m n =
    let o = i.ordered in let b = i.low in let c = i.high in
    record { ordered = omega (arith, ints, clamps); low = omega (arith, ints, clamps); high = omega (arith, ints, clamps) }

pub cut_is : (a : Span) (m : ℤ) → pos 0 ≤ℤ m → cut_around_zero a (neg_ℤ m) m ≡ remainders a m
cut_is a m n = same_span (cut_around_zero a (neg_ℤ m) m) (remainders a m) (low_end_is a.lo m n) (high_end_is a.hi m n)

-- ---- what the code computes

pub mod_value_single : (a b : Span) → (b ≡ point (pos 0) → ⊥) → a.lo ≡ a.hi → b.lo ≡ b.hi → Some (point (int_rem a.lo b.lo)) ≡ mod_span a b
mod_value_single a b f p q =
    mod_cases (λ o. Some (point (int_rem a.lo b.lo)) ≡ o) a b (λ e. absurd (f e))
    (λ v g k l e. ap (λ z. Some (point z)) (same_some (sym (mod_at_is a.lo b.lo (not_zero b f q)) ∙ e)))
    (λ g e. absurd (false≢true (sym e ∙ and_from (is_single a) (is_single b) (eq_of a.lo a.hi p) (eq_of b.lo b.hi q))))

pub mod_value_hull : (a b : Span) → (b ≡ point (pos 0) → ⊥) → (is_single a && is_single b) ≡ false → Some (remainders a (remainder_bound b)) ≡ mod_span a b
mod_value_hull a b f h =
    mod_cases (λ o. Some (remainders a (remainder_bound b)) ≡ o) a b (λ e. absurd (f e))
    (λ v g k l e. absurd (false≢true (sym h ∙ and_from (is_single a) (is_single b) k l)))
    (λ g e. refl)

-- the tests of the code, on 64 bits
same_bits : (x y : ℤ) → is_within x ≡ true → is_within y ≡ true → of_z w64 x ≡ of_z w64 y → x ≡ y
same_bits x y p q e = sym (read_within x p) ∙ ap (to_z w64) e ∙ read_within y q

pub single_bits : (s : Span) → IsInterval s → of_z w64 s.lo ≡ of_z w64 s.hi → s.lo ≡ s.hi
single_bits s i e = same_bits s.lo s.hi (lo_within s i) (hi_within s i) e

pub not_zero_bits : (s : Span) → ((of_z w64 s.lo ≡ 0) × (of_z w64 s.hi ≡ 0 → ⊥)) ⊎ (of_z w64 s.lo ≡ 0 → ⊥) → s ≡ point (pos 0) → ⊥
not_zero_bits s h e = elim h [ inl k ↦ k.1 (ap (λ t. of_z w64 t.hi) e) | inr k ↦ k (ap (λ t. of_z w64 t.lo) e) ]

pub not_single_bits : (s t : Span) → ((of_z w64 s.lo ≡ of_z w64 s.hi) × (of_z w64 t.lo ≡ of_z w64 t.hi → ⊥)) ⊎ (of_z w64 s.lo ≡ of_z w64 s.hi → ⊥) → (is_single s && is_single t) ≡ false
not_single_bits s t h = false_from_ne_true (is_single s && is_single t) (λ e. no (eq_from s.lo s.hi (and_left (is_single s) (is_single t) e)) (eq_from t.lo t.hi (and_right (is_single s) (is_single t) e)))
  where
    no : s.lo ≡ s.hi → t.lo ≡ t.hi → ⊥
    no p q = elim h [ inl k ↦ k.1 (ap (of_z w64) q) | inr k ↦ k (ap (of_z w64) p) ]

pub read_rem : (x y : ℤ) → is_within x ≡ true → is_within y ≡ true → to_z w64 (of_z w64 (int_rem (to_z w64 (of_z w64 x)) (to_z w64 (of_z w64 y)))) ≡ int_rem x y
read_rem x y p q = rw (read_within x p, read_within y q) (read_within (int_rem x y) (rem_within x y p))
