-- The size of a set that is kept as ranges.
use Rattle.std.proofs.Common.{◌≡◌, ℕ, ◌+◌, ◌<◌, ◌≤◌, zero, suc, refl, sym, ap, ◌∙◌, arith, ◌||◌, ◌&&◌, true, false, Bool, if◌then◌else◌, List, [], ◌∷◌}
use Rattle.std.specs.Prelude.{ℤ, pos, ◌+ℤ◌, ◌-ℤ◌, ◌≤ℤ◌, ◌<ℤ◌, int_le, nat_le, unsigned_abs}
use Rattle.std.proofs.lemmas.Int.{ints}
use Rattle.std.proofs.lemmas.Bool.{leb-true, leb-false}
use Rattle.std.proofs.lemmas.List.Sums.{sum_by-cons}
use Rattle.ms_num.specs.Span.{Span, has}
use Rattle.ms_num.specs.Ranges.{RisesPast, IsRanges, is_member, size_of, span_size}
use Rattle.ms_num.proofs.SharedMembers.{has_of}
use Rattle.ms_num.specs.Sets.{Set, IsSet, set_of, set_size, count_from, width, hi_of}
use Rattle.ms_num.proofs.SharedCounts.{IsNat, nat_of, width_of, window, count_some, count_split, step_ℤ, here_ℤ}
use Rattle.ms_num.proofs.SharedSets.{rising_set, not_le}

count_all : (p : ℤ → Bool) (z : ℤ) (n : ℕ) → ((k : ℕ) → k < n → p (z +ℤ pos k) ≡ true) → count_from p z n ≡ n
count_all p z zero h = refl
count_all p z (suc n) h = one (p z) _ n (ap p (sym (here_ℤ z)) ∙ h 0 (omega arith)) (count_all p (z +ℤ pos 1) n (λ k b. ap p (step_ℤ z k) ∙ h (suc k) (omega (arith, b))))
  where
    one : (b : Bool) (m n : ℕ) → b ≡ true → m ≡ n → (if b then 1 else 0) + m ≡ suc n
    one true m n e f = omega (arith, f)
    one false m n e f = absurd (cc)

count_same : (p q : ℤ → Bool) (z : ℤ) (n : ℕ) → ((k : ℕ) → k < n → p (z +ℤ pos k) ≡ q (z +ℤ pos k)) → count_from p z n ≡ count_from q z n
count_same p q z zero h = refl
count_same p q z (suc n) h = one (p z) (q z) _ _ (ap p (sym (here_ℤ z)) ∙ h 0 (omega arith) ∙ ap q (here_ℤ z)) (count_same p q (z +ℤ pos 1) n (λ k b. ap p (step_ℤ z k) ∙ h (suc k) (omega (arith, b)) ∙ ap q (sym (step_ℤ z k))))
  where
    one : (a b : Bool) (m n : ℕ) → a ≡ b → m ≡ n → (if a then 1 else 0) + m ≡ (if b then 1 else 0) + n
    one true true m n e f = omega (arith, f)
    one false false m n e f = omega (arith, f)
    one true false m n e f = absurd (cc)
    one false true m n e f = absurd (cc)

-- all numbers of the first range are numbers of the set
in_first : (s : Span) (ss : List Span) (k a : ℕ) → s.hi -ℤ s.lo ≡ pos a → k < suc a → is_member (s ∷ ss) (s.lo +ℤ pos k) ≡ true
in_first s ss k a e l = first (has s (s.lo +ℤ pos k)) (is_member ss (s.lo +ℤ pos k)) (has_of s (s.lo +ℤ pos k) (omega (arith, ints)) (omega (arith, ints, e, l)))
  where
    first : (a b : Bool) → a ≡ true → (a || b) ≡ true
    first true b e = refl
    first false b e = absurd (cc)

-- and no number past its end is one of it
past_first : (s : Span) (ss : List Span) (z : ℤ) → s.hi <ℤ z → is_member (s ∷ ss) z ≡ is_member ss z
past_first s ss z l = only (int_le s.lo z) (int_le z s.hi) (is_member ss z) (not_le s.hi z l)
  where
    only : (a b c : Bool) → b ≡ false → ((a && b) || c) ≡ c
    only true false c e = refl
    only false b c e = refl
    only true true c e = absurd (cc)

range_size : (s : Span) (a : ℕ) → s.hi -ℤ s.lo ≡ pos a → span_size s ≡ suc a
range_size s a e = ap (λ x. unsigned_abs x + 1) e ∙ omega arith

-- the size of a set is that of its ranges together
pub size_rising : (x : ℤ) (ss : List Span) → RisesPast x ss → set_size (set_of ss) ≡ size_of ss
size_rising x [] r = refl
size_rising x (s ∷ []) r = by_nat (nat_of (s.hi -ℤ s.lo) (let o = r.1.ordered in omega (arith, ints, o)))
  where
    by_nat : IsNat (s.hi -ℤ s.lo) → set_size (set_of (s ∷ [])) ≡ size_of (s ∷ [])
    by_nat n =
        let w : count_from (is_member (s ∷ [])) s.lo (width (s.hi -ℤ s.lo)) ≡ count_from (is_member (s ∷ [])) s.lo (suc n.number) = ap (count_from (is_member (s ∷ [])) s.lo) (width_of (s.hi -ℤ s.lo) n.number n.is) in
        let a = count_all (is_member (s ∷ [])) s.lo (suc n.number) (λ k l. in_first s [] k n.number n.is l) in
        let z = range_size s n.number n.is in
        let t = sum_by-cons span_size s [] in
        omega (arith, w, a, z, t)
size_rising x (s ∷ t ∷ ss) r = by_nats (nat_of (s.hi -ℤ s.lo) (let o = r.1.ordered in omega (arith, ints, o))) (nat_of (hi_of (t ∷ ss) -ℤ (s.hi +ℤ pos 1)) after) (size_rising (s.hi +ℤ pos 1) (t ∷ ss) r.2)
  where
    rest : IsSet (set_of (t ∷ ss))
    rest = rising_set (s.hi +ℤ pos 1) t ss r.2

    ends : t.lo ≤ℤ hi_of (t ∷ ss)
    ends = rest.from (hi_of (t ∷ ss)) rest.high

    after : pos 0 ≤ℤ (hi_of (t ∷ ss) -ℤ (s.hi +ℤ pos 1))
    after = let e = ends in let p = r.2.0 in omega (arith, ints, e, p)

    by_nats : IsNat (s.hi -ℤ s.lo) → IsNat (hi_of (t ∷ ss) -ℤ (s.hi +ℤ pos 1)) → set_size (set_of (t ∷ ss)) ≡ size_of (t ∷ ss) → set_size (set_of (s ∷ t ∷ ss)) ≡ size_of (s ∷ t ∷ ss)
    by_nats n m below =
        let en = n.is in let em = m.is in let a = n.number in let k = m.number in
        let p : ℤ → Bool = is_member (s ∷ t ∷ ss) in
        let q : ℤ → Bool = is_member (t ∷ ss) in
        let h : ℤ = hi_of (t ∷ ss) in
        let whole : h -ℤ s.lo ≡ pos (a + suc k) = omega (arith, ints, en, em) in
        let w : width (h -ℤ s.lo) ≡ suc a + suc k = width_of (h -ℤ s.lo) (a + suc k) whole ∙ omega arith in
        let c : count_from p s.lo (width (h -ℤ s.lo)) ≡ count_from p s.lo (suc a + suc k) = ap (count_from p s.lo) w in
        let split = count_split p s.lo (suc a) (suc k) in
        let first = count_all p s.lo (suc a) (λ j l. in_first s (t ∷ ss) j a en l) in
        let start : s.lo +ℤ pos (suc a) ≡ s.hi +ℤ pos 1 = omega (arith, ints, en) in
        let moved : count_from p (s.lo +ℤ pos (suc a)) (suc k) ≡ count_from p (s.hi +ℤ pos 1) (suc k) = ap (λ z. count_from p z (suc k)) start in
        let same = count_same p q (s.hi +ℤ pos 1) (suc k) (λ j l. past_first s (t ∷ ss) ((s.hi +ℤ pos 1) +ℤ pos j) (omega (arith, ints))) in
        let wide : count_from q (s.hi +ℤ pos 1) (width (h -ℤ (s.hi +ℤ pos 1))) ≡ count_from q (s.hi +ℤ pos 1) (suc k) = ap (count_from q (s.hi +ℤ pos 1)) (width_of (h -ℤ (s.hi +ℤ pos 1)) k em) in
        let view = window q (s.hi +ℤ pos 1) h t.lo h (let p = r.2.0 in omega (arith, ints, p)) ends (omega (arith, ints)) rest.from rest.to in
        let z = range_size s a en in
        let sums = sum_by-cons span_size s (t ∷ ss) in
        omega (arith, c, split, first, moved, same, wide, view, z, sums, below)

pub size_ranges : (ss : List Span) → IsRanges ss → set_size (set_of ss) ≡ size_of ss
size_ranges ss r = size_rising _ ss r

-- a set with two different ends has two numbers
two_ends : (s : Set) → IsSet s → (k : ℕ) → s.hi -ℤ s.lo ≡ pos (suc k) → 2 ≤ set_size s
two_ends s i k e =
    let w = width_of (s.hi -ℤ s.lo) (suc k) e in
    let top : s.lo +ℤ pos (suc k) ≡ s.hi = omega (arith, ints, e) in
    let a = count_some s.has s.lo (suc k) (omega arith) i.low in
    let b = count_some s.has (s.lo +ℤ pos (suc k)) 1 (omega arith) (ap s.has top ∙ i.high) in
    let c = count_split s.has s.lo (suc k) 1 in
    let d : count_from s.has s.lo (width (s.hi -ℤ s.lo)) ≡ count_from s.has s.lo (suc k + 1) = ap (count_from s.has s.lo) (w ∙ omega arith) in
    omega (arith, a, b, c, d)

pub one_number : (s : Set) → IsSet s → nat_le 2 (set_size s) ≡ false → (m n : ℤ) → s.has m ≡ true → s.has n ≡ true → m ≡ n
one_number s i e m n hm hn = by_nat (nat_of (s.hi -ℤ s.lo) (let f = i.from s.hi i.high in omega (arith, ints, f)))
  where
    by_number : (k : ℕ) → s.hi -ℤ s.lo ≡ pos k → m ≡ n
    by_number zero f = let a = i.from m hm in let b = i.to m hm in let c = i.from n hn in let d = i.to n hn in omega (arith, ints, f, a, b, c, d)
    by_number (suc k) f = absurd (let t = two_ends s i k f in let l = leb-false 2 (set_size s) e in omega (arith, t, l))

    by_nat : IsNat (s.hi -ℤ s.lo) → m ≡ n
    by_nat k = by_number k.number k.is

-- a set with one value, and one with more, by their ends
pub closed_ends : (s : Set) → IsSet s → nat_le 2 (set_size s) ≡ false → s.lo ≡ s.hi
closed_ends s i e = one_number s i e s.lo s.hi i.low i.high

pub open_ends : (s : Set) → IsSet s → nat_le 2 (set_size s) ≡ true → s.lo <ℤ s.hi
open_ends s i e = by_nat (nat_of (s.hi -ℤ s.lo) (let f = i.from s.hi i.high in omega (arith, ints, f)))
  where
    few : (b : Bool) → (if b then 1 else 0) + 0 ≤ 1
    few true = omega arith
    few false = omega arith

    by_number : (k : ℕ) → s.hi -ℤ s.lo ≡ pos k → s.lo <ℤ s.hi
    by_number (suc k) f = omega (arith, ints, f)
    by_number zero f =
        let w : set_size s ≡ count_from s.has s.lo 1 = ap (count_from s.has s.lo) (width_of (s.hi -ℤ s.lo) 0 f) in
        let c : count_from s.has s.lo 1 ≤ 1 = few (s.has s.lo) in
        let l = leb-true 2 (set_size s) e in
        absurd (omega (arith, w, c, l))

    by_nat : IsNat (s.hi -ℤ s.lo) → s.lo <ℤ s.hi
    by_nat n = by_number n.number n.is
