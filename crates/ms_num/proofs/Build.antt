-- A set that grows by numbers in ascending order, and one that loses a number.
use Rattle.std.proofs.Common.{◌≡◌, ◌^◌, Bool, true, false, ◌&&◌, ◌||◌, inl, inr, refl, sym, ap, ◌∙◌, arith, List, [], ◌∷◌, ◌++◌}
use Rattle.std.proofs.lemmas.Bool.{false≢true, false_from_ne_true, or_cases, or_left, or_right, or_from}
use Rattle.std.proofs.lemmas.List.Folds.{list_any-append}
use Rattle.std.specs.Prelude.{ℤ, pos, ◌+ℤ◌, ◌-ℤ◌, ◌<ℤ◌, ◌≤ℤ◌, int_le, not}
use Rattle.std.specs.List.{filter_map}
use Rattle.std.proofs.lemmas.Int.{ints, by_lt_z}
use Rattle.ms_num.specs.Numbers.{int_eq}
use Rattle.ms_num.specs.Span.{Span, Has, IsInterval, has, point}
use Rattle.ms_num.specs.Ranges.{is_member, RisesPast, EndAtMost, span_at_most, span_at_least}
use Rattle.ms_num.proofs.SharedSpans.{le_from, of_le, and_left, and_right}
use Rattle.ms_num.proofs.SharedMembers.{same_tests, has_from, has_of, past_all, rises_append}
use Rattle.ms_num.proofs.Cuts.{members_kept, rises_kept, keeps_at_most, keeps_at_least, shrinks_at_most, shrinks_at_least}

abbrev pub up_to : Span → ℤ → Span
up_to s n = record { lo = s.lo; hi = n }

-- ---- the last range

pub last_interval : (x : ℤ) (xs : List Span) (s : Span) → RisesPast x (xs ++ s ∷ []) → IsInterval s
last_interval x [] s r = r.1
last_interval x (t ∷ ts) s r = last_interval (t.hi +ℤ pos 1) ts s r.2

pub last_end : (n : ℤ) (xs : List Span) (s : Span) → EndAtMost n (xs ++ s ∷ []) → s.hi ≤ℤ n
last_end n [] s e = e.0
last_end n (t ∷ ts) s e = last_end n ts s e.1

pub end_weaker : (m n : ℤ) (ss : List Span) → m ≤ℤ n → EndAtMost m ss → EndAtMost n ss
end_weaker m n [] h e = tt
end_weaker m n (s ∷ ss) h e = let k = e.0 in (omega (arith, ints), end_weaker m n ss h e.1)

pub end_with : (n : ℤ) (xs : List Span) (s t : Span) → EndAtMost n (xs ++ s ∷ []) → t.hi ≤ℤ n → EndAtMost n (xs ++ t ∷ [])
end_with n [] s t e h = (h, tt)
end_with n (u ∷ us) s t e h = (e.0, end_with n us s t e.1 h)

pub end_push : (n : ℤ) (ss : List Span) (t : Span) → EndAtMost n ss → t.hi ≤ℤ n → EndAtMost n (ss ++ t ∷ [])
end_push n [] t e h = (h, tt)
end_push n (s ∷ ss) t e h = (e.0, end_push n ss t e.1 h)

-- the last range grows
pub rises_grown : (x n : ℤ) (xs : List Span) (s : Span) → RisesPast x (xs ++ s ∷ []) → IsInterval (up_to s n) → RisesPast x (xs ++ up_to s n ∷ [])
rises_grown x n [] s r i = (r.0, i, tt)
rises_grown x n (t ∷ ts) s r i = (r.0, r.1, rises_grown (t.hi +ℤ pos 1) n ts s r.2 i)

pub eq_from : (x y : ℤ) → int_eq x y ≡ true → x ≡ y
eq_from x y h = let a = le_from x y (and_left (int_le x y) (int_le y x) h) in let b = le_from y x (and_right (int_le x y) (int_le y x) h) in omega (arith, ints)

pub eq_of : (x y : ℤ) → x ≡ y → int_eq x y ≡ true
eq_of x y e = rw (of_le x y (omega (arith, ints)), of_le y x (omega (arith, ints))) refl

grown_has : (s : Span) (n z : ℤ) → s.lo ≤ℤ s.hi → s.hi ≤ℤ n → n ≤ℤ (s.hi +ℤ pos 1) → has (up_to s n) z ≡ (has s z || int_eq z n)
grown_has s n z o h k = same_tests (has (up_to s n) z) (has s z || int_eq z n) more less
  where
    more : has (up_to s n) z ≡ true → (has s z || int_eq z n) ≡ true
    more e =
        let f = (has_from (up_to s n) z e).from in
        let t = (has_from (up_to s n) z e).to in
        by_lt_z s.hi z (λ l. or_right (has s z) (int_eq z n) (eq_of z n (omega (arith, ints)))) (λ l. or_left (has s z) (int_eq z n) (has_of s z f l))

    less : (has s z || int_eq z n) ≡ true → has (up_to s n) z ≡ true
    less e =
        elim (or_cases (has s z) (int_eq z n) e) [
          | inl a ↦ inside (has_from s z a)
          | inr a ↦ last (eq_from z n a)
        ]
      where
        inside : Has s z → has (up_to s n) z ≡ true
        inside a = let f = a.from in let t = a.to in has_of (up_to s n) z f (omega (arith, ints))

        last : z ≡ n → has (up_to s n) z ≡ true
        last a = has_of (up_to s n) z (omega (arith, ints)) (omega (arith, ints))

or_regroup : (a b c : Bool) → (a || ((b || c) || false)) ≡ ((a || (b || false)) || c)
or_regroup true b c = refl
or_regroup false true c = refl
or_regroup false false true = refl
or_regroup false false false = refl

pub members_grown : (xs : List Span) (s : Span) (n : ℤ) → s.lo ≤ℤ s.hi → s.hi ≤ℤ n → n ≤ℤ (s.hi +ℤ pos 1) → (z : ℤ) → is_member (xs ++ up_to s n ∷ []) z ≡ (is_member (xs ++ s ∷ []) z || int_eq z n)
members_grown xs s n o h k z =
    rw (list_any-append (λ t. has t z) xs (up_to s n ∷ []), list_any-append (λ t. has t z) xs (s ∷ []), grown_has s n z o h k) (or_regroup (is_member xs z) (has s z) (int_eq z n))

-- a range of its own at the end
pub rises_pushed : (x n : ℤ) (xs : List Span) (s : Span) → RisesPast x (xs ++ s ∷ []) → (s.hi +ℤ pos 1) <ℤ n → IsInterval (point n) → RisesPast x ((xs ++ s ∷ []) ++ point n ∷ [])
rises_pushed x n [] s r h i = (r.0, r.1, (h, i, tt))
rises_pushed x n (t ∷ ts) s r h i = (r.0, r.1, rises_pushed (t.hi +ℤ pos 1) n ts s r.2 h i)

-- ---- the number that is lost

not_same : (z n : ℤ) → (int_le z (n -ℤ pos 1) || int_le (n +ℤ pos 1) z) ≡ not (int_eq z n)
not_same z n =
    by_lt_z z n (λ l. rw (of_le z (n -ℤ pos 1) (omega (arith, ints)), other z n (λ e. omega (arith, ints))) refl)
    (λ k. by_lt_z n z (λ l. rw (of_le (n +ℤ pos 1) z (omega (arith, ints)), other z n (λ e. omega (arith, ints))) (or_left_true (int_le z (n -ℤ pos 1))))
    (λ l. rw (eq_of z n (omega (arith, ints))) (or_from (int_le z (n -ℤ pos 1)) (int_le (n +ℤ pos 1) z) (over z (n -ℤ pos 1) (omega (arith, ints))) (over (n +ℤ pos 1) z (omega (arith, ints))))))
  where
    other : (z n : ℤ) → (z ≡ n → ⊥) → int_eq z n ≡ false
    other z n f = false_from_ne_true (int_eq z n) (λ e. f (eq_from z n e))

    over : (a b : ℤ) → b <ℤ a → int_le a b ≡ false
    over a b l = false_from_ne_true (int_le a b) (λ e. no (le_from a b e))
      where
        no : a ≤ℤ b → ⊥
        no k = omega (arith, ints)

    or_left_true : (b : Bool) → (b || true) ≡ true
    or_left_true true = refl
    or_left_true false = refl

apart : (m p q : Bool) → ((m && p) || (m && q)) ≡ (m && (p || q))
apart true p q = refl
apart false p q = refl

abbrev pub below : ℤ → List Span → List Span
below n ss = filter_map (span_at_most (n -ℤ pos 1)) ss

abbrev pub beyond : ℤ → List Span → List Span
beyond n ss = filter_map (span_at_least (n +ℤ pos 1)) ss

pub members_without : (n : ℤ) (ss : List Span) (z : ℤ) → is_member (below n ss ++ beyond n ss) z ≡ (is_member ss z && not (int_eq z n))
members_without n ss z =
    rw (list_any-append (λ t. has t z) (below n ss) (beyond n ss), members_kept (λ z. int_le z (n -ℤ pos 1)) (span_at_most (n -ℤ pos 1)) (keeps_at_most (n -ℤ pos 1)) ss z, members_kept (λ z. int_le (n +ℤ pos 1) z) (span_at_least (n +ℤ pos 1)) (keeps_at_least (n +ℤ pos 1)) ss z, ← not_same z n)
    (apart (is_member ss z) (int_le z (n -ℤ pos 1)) (int_le (n +ℤ pos 1) z))

pub rises_without : (x n : ℤ) (ss : List Span) → RisesPast x ss → x ≤ℤ n → RisesPast x (below n ss ++ beyond n ss)
rises_without x n ss r l =
    rises_append x x n (below n ss) (beyond n ss) (rises_kept _ (shrinks_at_most (n -ℤ pos 1)) x ss r) (rises_kept _ (shrinks_at_least (n +ℤ pos 1)) x ss r) l
    (λ z h. under z (le_from z (n -ℤ pos 1) (and_right (is_member ss z) (int_le z (n -ℤ pos 1)) (sym (members_kept _ _ (keeps_at_most (n -ℤ pos 1)) ss z) ∙ h))))
    (λ z h. over z (le_from (n +ℤ pos 1) z (and_right (is_member ss z) (int_le (n +ℤ pos 1) z) (sym (members_kept _ _ (keeps_at_least (n +ℤ pos 1)) ss z) ∙ h))))
  where
    under : (z : ℤ) → z ≤ℤ (n -ℤ pos 1) → z <ℤ n
    under z h = omega (arith, ints)

    over : (z : ℤ) → (n +ℤ pos 1) ≤ℤ z → n <ℤ z
    over z h = omega (arith, ints)

-- nothing is lost where the number is none of the set
pub members_whole : (n : ℤ) (ss : List Span) → is_member ss n ≡ false → (z : ℤ) → is_member ss z ≡ (is_member ss z && not (int_eq z n))
members_whole n ss h z = by_case (int_eq z n) refl
  where
    kept : (a : Bool) → a ≡ (a && true)
    kept true = refl
    kept false = refl

    lost : (a : Bool) → a ≡ false → a ≡ (a && false)
    lost true e = e
    lost false e = refl

    by_case : (b : Bool) → int_eq z n ≡ b → is_member ss z ≡ (is_member ss z && not b)
    by_case true e = lost (is_member ss z) (ap (is_member ss) (eq_from z n e) ∙ h)
    by_case false e = kept (is_member ss z)

-- a number of the set is within the limits
pub member_low : (x n : ℤ) (ss : List Span) → RisesPast x ss → is_member ss n ≡ true → x <ℤ n
member_low x n ss r h = past_all x ss n r h

pub member_high : (x n : ℤ) (ss : List Span) → RisesPast x ss → is_member ss n ≡ true → n ≤ℤ pos (2 ^ 50)
member_high x n [] r h = absurd (false≢true h)
member_high x n (s ∷ ss) r h =
    elim (or_cases (has s n) (is_member ss n) h) [
      | inl a ↦ inside (has_from s n a)
      | inr a ↦ member_high (s.hi +ℤ pos 1) n ss r.2 a
    ]
  where
    inside : Has s n → n ≤ℤ pos (2 ^ 50)
    inside a = let t = a.to in let u = r.1.high in omega (arith, ints)
