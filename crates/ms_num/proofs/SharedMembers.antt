-- The numbers of lists of ranges: order, and that there is one list for one set.
use Rattle.std.proofs.Common.{◌≡◌, ℕ, zero, suc, ◌+◌, ◌-◌, ◌^◌, Bool, true, false, inl, inr, refl, sym, ap, ◌∙◌, arith, Option, Some, None, List, [], ◌∷◌, ◌++◌, length}
use Rattle.std.proofs.lemmas.Bool.{false≢true, or_cases, or_left, or_right}
use Rattle.std.proofs.lemmas.List.Sums.{sum_by-cons}
use Rattle.std.specs.Prelude.{ℤ, pos, ◌+ℤ◌, ◌-ℤ◌, ◌<ℤ◌, ◌≤ℤ◌, int_le, slice_get, IfSome, option_map}
use Rattle.std.specs.Int.Signed.{≤ℤ_refl}
use Rattle.std.proofs.lemmas.Int.{ints, by_lt_z}
use Rattle.ms_num.specs.Span.{Span, Has, IsInterval, has}
use Rattle.ms_num.specs.Ranges.{is_member, RisesPast, SameMembers, IsLowest, IsHighest, size_of, span_size}
use Rattle.ms_num.proofs.SharedSpans.{le_from, of_le, and_left, and_right}

-- two tests that hold of the same
pub same_tests : (a b : Bool) → (a ≡ true → b ≡ true) → (b ≡ true → a ≡ true) → a ≡ b
same_tests true b f g = sym (f refl)
same_tests false true f g = g refl
same_tests false false f g = refl

-- an interval's test, as bounds
pub has_from : (s : Span) (z : ℤ) → has s z ≡ true → Has s z
has_from s z h = record { from = le_from s.lo z (and_left (int_le s.lo z) (int_le z s.hi) h); to = le_from z s.hi (and_right (int_le s.lo z) (int_le z s.hi) h) }

pub has_of : (s : Span) (z : ℤ) → s.lo ≤ℤ z → z ≤ℤ s.hi → has s z ≡ true
has_of s z f t = rw (of_le s.lo z f, of_le z s.hi t) refl

pub rises_weaker : (x y : ℤ) (ss : List Span) → x ≤ℤ y → RisesPast y ss → RisesPast x ss
rises_weaker x y [] h r = tt
rises_weaker x y (s ∷ ss) h r = let p = r.0 in (omega (arith, ints), r.1, r.2)

-- each number of the ranges is above the one that they rise past
pub past_all : (y : ℤ) (ss : List Span) (z : ℤ) → RisesPast y ss → is_member ss z ≡ true → y <ℤ z
past_all y [] z r h = absurd (false≢true h)
past_all y (s ∷ ss) z r h =
    elim (or_cases (has s z) (is_member ss z) h) [
      | inl e ↦ first y s z r.0 (has_from s z e)
      | inr e ↦ rest y s z r.0 r.1 (past_all (s.hi +ℤ pos 1) ss z r.2 e)
    ]
  where
    first : (y : ℤ) (s : Span) (z : ℤ) → y <ℤ s.lo → Has s z → y <ℤ z
    first y s z p h = let f = h.from in omega (arith, ints)

    rest : (y : ℤ) (s : Span) (z : ℤ) → y <ℤ s.lo → IsInterval s → (s.hi +ℤ pos 1) <ℤ z → y <ℤ z
    rest y s z p i k = let o = i.ordered in omega (arith, ints)

-- both ends of a first range are numbers of the set
pub lo_member : (s : Span) (ss : List Span) → IsInterval s → is_member (s ∷ ss) s.lo ≡ true
lo_member s ss i = or_left (has s s.lo) (is_member ss s.lo) (has_of s s.lo (≤ℤ_refl s.lo) i.ordered)

pub hi_member : (s : Span) (ss : List Span) → IsInterval s → is_member (s ∷ ss) s.hi ≡ true
hi_member s ss i = or_left (has s s.hi) (is_member ss s.hi) (has_of s s.hi i.ordered (≤ℤ_refl s.hi))

pub rest_member : (s : Span) (ss : List Span) (z : ℤ) → is_member ss z ≡ true → is_member (s ∷ ss) z ≡ true
rest_member s ss z h = or_right (has s z) (is_member ss z) h

-- ranges that are all below n before ranges that are all above it
pub rises_append : (x y n : ℤ) (ss ts : List Span) → RisesPast x ss → RisesPast y ts → x ≤ℤ n → ((z : ℤ) → is_member ss z ≡ true → z <ℤ n) → ((z : ℤ) → is_member ts z ≡ true → n <ℤ z) → RisesPast x (ss ++ ts)
rises_append x y n [] [] r q l f g = tt
rises_append x y n [] (t ∷ ts) r q l f g = let k = g t.lo (lo_member t ts q.1) in (omega (arith, ints), q.1, q.2)
rises_append x y n (s ∷ ss) ts r q l f g =
    let k = f s.hi (hi_member s ss r.1) in
    (r.0, r.1, rises_append (s.hi +ℤ pos 1) y n ss ts r.2 q (omega (arith, ints)) (λ z h. f z (rest_member s ss z h)) g)

-- ---- one list for one set

-- the least number of a set comes first
least_first : (x : ℤ) (s : Span) (ss : List Span) (z : ℤ) → RisesPast x (s ∷ ss) → is_member (s ∷ ss) z ≡ true → s.lo ≤ℤ z
least_first x s ss z r h =
    let k = past_all (s.lo -ℤ pos 1) (s ∷ ss) z (omega (arith, ints), r.1, r.2) h in
    omega (arith, ints)

-- the number after a first range is of no range
gap : (x : ℤ) (s : Span) (ss : List Span) → RisesPast x (s ∷ ss) → is_member (s ∷ ss) (s.hi +ℤ pos 1) ≡ true → ⊥
gap x s ss r h =
    elim (or_cases (has s (s.hi +ℤ pos 1)) (is_member ss (s.hi +ℤ pos 1)) h) [
      | inl e ↦ over s (has_from s (s.hi +ℤ pos 1) e)
      | inr e ↦ twice (s.hi +ℤ pos 1) (past_all (s.hi +ℤ pos 1) ss (s.hi +ℤ pos 1) r.2 e)
    ]
  where
    over : (s : Span) → Has s (s.hi +ℤ pos 1) → ⊥
    over s h = let t = h.to in omega (arith, ints)

    twice : (z : ℤ) → z <ℤ z → ⊥
    twice z h = omega (arith, ints)

-- the first range does not end below that of a set with the same numbers
not_shorter : (x y : ℤ) (s t : Span) (ss ts : List Span) → RisesPast x (s ∷ ss) → RisesPast y (t ∷ ts) → SameMembers (s ∷ ss) (t ∷ ts) → s.lo ≡ t.lo → s.hi <ℤ t.hi → ⊥
not_shorter x y s t ss ts r q h e l =
    let o = r.1.ordered in
    let in_t : has t (s.hi +ℤ pos 1) ≡ true = has_of t (s.hi +ℤ pos 1) (omega (arith, ints)) (omega (arith, ints)) in
    gap x s ss r (h (s.hi +ℤ pos 1) ∙ or_left (has t (s.hi +ℤ pos 1)) (is_member ts (s.hi +ℤ pos 1)) in_t)

flip : (ss ts : List Span) → SameMembers ss ts → SameMembers ts ss
flip ss ts h z = sym (h z)

-- the ends of the first ranges of sets with the same numbers
same_lo : (x y : ℤ) (s t : Span) (ss ts : List Span) → RisesPast x (s ∷ ss) → RisesPast y (t ∷ ts) → SameMembers (s ∷ ss) (t ∷ ts) → s.lo ≡ t.lo
same_lo x y s t ss ts r q h =
    let a = least_first x s ss t.lo r (h t.lo ∙ lo_member t ts q.1) in
    let b = least_first y t ts s.lo q (sym (h s.lo) ∙ lo_member s ss r.1) in
    omega (arith, ints)

same_hi : (x y : ℤ) (s t : Span) (ss ts : List Span) → RisesPast x (s ∷ ss) → RisesPast y (t ∷ ts) → SameMembers (s ∷ ss) (t ∷ ts) → s.lo ≡ t.lo → s.hi ≡ t.hi
same_hi x y s t ss ts r q h e =
    by_lt_z s.hi t.hi (λ l. absurd (not_shorter x y s t ss ts r q h e l))
    (λ l. by_lt_z t.hi s.hi (λ k. absurd (not_shorter y x t s ts ss q r (flip (s ∷ ss) (t ∷ ts) h) (sym e) k)) (λ k. omega (arith, ints)))

-- a number of the rest lies above the first range, so it is no number of that
rest_only : (x : ℤ) (s : Span) (ss : List Span) (z : ℤ) → RisesPast x (s ∷ ss) → is_member ss z ≡ true → has s z ≡ true → ⊥
rest_only x s ss z r h e =
    let k = past_all (s.hi +ℤ pos 1) ss z r.2 h in
    let t = (has_from s z e).to in
    omega (arith, ints)

same_rest : (x y : ℤ) (s : Span) (ss ts : List Span) → RisesPast x (s ∷ ss) → RisesPast y (s ∷ ts) → SameMembers (s ∷ ss) (s ∷ ts) → SameMembers ss ts
same_rest x y s ss ts r q h z = same_tests (is_member ss z) (is_member ts z) (λ e. other x ss ts r (h z) e) (λ e. other y ts ss q (sym (h z)) e)
  where
    other : (x : ℤ) (ss ts : List Span) → RisesPast x (s ∷ ss) → is_member (s ∷ ss) z ≡ is_member (s ∷ ts) z → is_member ss z ≡ true → is_member ts z ≡ true
    other x ss ts r h e =
        elim (or_cases (has s z) (is_member ts z) (sym h ∙ rest_member s ss z e)) [
          | inl k ↦ absurd (rest_only x s ss z r e k)
          | inr k ↦ k
        ]

abbrev unwrap : Span → Option Span → Span
unwrap d None = d
unwrap d (Some s) = s

same_value : (s t : Span) → Some s ≡ Some t → s ≡ t
same_value s t e = ap (unwrap s) e

abbrev span : ℤ → ℤ → Span
span l h = record { lo = l; hi = h }

pub same_span : (s t : Span) → s.lo ≡ t.lo → s.hi ≡ t.hi → s ≡ t
same_span s t e f = ap (λ l. span l s.hi) e ∙ ap (λ h. span t.lo h) f

pub one_list : (x y : ℤ) (ss ts : List Span) → RisesPast x ss → RisesPast y ts → SameMembers ss ts → ss ≡ ts
one_list x y [] [] r q h = refl
one_list x y [] (t ∷ ts) r q h = absurd (false≢true (h t.lo ∙ lo_member t ts q.1))
one_list x y (s ∷ ss) [] r q h = absurd (false≢true (sym (h s.lo) ∙ lo_member s ss r.1))
one_list x y (s ∷ ss) (t ∷ ts) r q h =
    let e = same_lo x y s t ss ts r q h in
    let f : s ≡ t = same_span s t e (same_hi x y s t ss ts r q h e) in
    let q' : RisesPast y (s ∷ ts) = rw f q in
    let h' : SameMembers (s ∷ ss) (s ∷ ts) = λ z. h z ∙ ap (λ v. is_member (v ∷ ts) z) (sym f) in
    let k : ss ≡ ts = one_list (s.hi +ℤ pos 1) (s.hi +ℤ pos 1) ss ts r.2 q'.2 (same_rest x y s ss ts r q' h') in
    rw (← f, ← k) refl

-- ---- size and ends

pub size_bound : (x : ℤ) (ss : List Span) → RisesPast x ss → x ≤ℤ pos (2 ^ 50 + 1) → pos (size_of ss) ≤ℤ (pos (2 ^ 50 + 1) -ℤ x)
size_bound x [] r l = omega (arith, ints)
size_bound x (s ∷ ss) r l =
    let h = r.1.high in
    rw sum_by-cons (both (span_size s) (size_of ss) (omega (arith, ints)) (size_bound (s.hi +ℤ pos 1) ss r.2 (omega (arith, ints))))
  where
    both : (a b : ℕ) → pos a ≡ (s.hi -ℤ s.lo) +ℤ pos 1 → pos b ≤ℤ (pos (2 ^ 50 + 1) -ℤ (s.hi +ℤ pos 1)) → pos (a + b) ≤ℤ (pos (2 ^ 50 + 1) -ℤ x)
    both a b e k = let p = r.0 in omega (arith, ints)

pub is_lowest : (x : ℤ) (s : Span) (ss : List Span) → RisesPast x (s ∷ ss) → IsLowest (s ∷ ss) s.lo
is_lowest x s ss r = record { member = lo_member s ss r.1; least = λ z h. least_first x s ss z r h }

pub lo_lowest : (x : ℤ) (ss : List Span) → RisesPast x ss → IfSome (option_map (λ s. s.lo) (slice_get ss 0)) (IsLowest ss)
lo_lowest x [] r = tt
lo_lowest x (s ∷ ss) r = is_lowest x s ss r

pub is_highest : (x : ℤ) (ss : List Span) (i : ℕ) (s : Span) → RisesPast x ss → suc i ≡ length ss → slice_get ss i ≡ Some s → IsHighest ss s.hi
is_highest x [] i s r l e = absurd (omega arith)
is_highest x (t ∷ []) zero s r l e = rw (← same_value t s e) (record { member = hi_member t [] r.1; greatest = λ z h. only z h })
  where
    only : (z : ℤ) → is_member (t ∷ []) z ≡ true → z ≤ℤ t.hi
    only z h = elim (or_cases (has t z) false h) [ inl k ↦ (has_from t z k).to | inr k ↦ absurd (false≢true k) ]
is_highest x (t ∷ u ∷ us) zero s r l e = absurd (omega arith)
is_highest x (t ∷ ts) (suc i) s r l e =
    let k = is_highest (t.hi +ℤ pos 1) ts i s r.2 (omega arith) e in
    record { member = rest_member t ts s.hi k.member; greatest = λ z h. up z k h }
  where
    up : (z : ℤ) → IsHighest ts s.hi → is_member (t ∷ ts) z ≡ true → z ≤ℤ s.hi
    up z k h =
        elim (or_cases (has t z) (is_member ts z) h) [
          | inl a ↦ below z k (has_from t z a).to (past_all (t.hi +ℤ pos 1) ts s.hi r.2 k.member)
          | inr a ↦ k.greatest z a
        ]
      where
        below : (z : ℤ) → IsHighest ts s.hi → z ≤ℤ t.hi → (t.hi +ℤ pos 1) <ℤ s.hi → z ≤ℤ s.hi
        below z k a b = omega (arith, ints)

pub hi_highest : (x : ℤ) (ss : List Span) → RisesPast x ss → IfSome (option_map (λ s. s.hi) (slice_get ss (length ss - 1))) (IsHighest ss)
hi_highest x [] r = tt
hi_highest x (s ∷ ss) r = by_case (slice_get (s ∷ ss) (length (s ∷ ss) - 1)) refl
  where
    by_case : (o : Option Span) → slice_get (s ∷ ss) (length (s ∷ ss) - 1) ≡ o → IfSome (option_map (λ s. s.hi) o) (IsHighest (s ∷ ss))
    by_case None e = tt
    by_case (Some t) e = is_highest x (s ∷ ss) (length (s ∷ ss) - 1) t r (omega arith) e
