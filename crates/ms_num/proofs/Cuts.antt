-- What the cuts of a set keep, and the place of a number among the ranges.
use Rattle.std.proofs.Common.{◌≡◌, ℕ, zero, suc, ◌<◌, ◌≤◌, Bool, true, false, cond, ◌&&◌, ◌||◌, refl, sym, ap, ◌∙◌, arith, Option, Some, None, List, [], ◌∷◌, length, get_or, subst, T}
use Rattle.std.proofs.lemmas.Bool.{false≢true, false_from_ne_true, or_from}
use Rattle.std.specs.Prelude.{ℤ, pos, ◌+ℤ◌, ◌<ℤ◌, ◌≤ℤ◌, int_le, int_lt}
use Rattle.std.specs.List.{filter_map, cons_option}
use Rattle.std.specs.Int.{int_min, int_max}
use Rattle.std.proofs.lemmas.Int.{ints, clamps, by_lt_z}
use Rattle.ms_num.specs.Span.{Span, IsInterval, has}
use Rattle.ms_num.specs.Ranges.{is_member, RisesPast, span_at_most, span_at_least}
use Rattle.ms_num.proofs.SharedSpans.{le_from, of_le, and_left, and_right}
use Rattle.ms_num.proofs.SharedMembers.{same_tests, has_from, has_of, rises_weaker, past_all}

-- the test of an interval that may be missing
abbrev has_some : Option Span → ℤ → Bool
has_some None z = false
has_some (Some s) z = has s z

-- the function keeps of each interval the numbers that pass
abbrev Keeps : (ℤ → Bool) → (Span → Option Span) → Type 0
Keeps keep h = (s : Span) (z : ℤ) → has_some (h s) z ≡ (has s z && keep z)

members_cons : (o : Option Span) (ss : List Span) (z : ℤ) → is_member (cons_option o ss) z ≡ (has_some o z || is_member ss z)
members_cons None ss z = refl
members_cons (Some s) ss z = refl

both_kept : (a b k : Bool) → ((a && k) || (b && k)) ≡ ((a || b) && k)
both_kept true true true = refl
both_kept true true false = refl
both_kept true false true = refl
both_kept true false false = refl
both_kept false true true = refl
both_kept false true false = refl
both_kept false false true = refl
both_kept false false false = refl

pub members_kept : (keep : ℤ → Bool) (h : Span → Option Span) → Keeps keep h → (ss : List Span) (z : ℤ) → is_member (filter_map h ss) z ≡ (is_member ss z && keep z)
members_kept keep h k [] z = refl
members_kept keep h k (s ∷ ss) z =
    members_cons (h s) (filter_map h ss) z ∙ (rw (k s z, members_kept keep h k ss z) (both_kept (has s z) (is_member ss z) (keep z)))

-- each interval is kept within itself
abbrev Shrinks : (Span → Option Span) → Type 0
Shrinks h = (s t : Span) → IsInterval s → h s ≡ Some t → (s.lo ≤ℤ t.lo) × (t.lo ≤ℤ t.hi) × (t.hi ≤ℤ s.hi)

pub rises_kept : (h : Span → Option Span) → Shrinks h → (x : ℤ) (ss : List Span) → RisesPast x ss → RisesPast x (filter_map h ss)
rises_kept h k x [] r = tt
rises_kept h k x (s ∷ ss) r = by_case (h s) refl (rises_kept h k (s.hi +ℤ pos 1) ss r.2)
  where
    by_case : (o : Option Span) → h s ≡ o → RisesPast (s.hi +ℤ pos 1) (filter_map h ss) → RisesPast x (cons_option o (filter_map h ss))
    by_case None e q = let p = r.0 in let o = r.1.ordered in rises_weaker x (s.hi +ℤ pos 1) (filter_map h ss) (omega (arith, ints)) q
    by_case (Some t) e q =
        let i = k s t r.1 e in
        let a = i.0 in let b = i.1 in let c = i.2 in
        let p = r.0 in let l = r.1.low in let u = r.1.high in
        (omega (arith, ints), record { ordered = b; low = omega (arith, ints); high = omega (arith, ints) }, rises_weaker (t.hi +ℤ pos 1) (s.hi +ℤ pos 1) (filter_map h ss) (omega (arith, ints)) q)

pub gt_from : (a b : ℤ) → int_le a b ≡ false → b <ℤ a
gt_from a b h = by_lt_z b a (λ l. l) (λ l. absurd (false≢true (sym h ∙ of_le a b l)))

within_both : (s : Span) (z : ℤ) (b : Bool) → has s z ≡ true → b ≡ true → (has s z && b) ≡ true
within_both s z b h e = rw (h, e) refl

cut_above : (s : Span) (n z : ℤ) → has (record { lo = s.lo; hi = int_min s.hi n }) z ≡ (has s z && int_le z n)
cut_above s n z = same_tests _ _ keep kept
  where
    t : Span
    t = record { lo = s.lo; hi = int_min s.hi n }

    keep : has (record { lo = s.lo; hi = int_min s.hi n }) z ≡ true → (has s z && int_le z n) ≡ true
    keep h =
        let k = has_from (record { lo = s.lo; hi = int_min s.hi n }) z h in
        let a = k.from in let b = k.to in
        within_both s z (int_le z n) (has_of s z a (omega (arith, ints, clamps))) (of_le z n (omega (arith, ints, clamps)))

    kept : (has s z && int_le z n) ≡ true → has (record { lo = s.lo; hi = int_min s.hi n }) z ≡ true
    kept h =
        let k = has_from s z (and_left (has s z) (int_le z n) h) in
        let l = le_from z n (and_right (has s z) (int_le z n) h) in
        let a = k.from in let b = k.to in
        has_of (record { lo = s.lo; hi = int_min s.hi n }) z a (omega (arith, ints, clamps))

cut_below : (s : Span) (n z : ℤ) → has (record { lo = int_max s.lo n; hi = s.hi }) z ≡ (has s z && int_le n z)
cut_below s n z = same_tests _ _ keep kept
  where
    keep : has (record { lo = int_max s.lo n; hi = s.hi }) z ≡ true → (has s z && int_le n z) ≡ true
    keep h =
        let k = has_from (record { lo = int_max s.lo n; hi = s.hi }) z h in
        let a = k.from in let b = k.to in
        within_both s z (int_le n z) (has_of s z (omega (arith, ints, clamps)) b) (of_le n z (omega (arith, ints, clamps)))

    kept : (has s z && int_le n z) ≡ true → has (record { lo = int_max s.lo n; hi = s.hi }) z ≡ true
    kept h =
        let k = has_from s z (and_left (has s z) (int_le n z) h) in
        let l = le_from n z (and_right (has s z) (int_le n z) h) in
        let a = k.from in let b = k.to in
        has_of (record { lo = int_max s.lo n; hi = s.hi }) z (omega (arith, ints, clamps)) b

-- nothing is kept of an interval above n, nor of one below it
none_above : (s : Span) (n z : ℤ) → n <ℤ s.lo → (has s z && int_le z n) ≡ false
none_above s n z l = false_from_ne_true (has s z && int_le z n) no
  where
    no : (has s z && int_le z n) ≡ true → ⊥
    no h =
        let a = (has_from s z (and_left (has s z) (int_le z n) h)).from in
        let b = le_from z n (and_right (has s z) (int_le z n) h) in
        omega (arith, ints)

none_below : (s : Span) (n z : ℤ) → s.hi <ℤ n → (has s z && int_le n z) ≡ false
none_below s n z l = false_from_ne_true (has s z && int_le n z) no
  where
    no : (has s z && int_le n z) ≡ true → ⊥
    no h =
        let a = (has_from s z (and_left (has s z) (int_le n z) h)).to in
        let b = le_from n z (and_right (has s z) (int_le n z) h) in
        omega (arith, ints)

pub keeps_at_most : (n : ℤ) → Keeps (λ z. int_le z n) (span_at_most n)
keeps_at_most n s z = by_case (int_le s.lo n) refl
  where
    by_case : (b : Bool) → int_le s.lo n ≡ b → has_some (cond b (Some (record { lo = s.lo; hi = int_min s.hi n })) None) z ≡ (has s z && int_le z n)
    by_case true e = cut_above s n z
    by_case false e = sym (none_above s n z (gt_from s.lo n e))

pub keeps_at_least : (n : ℤ) → Keeps (λ z. int_le n z) (span_at_least n)
keeps_at_least n s z = by_case (int_le n s.hi) refl
  where
    by_case : (b : Bool) → int_le n s.hi ≡ b → has_some (cond b (Some (record { lo = int_max s.lo n; hi = s.hi })) None) z ≡ (has s z && int_le n z)
    by_case true e = cut_below s n z
    by_case false e = sym (none_below s n z (gt_from n s.hi e))

abbrev unwrap : Span → Option Span → Span
unwrap d None = d
unwrap d (Some s) = s

pub shrinks_at_most : (n : ℤ) → Shrinks (span_at_most n)
shrinks_at_most n s t i e = by_case (int_le s.lo n) refl e
  where
    by_case : (b : Bool) → int_le s.lo n ≡ b → cond b (Some (record { lo = s.lo; hi = int_min s.hi n })) None ≡ Some t → (s.lo ≤ℤ t.lo) × (t.lo ≤ℤ t.hi) × (t.hi ≤ℤ s.hi)
    by_case true e k =
        let l = le_from s.lo n e in let o = i.ordered in
        let a : s.lo ≡ t.lo = ap (λ v. (unwrap s v).lo) k in
        let b : int_min s.hi n ≡ t.hi = ap (λ v. (unwrap s v).hi) k in
        (omega (arith, ints), omega (arith, ints, clamps), omega (arith, ints, clamps))
    by_case false e k = absurd (no k)
      where
        no : None ≡ Some t → ⊥
        no k = cc

pub shrinks_at_least : (n : ℤ) → Shrinks (span_at_least n)
shrinks_at_least n s t i e = by_case (int_le n s.hi) refl e
  where
    by_case : (b : Bool) → int_le n s.hi ≡ b → cond b (Some (record { lo = int_max s.lo n; hi = s.hi })) None ≡ Some t → (s.lo ≤ℤ t.lo) × (t.lo ≤ℤ t.hi) × (t.hi ≤ℤ s.hi)
    by_case true e k =
        let l = le_from n s.hi e in let o = i.ordered in
        let a : int_max s.lo n ≡ t.lo = ap (λ v. (unwrap s v).lo) k in
        let b : s.hi ≡ t.hi = ap (λ v. (unwrap s v).hi) k in
        (omega (arith, ints, clamps), omega (arith, ints, clamps), omega (arith, ints))
    by_case false e k = absurd (no k)
      where
        no : None ≡ Some t → ⊥
        no k = cc

-- ---- the place of a number

pub lt_from : (a b : ℤ) → int_lt a b ≡ true → a <ℤ b
lt_from a b h = record { lt = subst T (sym h) tt }

pub lt_of : (a b : ℤ) → a <ℤ b → int_lt a b ≡ true
lt_of a b h = is_true (int_lt a b) h.lt
  where
    is_true : (b : Bool) → T b → b ≡ true
    is_true true t = refl
    is_true false t = absurd t

pub ge_from : (a b : ℤ) → int_lt a b ≡ false → b ≤ℤ a
ge_from a b h = by_lt_z a b (λ l. absurd (false≢true (sym h ∙ lt_of a b l))) (λ l. l)

-- each range ends above the number that they rise past
later : (x : ℤ) (ss : List Span) (j : ℕ) (d : Span) → RisesPast x ss → j < length ss → x <ℤ (get_or ss j d).hi
later x [] j d r l = absurd (omega arith)
later x (s ∷ ss) zero d r l = let p = r.0 in let o = r.1.ordered in omega (arith, ints)
later x (s ∷ ss) (suc j) d r l =
    let k = later (s.hi +ℤ pos 1) ss j d r.2 (omega arith) in
    let p = r.0 in let o = r.1.ordered in
    omega (arith, ints)

pub ends_below : (x n : ℤ) (ss : List Span) → RisesPast x ss → (i j : ℕ) (d : Span) → i ≤ j → j < length ss → int_lt (get_or ss j d).hi n ≡ true → int_lt (get_or ss i d).hi n ≡ true
ends_below x n [] r i j d l m h = absurd (omega arith)
ends_below x n (s ∷ ss) r zero zero d l m h = h
ends_below x n (s ∷ ss) r zero (suc j) d l m h =
    let k = later (s.hi +ℤ pos 1) ss j d r.2 (omega arith) in
    let b = lt_from (get_or ss j d).hi n h in
    lt_of s.hi n (omega (arith, ints))
ends_below x n (s ∷ ss) r (suc i) zero d l m h = absurd (omega arith)
ends_below x n (s ∷ ss) r (suc i) (suc j) d l m h = ends_below (s.hi +ℤ pos 1) n ss r.2 i j d (omega arith) (omega arith) h

-- a number above a range is none of it
above : (s : Span) (n : ℤ) → s.hi <ℤ n → has s n ≡ false
above s n l = false_from_ne_true (has s n) (λ h. no (has_from s n h).to)
  where
    no : n ≤ℤ s.hi → ⊥
    no t = omega (arith, ints)

none_before : (x n : ℤ) (ss : List Span) → RisesPast x ss → n ≤ℤ x → is_member ss n ≡ false
none_before x n ss r l = false_from_ne_true (is_member ss n) (λ h. no (past_all x ss n r h))
  where
    no : x <ℤ n → ⊥
    no t = omega (arith, ints)

-- where all ranges end below the number
pub member_past : (n : ℤ) (ss : List Span) → ((k : ℕ) (d : Span) → k < length ss → int_lt (get_or ss k d).hi n ≡ true) → is_member ss n ≡ false
member_past n [] h = refl
member_past n (s ∷ ss) h =
    or_from (has s n) (is_member ss n) (above s n (lt_from s.hi n (h 0 s (omega arith)))) (member_past n ss (λ k d l. h (suc k) d (omega arith)))

-- where the range at i is the first that does not
pub member_at : (x n : ℤ) (ss : List Span) → RisesPast x ss → (i : ℕ) (d : Span) → i < length ss → ((k : ℕ) (d : Span) → k < i → int_lt (get_or ss k d).hi n ≡ true) → int_lt (get_or ss i d).hi n ≡ false → is_member ss n ≡ int_le (get_or ss i d).lo n
member_at x n [] r i d l b e = absurd (omega arith)
member_at x n (s ∷ ss) r zero d l b e =
    let t = ge_from s.hi n e in
    rw (of_le n s.hi t, none_before (s.hi +ℤ pos 1) n ss r.2 (omega (arith, ints))) (both (int_le s.lo n))
  where
    both : (a : Bool) → ((a && true) || false) ≡ a
    both true = refl
    both false = refl
member_at x n (s ∷ ss) r (suc i) d l b e =
    rw (above s n (lt_from s.hi n (b 0 s (omega arith)))) (member_at (s.hi +ℤ pos 1) n ss r.2 i d (omega arith) (λ k d l. b (suc k) d (omega arith)) e)
