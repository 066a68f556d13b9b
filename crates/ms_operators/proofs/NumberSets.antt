-- The set of a list of numbers, however it is made.
use Rattle.std.proofs.Common.{◌≡◌, ◌∙◌, ◌^◌, Bool, true, false, cond, ◌&&◌, ◌||◌, inl, inr, refl, sym, ap, arith, List, [], ◌∷◌, Option, Some, None}
use Rattle.std.proofs.lemmas.Bool.{false≢true, or_cases, or_left, or_right}
use Rattle.std.specs.Prelude.{ℤ, pos, negsuc, ◌+ℤ◌, ◌<ℤ◌, ◌≤ℤ◌, int_le, int_lt, option_map}
use Rattle.std.specs.Int.{int_min, int_max}
use Rattle.std.specs.List.{list_all, list_any}
use Rattle.std.proofs.lemmas.Int.{ints, clamps, by_lt_z}
use Rattle.ms_num.specs.Numbers.{int_eq}
use Rattle.ms_num.specs.Span.{Span, IsInterval, has, point, is_within}
use Rattle.ms_num.specs.Ranges.{is_member, RisesPast, IsRanges}
use Rattle.ms_num.proofs.SharedSpans.{le_from, of_le, and_left, and_right, within_low, within_high}
use Rattle.ms_num.proofs.SharedMembers.{same_tests, has_from, has_of, one_list, rises_weaker}
use Rattle.ms_num.proofs.Cuts.{lt_from, ge_from}
use Rattle.ms_rules.specs.Sets.{with_range, with_number, ranges_of}
use Rattle.ms_operators.specs.Known.{known_of}

abbrev span : ℤ → ℤ → Span
span l h = record { lo = l; hi = h }

-- ---- by cases on the tests of the definitions

le_by : (P : List Span → Type 0) (x y : ℤ) (a b : List Span) → (x ≤ℤ y → P a) → (y <ℤ x → P b) → P (cond (int_le x y) a b)
le_by P x y a b f g = at (int_le x y) refl
  where
    at : (d : Bool) → int_le x y ≡ d → P (cond d a b)
    at true e = f (le_from x y e)
    at false e = g (by_lt_z y x (λ l. l) (λ l. absurd (false≢true (sym e ∙ of_le x y l))))

lt_by : (P : List Span → Type 0) (x y : ℤ) (a b : List Span) → (x <ℤ y → P a) → (y ≤ℤ x → P b) → P (cond (int_lt x y) a b)
lt_by P x y a b f g = at (int_lt x y) refl
  where
    at : (d : Bool) → int_lt x y ≡ d → P (cond d a b)
    at true e = f (lt_from x y e)
    at false e = g (ge_from x y e)

range_cases : (P : List Span → Type 0) (s t : Span) (ts : List Span) → (t.lo ≤ℤ (s.hi +ℤ pos 1) → P (span s.lo (int_max s.hi t.hi) ∷ ts)) → ((s.hi +ℤ pos 1) <ℤ t.lo → P (s ∷ t ∷ ts)) → P (with_range s (t ∷ ts))
range_cases P s t ts f g = le_by P t.lo (s.hi +ℤ pos 1) (span s.lo (int_max s.hi t.hi) ∷ ts) (s ∷ t ∷ ts) f g

abbrev widened : ℤ → Span → Span
widened z s = span (int_min s.lo z) (int_max s.hi z)

number_cases : (P : List Span → Type 0) (z : ℤ) (s : Span) (ss : List Span) → ((z +ℤ pos 1) <ℤ s.lo → P (point z ∷ s ∷ ss)) → (s.lo ≤ℤ (z +ℤ pos 1) → z ≤ℤ (s.hi +ℤ pos 1) → P (with_range (widened z s) ss)) → ((s.hi +ℤ pos 1) <ℤ z → P (s ∷ with_number z ss)) → P (with_number z (s ∷ ss))
number_cases P z s ss f g h =
    lt_by P (z +ℤ pos 1) s.lo (point z ∷ s ∷ ss) (cond (int_le z (s.hi +ℤ pos 1)) (with_range (widened z s) ss) (s ∷ with_number z ss)) f
    (λ l. le_by P z (s.hi +ℤ pos 1) (with_range (widened z s) ss) (s ∷ with_number z ss) (g l) h)

-- ---- order

range_rises : (x h : ℤ) (s : Span) (ts : List Span) → x <ℤ s.lo → IsInterval s → s.hi ≤ℤ (h +ℤ pos 1) → RisesPast (h +ℤ pos 1) ts → RisesPast x (with_range s ts)
range_rises x h s [] p i k r = (p, i, tt)
range_rises x h s (t ∷ ts) p i k r =
    let o = i.ordered in let il = i.low in
    let to = r.1.ordered in let th = r.1.high in let t0 = r.0 in
    range_cases (RisesPast x) s t ts
    (λ l. (p, record { ordered = omega (arith, ints, clamps, o, to, t0, k); low = il; high = omega (arith, ints, clamps, th, to, t0, k) }, rises_weaker (int_max s.hi t.hi +ℤ pos 1) (t.hi +ℤ pos 1) ts (omega (arith, ints, clamps, to, t0, k)) r.2))
    (λ l. (p, i, (l, r.1, r.2)))

point_interval : (z : ℤ) → is_within z ≡ true → IsInterval (point z)
point_interval z w = record { ordered = omega (arith, ints); low = within_low z w; high = within_high z w }

widened_interval : (z : ℤ) (s : Span) → is_within z ≡ true → IsInterval s → IsInterval (widened z s)
widened_interval z s w i =
    let o = i.ordered in let l = i.low in let h = i.high in let a = within_low z w in let b = within_high z w in
    record { ordered = omega (arith, ints, clamps, o); low = omega (arith, ints, clamps, l, a); high = omega (arith, ints, clamps, h, b) }

number_rises : (x z : ℤ) (ss : List Span) → x <ℤ z → is_within z ≡ true → RisesPast x ss → RisesPast x (with_number z ss)
number_rises x z [] p w r = (p, point_interval z w, tt)
number_rises x z (s ∷ ss) p w r =
    let o = r.1.ordered in let q = r.0 in
    number_cases (RisesPast x) z s ss
    (λ l. (p, point_interval z w, (l, r.1, r.2)))
    (λ l k. range_rises x s.hi (widened z s) ss (omega (arith, ints, clamps, p, q)) (widened_interval z s w r.1) (omega (arith, ints, clamps, k)) r.2)
    (λ l. (r.0, r.1, number_rises (s.hi +ℤ pos 1) z ss l w r.2))

-- ---- members

-- what lies in the least interval around two that meet or touch lies in one of them
around : (s t u : Span) (z : ℤ) → u.lo ≡ int_min s.lo t.lo → u.hi ≡ int_max s.hi t.hi → s.lo ≤ℤ (t.hi +ℤ pos 1) → t.lo ≤ℤ (s.hi +ℤ pos 1) → has u z ≡ (has s z || has t z)
around s t u z el eh p q = same_tests (has u z) (has s z || has t z) more less
  where
    in_s : z ≤ℤ s.hi → s.lo ≤ℤ z → (has s z || has t z) ≡ true
    in_s a b = or_left (has s z) (has t z) (has_of s z b a)

    in_t : z ≤ℤ t.hi → t.lo ≤ℤ z → (has s z || has t z) ≡ true
    in_t a b = or_right (has s z) (has t z) (has_of t z b a)

    more : has u z ≡ true → (has s z || has t z) ≡ true
    more e =
        let f = (has_from u z e).from in
        let g = (has_from u z e).to in
        by_lt_z z s.lo
        (λ l. in_t (omega (arith, ints, clamps, eh, g, l, p)) (omega (arith, ints, clamps, el, f, l)))
        (λ l. by_lt_z s.hi z (λ k. in_t (omega (arith, ints, clamps, eh, g, k)) (omega (arith, ints, clamps, k, q))) (λ k. in_s k l))

    less : (has s z || has t z) ≡ true → has u z ≡ true
    less e =
        elim (or_cases (has s z) (has t z) e) [
          | inl k ↦ let f = (has_from s z k).from in let g = (has_from s z k).to in has_of u z (omega (arith, ints, clamps, el, f)) (omega (arith, ints, clamps, eh, g))
          | inr k ↦ let f = (has_from t z k).from in let g = (has_from t z k).to in has_of u z (omega (arith, ints, clamps, el, f)) (omega (arith, ints, clamps, eh, g))
        ]

-- || in another order
grouped : (a b c d : Bool) → a ≡ (b || c) → (a || d) ≡ (b || (c || d))
grouped a true c d e = rw e refl
grouped a false c d e = rw e refl

turned : (a b c d : Bool) → a ≡ (c || b) → (a || d) ≡ (b || (c || d))
turned a true true d e = rw e refl
turned a true false d e = rw e refl
turned a false true d e = rw e refl
turned a false false d e = rw e refl

swapped : (a b c d : Bool) → c ≡ (b || d) → (a || c) ≡ (b || (a || d))
swapped true true c d e = refl
swapped true false c d e = refl
swapped false true c d e = e
swapped false false c d e = e

range_member : (h : ℤ) (s : Span) (ts : List Span) (z : ℤ) → s.lo ≤ℤ h → s.lo ≤ℤ s.hi → s.hi ≤ℤ (h +ℤ pos 1) → RisesPast (h +ℤ pos 1) ts → is_member (with_range s ts) z ≡ (has s z || is_member ts z)
range_member h s [] z p o k r = refl
range_member h s (t ∷ ts) z p o k r =
    let to = r.1.ordered in let t0 = r.0 in
    range_cases (λ us. is_member us z ≡ (has s z || (has t z || is_member ts z))) s t ts
    (λ l. grouped (has (span s.lo (int_max s.hi t.hi)) z) (has s z) (has t z) (is_member ts z) (around s t (span s.lo (int_max s.hi t.hi)) z (omega (arith, ints, clamps, p, t0)) refl (omega (arith, ints, p, to, t0)) l))
    (λ l. refl)

number_member : (x z : ℤ) (ss : List Span) (y : ℤ) → RisesPast x ss → is_member (with_number z ss) y ≡ (has (point z) y || is_member ss y)
number_member x z [] y r = refl
number_member x z (s ∷ ss) y r =
    let o = r.1.ordered in
    number_cases (λ us. is_member us y ≡ (has (point z) y || (has s y || is_member ss y))) z s ss
    (λ l. refl)
    (λ l k. range_member s.hi (widened z s) ss y (omega (arith, ints, clamps, o)) (omega (arith, ints, clamps, o)) (omega (arith, ints, clamps, k)) r.2 ∙ turned (has (widened z s) y) (has (point z) y) (has s y) (is_member ss y) (around s (point z) (widened z s) y refl refl l k))
    (λ l. swapped (has s y) (has (point z) y) (is_member (with_number z ss) y) (is_member ss y) (number_member (s.hi +ℤ pos 1) z ss y r.2))

-- ---- of a whole list

abbrev set_of : List ℤ → List Span
set_of [] = []
set_of (z ∷ zs) = with_number z (set_of zs)

by_known : (ns : List (Option ℤ)) → ranges_of ns ≡ option_map set_of (known_of ns)
by_known [] = refl
by_known (None ∷ ns) = refl
by_known (Some z ∷ ns) = ap (option_map (with_number z)) (by_known ns) ∙ after (known_of ns)
  where
    after : (o : Option (List ℤ)) → option_map (with_number z) (option_map set_of o) ≡ option_map set_of (option_map (λ zs. z ∷ zs) o)
    after None = refl
    after (Some zs) = refl

set_rises : (zs : List ℤ) → list_all is_within zs ≡ true → IsRanges (set_of zs)
set_rises [] w = tt
set_rises (z ∷ zs) w =
    let here = and_left (is_within z) (list_all is_within zs) w in
    let l = within_low z here in
    number_rises (negsuc (2 ^ 50)) z (set_of zs) (omega (arith, ints, l)) here (set_rises zs (and_right (is_within z) (list_all is_within zs) w))

set_member : (zs : List ℤ) (y : ℤ) → list_all is_within zs ≡ true → is_member (set_of zs) y ≡ list_any (int_eq y) zs
set_member [] y w = refl
set_member (z ∷ zs) y w =
    let rest = and_right (is_within z) (list_all is_within zs) w in
    number_member (negsuc (2 ^ 50)) z (set_of zs) y (set_rises zs rest) ∙ joined (int_le z y) (int_le y z) (is_member (set_of zs) y) (list_any (int_eq y) zs) (set_member zs y rest)
  where
    joined : (a b c d : Bool) → c ≡ d → (a && b || c) ≡ (b && a || d)
    joined true true c d e = refl
    joined true false c d e = e
    joined false true c d e = e
    joined false false c d e = e

-- ranges with the numbers of the list are its set
pub same_set : (ns : List (Option ℤ)) (zs ls : List ℤ) (rs : List Span) → Some zs ≡ known_of ns → list_all is_within zs ≡ true → ls ≡ zs → IsRanges rs → ((y : ℤ) → is_member rs y ≡ list_any (int_eq y) ls) → Some rs ≡ ranges_of ns
same_set ns zs ls rs k w e r m =
    let one : rs ≡ set_of zs = one_list (negsuc (2 ^ 50)) (negsuc (2 ^ 50)) rs (set_of zs) r (set_rises zs w) (λ y. m y ∙ ap (list_any (int_eq y)) e ∙ sym (set_member zs y w)) in
    rw (by_known ns, ← k) (ap (λ us. Some us) one)

pub no_set : (ns : List (Option ℤ)) → None ≡ known_of ns → None ≡ ranges_of ns
no_set ns k = rw (by_known ns, ← k) refl
