-- A list of ranges as a set, with its ends.
use Rattle.std.proofs.Common.{◌≡◌, ◌⊎◌, inl, inr, ◌^◌, ◌-◌, suc, refl, ap, ◌∙◌, arith, true, false, Bool, ◌||◌, List, [], ◌∷◌, w64, to_z, of_z}
use Rattle.std.specs.Prelude.{ℤ, pos, negsuc, ◌+ℤ◌, ◌≤ℤ◌, ◌<ℤ◌, ◌≢◌, int_le, length, slice_index_or}
use Rattle.std.proofs.lemmas.Int.{ints}
use Rattle.ms_num.specs.Span.{Span, IsInterval, has}
use Rattle.ms_num.specs.Ranges.{RisesPast, IsRanges, is_member}
use Rattle.ms_num.specs.Sets.{IsSet, set_of, lo_of, hi_of}
use Rattle.ms_num.proofs.SharedSpans.{le_from, read_51}
use Rattle.ms_num.proofs.SharedMembers.{lo_member, hi_member, rest_member, past_all, is_lowest, has_from}

hi_member_of : (x : ℤ) (s : Span) (ss : List Span) → RisesPast x (s ∷ ss) → is_member (s ∷ ss) (hi_of (s ∷ ss)) ≡ true
hi_member_of x s [] r = hi_member s [] r.1
hi_member_of x s (t ∷ ss) r = rest_member s (t ∷ ss) (hi_of (t ∷ ss)) (hi_member_of (s.hi +ℤ pos 1) t ss r.2)

either_of : (a b : Bool) → (a || b) ≡ true → (a ≡ true) ⊎ (b ≡ true)
either_of true b e = inl refl
either_of false b e = inr e

hi_top : (x : ℤ) (s : Span) (ss : List Span) → RisesPast x (s ∷ ss) → (z : ℤ) → is_member (s ∷ ss) z ≡ true → z ≤ℤ hi_of (s ∷ ss)
hi_top x s [] r z h = by_case (either_of (has s z) false h)
  where
    by_case : (has s z ≡ true) ⊎ (false ≡ true) → z ≤ℤ s.hi
    by_case (inl e) = (has_from s z e).to
    by_case (inr e) = absurd (cc)
hi_top x s (t ∷ ss) r z h = by_case (hi_top (s.hi +ℤ pos 1) t ss r.2 z) (either_of (has s z) (is_member (t ∷ ss) z) h)
  where
    above : (s.hi +ℤ pos 1) <ℤ hi_of (t ∷ ss)
    above = past_all (s.hi +ℤ pos 1) (t ∷ ss) (hi_of (t ∷ ss)) r.2 (hi_member_of (s.hi +ℤ pos 1) t ss r.2)

    by_case : (is_member (t ∷ ss) z ≡ true → z ≤ℤ hi_of (t ∷ ss)) → (has s z ≡ true) ⊎ (is_member (t ∷ ss) z ≡ true) → z ≤ℤ hi_of (t ∷ ss)
    by_case rest (inl e) = let f = (has_from s z e).to in omega (arith, ints, f, above)
    by_case rest (inr e) = rest e

pub rising_set : (x : ℤ) (s : Span) (ss : List Span) → RisesPast x (s ∷ ss) → IsSet (set_of (s ∷ ss))
rising_set x s ss r = record {
  low = lo_member s ss r.1;
  high = hi_member_of x s ss r;
  from = (is_lowest x s ss r).least;
  to = hi_top x s ss r;
}

pub ranges_set : (ss : List Span) → IsRanges ss → (z : ℤ) → is_member ss z ≡ true → IsSet (set_of ss)
ranges_set [] r z h = absurd (cc)
ranges_set (s ∷ ss) r z h = rising_set (negsuc (2 ^ 50)) s ss r

pub not_le : (a b : ℤ) → a <ℤ b → int_le b a ≡ false
not_le a b l = by_test (int_le b a) refl
  where
    by_test : (t : Bool) → int_le b a ≡ t → int_le b a ≡ false
    by_test true e = absurd (let f = le_from b a e in omega (arith, ints, f, l))
    by_test false e = e

-- the ends of ranges are an interval
pub ends_interval : (ss : List Span) → IsRanges ss → ss ≢ [] → IsInterval (record { lo = lo_of ss; hi = hi_of ss })
ends_interval [] r some = absurd (some refl)
ends_interval (s ∷ ss) r some = record {
  ordered = hi_top (negsuc (2 ^ 50)) s ss r s.lo (lo_member s ss r.1);
  low = r.1.low;
  high = top (negsuc (2 ^ 50)) s ss r;
}
  where
    top : (x : ℤ) (s : Span) (ss : List Span) → RisesPast x (s ∷ ss) → hi_of (s ∷ ss) ≤ℤ pos (2 ^ 50)
    top x s [] r = r.1.high
    top x s (t ∷ ss) r = top (s.hi +ℤ pos 1) t ss r.2

length_less : (ss : List Span) → length ss ≡ suc (length ss) - 1
length_less ss = omega arith

pub hi_last : (ss : List Span) (d : Span) → ss ≢ [] → hi_of ss ≡ (slice_index_or ss (length ss - 1) d).hi
hi_last [] d some = absurd (some refl)
hi_last (s ∷ ss) d some = at s ss ∙ ap (λ i. (slice_index_or (s ∷ ss) i d).hi) (length_less ss)
  where
    at : (s : Span) (ss : List Span) → hi_of (s ∷ ss) ≡ (slice_index_or (s ∷ ss) (length ss) d).hi
    at s [] = refl
    at s (t ∷ ss) = at t ss

pub ranges_is_set : (ss : List Span) → IsRanges ss → ss ≢ [] → IsSet (set_of ss)
ranges_is_set [] r some = absurd (some refl)
ranges_is_set (s ∷ ss) r some = ranges_set (s ∷ ss) r s.lo (lo_member s ss r.1)

pub lo_first : (ss : List Span) (d : Span) → ss ≢ [] → lo_of ss ≡ (slice_index_or ss 0 d).lo
lo_first [] d some = absurd (some refl)
lo_first (s ∷ ss) d some = refl

-- an end of an interval is read back as it was written
pub read_lo : (iv : Span) (x : ℤ) → IsInterval iv → x ≡ iv.lo → to_z w64 (of_z w64 x) ≡ iv.lo
read_lo iv x i e = let a = i.low in let b = i.ordered in let c = i.high in read_51 x (omega (arith, ints, a, e)) (omega (arith, ints, b, c, e)) ∙ e

pub read_hi : (iv : Span) (x : ℤ) → IsInterval iv → x ≡ iv.hi → to_z w64 (of_z w64 x) ≡ iv.hi
read_hi iv x i e = let a = i.low in let b = i.ordered in let c = i.high in read_51 x (omega (arith, ints, a, b, e)) (omega (arith, ints, c, e)) ∙ e
