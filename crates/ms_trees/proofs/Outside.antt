-- An interval beside the ranges of a set.
use Rattle.std.proofs.Common.{◌≡◌, List, [], ◌∷◌, Bool, true, false, ◌&&◌, ◌||◌, refl, sym, ◌∙◌, arith}
use Rattle.std.proofs.lemmas.Bool.{false≢true}
use Rattle.std.proofs.lemmas.Int.{ints}
use Rattle.std.specs.Prelude.{ℤ, pos, ◌+ℤ◌, ◌≤ℤ◌, ◌<ℤ◌, int_le}
use Rattle.std.specs.Int.Signed.{≤ℤ_refl}
use Rattle.ms_num.specs.Span.{Span, Has, has}
use Rattle.ms_num.specs.Ranges.{is_member, RisesPast}
use Rattle.ms_num.proofs.SharedMembers.{past_all}
use Rattle.ms_trees.specs.Enclosure.{meets, may_be_in, is_inside}
use Rattle.ms_trees.specs.Laws.{HasOutside, HasShared, SetsMeetWhereTheyShare, SetsHoldWhereNoneIsOutside}
use Rattle.ms_trees.proofs.Bools.{and_left, and_right, and_true, or_left, or_right, or_split, or_false, is_false, both_ways, le_of, of_le, not_le}

-- a number below each range is in none
below_all : (y : ℤ) (rs : List Span) (z : ℤ) → RisesPast y rs → z ≤ℤ y → is_member rs z ≡ false
below_all y rs z p l = is_false (is_member rs z) (λ e. let a = past_all y rs z p e in absurd (omega (arith, ints)))

not_in : (s : Span) (z : ℤ) → ((s.lo ≤ℤ z) → (z ≤ℤ s.hi) → ⊥) → has s z ≡ false
not_in s z f = is_false (has s z) (λ e. f (le_of s.lo z (and_left (int_le s.lo z) (int_le z s.hi) e)) (le_of z s.hi (and_right (int_le s.lo z) (int_le z s.hi) e)))

neither : (a b : Bool) → a ≡ false → b ≡ false → (a || b) ≡ false
neither true b e f = e
neither false b e f = f

outside : (y : ℤ) (rs : List Span) → RisesPast y rs → (s : Span) → s.lo ≤ℤ s.hi → is_inside rs s ≡ false → HasOutside rs s
outside y [] p s o e = record { number = s.lo; within = record { from = ≤ℤ_refl s.lo; to = o }; outside = refl }
outside y (q ∷ rs) p s o e =
    let k = or_false (int_le q.lo s.lo && int_le s.hi q.hi) (is_inside rs s) e in
    both_ways (int_le q.lo s.lo) (λ f. both_ways (int_le s.lo q.hi) (λ g. behind f g k.0) (λ g. later g (outside (q.hi +ℤ pos 1) rs p.2 s o k.1))) before
  where
    -- the interval begins before the first range
    before : int_le q.lo s.lo ≡ false → HasOutside (q ∷ rs) s
    before f =
        let a = not_le q.lo s.lo f in
        record {
          number = s.lo;
          within = record { from = ≤ℤ_refl s.lo; to = o };
          outside = neither (has q s.lo) (is_member rs s.lo) (not_in q s.lo (λ b c. absurd (omega (arith, ints))))
              (below_all (q.hi +ℤ pos 1) rs s.lo p.2 (omega (arith, ints, a, p.1.ordered)));
        }

    -- it begins in the first range and passes its end
    behind : int_le q.lo s.lo ≡ true → int_le s.lo q.hi ≡ true → (int_le q.lo s.lo && int_le s.hi q.hi) ≡ false → HasOutside (q ∷ rs) s
    behind f g h =
        let a = le_of s.lo q.hi g in
        let b = not_le s.hi q.hi (is_false (int_le s.hi q.hi) (λ c. false≢true (sym h ∙ and_true (int_le q.lo s.lo) (int_le s.hi q.hi) f c))) in
        record {
          number = q.hi +ℤ pos 1;
          within = record { from = from a; to = to b };
          outside = neither (has q (q.hi +ℤ pos 1)) (is_member rs (q.hi +ℤ pos 1)) (not_in q (q.hi +ℤ pos 1) (λ c d. absurd (omega (arith, ints)))) (below_all (q.hi +ℤ pos 1) rs (q.hi +ℤ pos 1) p.2 (≤ℤ_refl (q.hi +ℤ pos 1)));
        }
      where
        from : s.lo ≤ℤ q.hi → s.lo ≤ℤ (q.hi +ℤ pos 1)
        from a = omega (arith, ints)

        to : q.hi <ℤ s.hi → (q.hi +ℤ pos 1) ≤ℤ s.hi
        to b = omega (arith, ints)

    -- it begins behind the first range
    later : int_le s.lo q.hi ≡ false → HasOutside rs s → HasOutside (q ∷ rs) s
    later g w =
        let a = not_le s.lo q.hi g in
        record { number = w.number; within = w.within; outside = neither (has q w.number) (is_member rs w.number) (not_in q w.number (λ b c. let d = w.within.from in absurd (omega (arith, ints)))) w.outside }

-- an interval within a range has numbers of it alone
within : (rs : List Span) (s : Span) (z : ℤ) → Has s z → is_inside rs s ≡ true → is_member rs z ≡ true
within [] s z h e = absurd (false≢true e)
within (q ∷ rs) s z h e =
    or_split (int_le q.lo s.lo && int_le s.hi q.hi) (is_inside rs s) e
    (λ f.
    let a = le_of q.lo s.lo (and_left (int_le q.lo s.lo) (int_le s.hi q.hi) f) in
    let b = le_of s.hi q.hi (and_right (int_le q.lo s.lo) (int_le s.hi q.hi) f) in
    or_left (has q z) (is_member rs z) (and_true (int_le q.lo z) (int_le z q.hi) (of_le q.lo z (low a)) (of_le z q.hi (high b))))
    (λ f. or_right (has q z) (is_member rs z) (within rs s z h f))
  where
    low : q.lo ≤ℤ s.lo → q.lo ≤ℤ z
    low a = let c = h.from in omega (arith, ints)

    high : s.hi ≤ℤ q.hi → z ≤ℤ q.hi
    high b = let c = h.to in omega (arith, ints)

pub sets_hold : SetsHoldWhereNoneIsOutside
sets_hold rs p s o = (outside _ rs p s o, λ w. is_false (is_inside rs s) (λ e. false≢true (sym w.outside ∙ within rs s w.number w.within e)))

-- ---- a number of both

shared : (y : ℤ) (rs : List Span) → RisesPast y rs → (s : Span) → s.lo ≤ℤ s.hi → may_be_in rs s ≡ true → HasShared rs s
shared y [] p s o e = absurd (false≢true e)
shared y (q ∷ rs) p s o e = or_split (meets q s) (may_be_in rs s) e here (λ f. there (shared (q.hi +ℤ pos 1) rs p.2 s o f))
  where
    there : HasShared rs s → HasShared (q ∷ rs) s
    there w = record { number = w.number; within = w.within; member = or_right (has q w.number) (is_member rs w.number) w.member }

    here : meets q s ≡ true → HasShared (q ∷ rs) s
    here f =
        let a = le_of q.lo s.hi (and_left (int_le q.lo s.hi) (int_le s.lo q.hi) f) in
        let b = le_of s.lo q.hi (and_right (int_le q.lo s.hi) (int_le s.lo q.hi) f) in
        both_ways (int_le q.lo s.lo)
        (λ g. record {
          number = s.lo;
          within = record { from = ≤ℤ_refl s.lo; to = o };
          member = or_left (has q s.lo) (is_member rs s.lo) (and_true (int_le q.lo s.lo) (int_le s.lo q.hi) g (of_le s.lo q.hi b));
        })
        (λ g. let c = not_le q.lo s.lo g in record {
          number = q.lo;
          within = record { from = from c; to = a };
          member = or_left (has q q.lo) (is_member rs q.lo) (and_true (int_le q.lo q.lo) (int_le q.lo q.hi) (of_le q.lo q.lo (≤ℤ_refl q.lo)) (of_le q.lo q.hi p.1.ordered));
        })
      where
        from : s.lo <ℤ q.lo → s.lo ≤ℤ q.lo
        from c = omega (arith, ints)

meet_at : (rs : List Span) (s : Span) (z : ℤ) → Has s z → is_member rs z ≡ true → may_be_in rs s ≡ true
meet_at [] s z h e = absurd (false≢true e)
meet_at (q ∷ rs) s z h e =
    or_split (has q z) (is_member rs z) e
    (λ f.
    let a = le_of q.lo z (and_left (int_le q.lo z) (int_le z q.hi) f) in
    let b = le_of z q.hi (and_right (int_le q.lo z) (int_le z q.hi) f) in
    or_left (meets q s) (may_be_in rs s) (and_true (int_le q.lo s.hi) (int_le s.lo q.hi) (of_le q.lo s.hi (low a)) (of_le s.lo q.hi (high b))))
    (λ f. or_right (meets q s) (may_be_in rs s) (meet_at rs s z h f))
  where
    low : q.lo ≤ℤ z → q.lo ≤ℤ s.hi
    low a = let c = h.to in omega (arith, ints)

    high : z ≤ℤ q.hi → s.lo ≤ℤ q.hi
    high b = let c = h.from in omega (arith, ints)

pub sets_meet : SetsMeetWhereTheyShare
sets_meet rs p s o = (shared _ rs p s o, λ w. meet_at rs s w.number w.within w.member)
