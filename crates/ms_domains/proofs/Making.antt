-- The domain of a set of ranges.
use Rattle.std.proofs.Common.{◌≡◌, ℕ, ◌<◌, refl, sym, ap, ◌∙◌, subst, arith, Bool, true, false, List, [], ◌∷◌, length, ◌||◌}
use Rattle.std.specs.Prelude.{ℤ, pos, ◌+ℤ◌, ◌-ℤ◌, ◌≤ℤ◌, slice_set, slice_index, slice_index_or}
use Rattle.std.proofs.lemmas.Int.{ints}
use Rattle.std.proofs.lemmas.List.{set-get_or}
use Rattle.ms_num.specs.Span.{Span, IsInterval}
use Rattle.ms_num.specs.Ranges.{is_member}
use Rattle.ms_num.specs.Sets.{Set, IsSet, set_size, set_of, lo_of, hi_of}
use Rattle.ms_num.proofs.SharedCounts.{IsNat, nat_of}
use Rattle.ms_num.proofs.SharedMembers.{has_of}
use Rattle.ms_bits.specs.Word.{has_bit}
use Rattle.ms_domains.specs.Bounded.{bounded}
use Rattle.ms_domains.specs.Domains.{row_from, is_there, domain_set, Covers, IsReadable, IsDomain, IsWordOf, StandsFor, IsFilled}
use Rattle.ms_domains.specs.declared.domain.Holes.{Holes}
use Rattle.ms_domains.specs.declared.domain.Holes.TheVariants.{Whole, Window, Row, Listed}
use Rattle.ms_domains.specs.declared.domain.Domain.{Domain}
use Rattle.ms_domains.proofs.SharedBounded.{bounded_is}
use Rattle.ms_domains.proofs.Parts.{in_of, of_in}
use Rattle.ms_domains.proofs.Counting.{in_word}
use Rattle.ms_domains.proofs.Rows.{at_place}
use Rattle.ms_domains.proofs.Holing.{full_bit}

pub stands : (lists : List (List Span)) (row : List ℕ) (s : Set) (lo hi : ℤ) (size : ℕ) (holes : Holes) → IsSet s → IsInterval (record { lo = s.lo; hi = s.hi }) → lo ≡ s.lo → hi ≡ s.hi → size ≡ set_size s → ((z : ℤ) → s.lo ≤ℤ z → z ≤ℤ s.hi → is_there lists row holes z ≡ s.has z) → IsReadable lists row s.lo s.hi holes → StandsFor lists row s (record { lo = lo; hi = hi; size = size; holes = holes })
stands lists row s lo hi size holes i w el eh es h r =
    let same = bounded_is s (is_there lists row holes) i h in
    let is : StandsFor lists row s (record { lo = s.lo; hi = s.hi; size = size; holes = holes }) = record {
      proper = record { proper = subst (λ (t : Set). IsSet t) (sym same) i; within = w; size = es ∙ ap set_size (sym same); readable = r };
      set = same;
    } in
    subst (λ (x : ℤ). StandsFor lists row s (record { lo = lo; hi = x; size = size; holes = holes })) (sym eh) (subst (λ (x : ℤ). StandsFor lists row s (record { lo = x; hi = s.hi; size = size; holes = holes })) (sym el) is)

-- the list of that place
pub stands_listed : (lists : List (List Span)) (row : List ℕ) (ss : List Span) (lo hi : ℤ) (size place : ℕ) → IsSet (set_of ss) → IsInterval (record { lo = lo_of ss; hi = hi_of ss }) → lo ≡ lo_of ss → hi ≡ hi_of ss → size ≡ set_size (set_of ss) → place < length lists → slice_index_or lists place [] ≡ ss → StandsFor lists row (set_of ss) (record { lo = lo; hi = hi; size = size; holes = Listed place })
stands_listed lists row ss lo hi size place i w el eh es b e = stands lists row (set_of ss) lo hi size (Listed place) i w el eh es (λ z x y. ap (λ (q : List Span). is_member q z) e) (b, ap lo_of (sym e), ap hi_of (sym e), subst (λ (q : List Span). IsSet (set_of q)) (sym e) i)

-- one word
pub stands_window : (lists : List (List Span)) (row : List ℕ) (ss : List Span) (lo hi base : ℤ) (size bits far : ℕ) → IsSet (set_of ss) → IsInterval (record { lo = lo_of ss; hi = hi_of ss }) → lo ≡ lo_of ss → hi ≡ hi_of ss → base ≡ lo_of ss → size ≡ set_size (set_of ss) → pos far ≡ hi_of ss -ℤ lo_of ss → far < 64 → IsWordOf (is_member ss) (lo_of ss) bits → StandsFor lists row (set_of ss) (record { lo = lo; hi = hi; size = size; holes = Window base bits })
stands_window lists row ss lo hi base size bits far i w el eh eb es ef l h =
    let low = w.low in
    let r : Covers (lo_of ss) 1 (lo_of ss) (hi_of ss) = record { from = omega (arith, ints); to = omega (arith, ints, ef, l); low = low } in
    subst (λ (x : ℤ). StandsFor lists row (set_of ss) (record { lo = lo; hi = hi; size = size; holes = Window x bits })) (sym eb) (stands lists row (set_of ss) lo hi size (Window (lo_of ss) bits) i w el eh es (λ z x y. by_nat z x y (nat_of (z -ℤ lo_of ss) (omega (arith, ints, x)))) r)
  where
    back : (a z : ℤ) (k : ℕ) → z -ℤ a ≡ pos k → a +ℤ pos k ≡ z
    back a z k e = omega (arith, ints, e)

    by_nat : (z : ℤ) → lo_of ss ≤ℤ z → z ≤ℤ hi_of ss → IsNat (z -ℤ lo_of ss) → row_from (bits ∷ []) (lo_of ss) z ≡ is_member ss z
    by_nat z x y m =
        let q = m.is in
        let b : m.number < 64 = omega (arith, ints, q, y, ef, l) in
        at_place (bits ∷ []) (lo_of ss) z m.number m.is ∙ in_word bits m.number b ∙ h m.number b ∙ ap (is_member ss) (back (lo_of ss) z m.number m.is)

-- one range
pub stands_whole : (lists : List (List Span)) (row : List ℕ) (ss : List Span) (d : Domain) → length ss ≡ 1 → IsSet (set_of ss) → IsInterval (record { lo = lo_of ss; hi = hi_of ss }) → d.lo ≡ lo_of ss → d.hi ≡ hi_of ss → d.holes ≡ Whole → d.size ≡ set_size (bounded (lo_of ss) (hi_of ss) (λ z. true)) → StandsFor lists row (set_of ss) d
stands_whole lists row [] d e i w el eh ew es = absurd (omega (arith, e))
stands_whole lists row (s ∷ t ∷ ss) d e i w el eh ew es = absurd (omega (arith, e))
stands_whole lists row (s ∷ []) d e i w el eh ew es =
    let all = bounded_is (set_of (s ∷ [])) (λ z. true) i (λ z x y. sym (ap (λ b. b || false) (has_of s z x y))) in
    let made : StandsFor lists row (set_of (s ∷ [])) (record { lo = d.lo; hi = d.hi; size = d.size; holes = Whole }) = stands lists row (set_of (s ∷ [])) d.lo d.hi d.size Whole i w el eh (es ∙ ap set_size all) (λ z x y. sym (ap (λ b. b || false) (has_of s z x y))) tt in
    subst (λ (h : Holes). StandsFor lists row (set_of (s ∷ [])) (record { lo = d.lo; hi = d.hi; size = d.size; holes = h })) (sym ew) made

-- ---- a row that has the numbers

same_front : (row : List ℕ) (at : ℕ) → slice_set row at (slice_index row at) ≡ row
same_front row at = set-get_or row at 0

pub opened_is : (lists : List (List Span)) (row : List ℕ) (d : Domain) (lo hi base : ℤ) (at : ℕ) → IsDomain lists row d → IsFilled lists row d → lo ≡ d.lo → hi ≡ d.hi → base ≡ d.lo → at < length row → StandsFor [] row (domain_set lists row d) (record { lo = lo; hi = hi; size = d.size; holes = Row base at (slice_index row at) })
opened_is lists row d lo hi base at i f el eh eb l =
    let low = i.within.low in
    let r : Covers d.lo (length row) d.lo d.hi = record { from = omega (arith, ints); to = f.covers; low = low } in
    subst (λ (x : ℤ). StandsFor [] row (domain_set lists row d) (record { lo = lo; hi = hi; size = d.size; holes = Row x at (slice_index row at) })) (sym eb)
    (stands [] row (domain_set lists row d) lo hi d.size (Row d.lo at (slice_index row at)) i.proper i.within el eh i.size (λ z x y. by_nat z x y (nat_of (z -ℤ d.lo) (omega (arith, ints, x)))) (r, l))
  where
    back : (a z : ℤ) (k : ℕ) → z -ℤ a ≡ pos k → a +ℤ pos k ≡ z
    back a z k e = omega (arith, ints, e)

    by_nat : (z : ℤ) → d.lo ≤ℤ z → z ≤ℤ d.hi → IsNat (z -ℤ d.lo) → row_from (slice_set row at (slice_index row at)) d.lo z ≡ (domain_set lists row d).has z
    by_nat z x y m =
        let q = back d.lo z m.number m.is in
        ap (λ ws. row_from ws d.lo z) (same_front row at) ∙ at_place row d.lo z m.number m.is ∙ f.same m.number (let t = m.is in omega (arith, ints, t, y)) ∙ ap (λ t. (domain_set lists row d).has t) q

pub moved_is : (row : List ℕ) (d : Domain) (lo hi b base : ℤ) (at bits next : ℕ) → IsDomain [] row d → d.holes ≡ Row base at bits → slice_set row at bits ≡ row → lo ≡ d.lo → hi ≡ d.hi → b ≡ base → next < length row → StandsFor [] row (domain_set [] row d) (record { lo = lo; hi = hi; size = d.size; holes = Row b next (slice_index row next) })
moved_is row d lo hi b base at bits next i e w el eh eb l =
    let c = subst (λ (h : Holes). IsReadable [] row d.lo d.hi h) e i.readable in
    subst (λ (x : ℤ). StandsFor [] row (domain_set [] row d) (record { lo = lo; hi = hi; size = d.size; holes = Row x next (slice_index row next) })) (sym eb)
    (stands [] row (domain_set [] row d) lo hi d.size (Row base next (slice_index row next)) i.proper i.within el eh i.size (λ z x y. same z x y) (c.0, l))
  where
    same : (z : ℤ) → d.lo ≤ℤ z → z ≤ℤ d.hi → row_from (slice_set row next (slice_index row next)) base z ≡ (domain_set [] row d).has z
    same z x y =
        let p : is_there [] row d.holes z ≡ row_from (slice_set row at bits) base z = ap (λ (h : Holes). is_there [] row h z) e in
        ap (λ ws. row_from ws base z) (same_front row next ∙ sym w) ∙ sym p ∙ inside (is_there [] row d.holes z) refl
      where
        inside : (t : Bool) → is_there [] row d.holes z ≡ t → is_there [] row d.holes z ≡ (domain_set [] row d).has z
        inside true f = f ∙ sym (of_in d.lo d.hi (is_there [] row d.holes) z (record { from = x; to = y; passes = f }))
        inside false f = f ∙ sym (out ((domain_set [] row d).has z) refl)
          where
            out : (u : Bool) → (domain_set [] row d).has z ≡ u → (domain_set [] row d).has z ≡ false
            out false g = g
            out true g = absurd (let q = in_of d.lo d.hi (is_there [] row d.holes) z g in let r = q.passes in cc)

pub word_whole : (lists : List (List Span)) (row : List ℕ) (d : Domain) (from : ℤ) → d.holes ≡ Whole → d.lo ≤ℤ from → (k : ℕ) → k < 64 → (from +ℤ pos k) ≤ℤ d.hi → has_bit 18446744073709551615 k ≡ (domain_set lists row d).has (from +ℤ pos k)
word_whole lists row d from e a k b l = full_bit k b ∙ sym (of_in d.lo d.hi (is_there lists row d.holes) (from +ℤ pos k) (record { from = omega (arith, ints, a); to = l; passes = ap (λ (h : Holes). is_there lists row h (from +ℤ pos k)) e }))
