-- Sets whose numbers are in a row of words.
use Rattle.std.proofs.Common.{◌≡◌, ℕ, zero, suc, ◌+◌, ◌-◌, ◌<◌, ◌≤◌, refl, sym, ap, ◌∙◌, subst, arith, Bool, true, false, List, [], ◌∷◌, length, None, ◌&&◌, if◌then◌else◌, w64, to_z, of_z}
use Rattle.std.specs.Prelude.{ℤ, pos, negsuc, ◌+ℤ◌, ◌-ℤ◌, ◌≤ℤ◌, ◌<ℤ◌, int_le, slice_set}
use Rattle.std.proofs.lemmas.Int.{ints}
use Rattle.std.proofs.lemmas.List.{length-set}
use Rattle.ms_num.specs.Span.{Span, IsInterval}
use Rattle.ms_num.specs.Sets.{IsSet, IsCut, set_size, count_from}
use Rattle.ms_num.proofs.SharedSpans.{read_51}
use Rattle.ms_num.proofs.SharedCounts.{IsNat, nat_of}
use Rattle.ms_domains.specs.Bounded.{bounded}
use Rattle.ms_domains.specs.Row.{in_row, row_count, IsLastAt, IsFirstAt, IsLast, IsFirst}
use Rattle.ms_domains.specs.Domains.{at_distance, row_from, is_there, domain_set, Covers, IsReadable, IsDomain, IsRowSet, IsPart}
use Rattle.ms_domains.specs.declared.domain.Holes.{Holes}
use Rattle.ms_domains.specs.declared.domain.Holes.TheVariants.{Whole, Window, Row, Listed}
use Rattle.ms_domains.specs.declared.domain.Domain.{Domain}
use Rattle.ms_domains.proofs.Parts.{IsIn, in_of, of_in, low_in, high_in, cut_above, cut_below, size_above, size_below}

pub at_place : (row : List ℕ) (base z : ℤ) (k : ℕ) → z -ℤ base ≡ pos k → row_from row base z ≡ in_row row k
at_place row base z k e = ap (at_distance row) e

back : (base : ℤ) (k : ℕ) → (base +ℤ pos k) -ℤ base ≡ pos k
back base k = omega (arith, ints)

pub at_above : (row : List ℕ) (base : ℤ) (k : ℕ) → row_from row base (base +ℤ pos k) ≡ in_row row k
at_above row base k = at_place row base (base +ℤ pos k) k (back base k)

-- the numbers from a place on, counted as numbers of the set
count_row : (lo hi : ℤ) (row : List ℕ) (base : ℤ) (k n : ℕ) → lo ≤ℤ (base +ℤ pos k) → (base +ℤ pos (k + n)) ≤ℤ (hi +ℤ pos 1) → count_from (bounded lo hi (row_from row base)).has (base +ℤ pos k) n ≡ row_count row k n
count_row lo hi row base k zero a b = refl
count_row lo hi row base k (suc n) a b =
    joined ((bounded lo hi (row_from row base)).has (base +ℤ pos k)) (in_row row k) _ _ here
    (ap (λ z. count_from (bounded lo hi (row_from row base)).has z n) (next base k) ∙ count_row lo hi row base (suc k) n (omega (arith, ints, a)) (omega (arith, ints, b)))
  where
    next : (base : ℤ) (k : ℕ) → (base +ℤ pos k) +ℤ pos 1 ≡ base +ℤ pos (suc k)
    next base k = omega (arith, ints)

    joined : (b c : Bool) (m n : ℕ) → b ≡ c → m ≡ n → (if b then 1 else 0) + m ≡ (if c then 1 else 0) + n
    joined true true m n e f = omega (arith, f)
    joined false false m n e f = omega (arith, f)
    joined true false m n e f = absurd (cc)
    joined false true m n e f = absurd (cc)

    same : (t : Bool) → row_from row base (base +ℤ pos k) ≡ t → (bounded lo hi (row_from row base)).has (base +ℤ pos k) ≡ t
    same true e = of_in lo hi (row_from row base) (base +ℤ pos k) (record { from = a; to = omega (arith, ints, b); passes = e })
    same false e = not_in ((bounded lo hi (row_from row base)).has (base +ℤ pos k)) refl
      where
        not_in : (u : Bool) → (bounded lo hi (row_from row base)).has (base +ℤ pos k) ≡ u → (bounded lo hi (row_from row base)).has (base +ℤ pos k) ≡ false
        not_in false f = f
        not_in true f = absurd (let i = in_of lo hi (row_from row base) (base +ℤ pos k) f in let p = i.passes in cc)

    here : (bounded lo hi (row_from row base)).has (base +ℤ pos k) ≡ in_row row k
    here = same (in_row row k) (at_above row base k)

-- what the greatest number up to another leaves of a row
pub record IsUpper (lo hi n : ℤ) (row : List ℕ) (base : ℤ) (k gone : ℕ) : Type 0 where
  pub cut : IsCut (λ z. int_le z n) (bounded lo hi (row_from row base)) (bounded lo (base +ℤ pos k) (row_from row base))
  pub size : set_size (bounded lo (base +ℤ pos k) (row_from row base)) + gone ≡ set_size (bounded lo hi (row_from row base))
  pub least : lo ≤ℤ (base +ℤ pos k)
  pub most : (base +ℤ pos k) ≤ℤ n

pub upper : (lo hi n base : ℤ) (row : List ℕ) (to far k gone : ℕ) → IsSet (bounded lo hi (row_from row base)) → base ≤ℤ lo → lo ≤ℤ n → n <ℤ hi → pos to ≡ n -ℤ base → pos far ≡ hi -ℤ base → IsLastAt row to k → gone ≡ row_count row (k + 1) (far - (k + 1) + 1) → IsUpper lo hi n row base k gone
upper lo hi n base row to far k gone i a b c e f last g = by_nats (nat_of (lo -ℤ base) (omega (arith, ints, a)))
  where
    p : ℤ → Bool
    p = row_from row base

    by_nats : IsNat (lo -ℤ base) → IsUpper lo hi n row base k gone
    by_nats m = record { cut = cut; size = size; least = least; most = most }
      where
        first : m.number ≤ k
        first = last.greatest m.number (let q = m.is in omega (arith, ints, q, e, b)) (sym (at_place row base lo m.number m.is) ∙ (low_in lo hi (row_from row base) i).passes)

        least : lo ≤ℤ (base +ℤ pos k)
        least = let q = m.is in let l = first in omega (arith, ints, q, l)

        most : (base +ℤ pos k) ≤ℤ n
        most = let l = last.before in omega (arith, ints, e, l)

        here : IsIn lo n (row_from row base) (base +ℤ pos k)
        here = record { from = least; to = most; passes = at_above row base k ∙ last.there }

        top : (z : ℤ) → IsIn lo n (row_from row base) z → z ≤ℤ (base +ℤ pos k)
        top z q = by_nat (nat_of (z -ℤ base) (let h = q.from in omega (arith, ints, a, h)))
          where
            by_nat : IsNat (z -ℤ base) → z ≤ℤ (base +ℤ pos k)
            by_nat j = let w = j.is in let h = q.to in let l = last.greatest j.number (omega (arith, ints, w, e, h)) (sym (at_place row base z j.number j.is) ∙ q.passes) in omega (arith, ints, w, l)

        cut : IsCut (λ z. int_le z n) (bounded lo hi (row_from row base)) (bounded lo (base +ℤ pos k) (row_from row base))
        cut = cut_above lo hi n (base +ℤ pos k) (row_from row base) i (omega (arith, ints, c)) here top

        size : set_size (bounded lo (base +ℤ pos k) (row_from row base)) + gone ≡ set_size (bounded lo hi (row_from row base))
        size = by_rest (nat_of ((base +ℤ pos k) -ℤ lo) (let l = least in omega (arith, ints, l))) (nat_of (hi -ℤ (base +ℤ pos k)) (let l = most in omega (arith, ints, l, c)))
          where
            by_rest : IsNat ((base +ℤ pos k) -ℤ lo) → IsNat (hi -ℤ (base +ℤ pos k)) → set_size (bounded lo (base +ℤ pos k) (row_from row base)) + gone ≡ set_size (bounded lo hi (row_from row base))
            by_rest x y =
                let ex = x.is in let ey = y.is in
                let parts = size_above lo hi (base +ℤ pos k) x.number y.number (row_from row base) x.is y.is in
                let l = least in
                let r : count_from (bounded lo hi (row_from row base)).has (base +ℤ pos (k + 1)) y.number ≡ row_count row (k + 1) y.number = count_row lo hi row base (k + 1) y.number (omega (arith, ints, l)) (omega (arith, ints, ey)) in
                let at : count_from (bounded lo hi (row_from row base)).has ((base +ℤ pos k) +ℤ pos 1) y.number ≡ count_from (bounded lo hi (row_from row base)).has (base +ℤ pos (k + 1)) y.number = ap (λ z. count_from (bounded lo hi (row_from row base)).has z y.number) (omega (arith, ints)) in
                let n : far - (k + 1) + 1 ≡ y.number = omega (arith, ints, ey, f, c, most) in
                let same : row_count row (k + 1) (far - (k + 1) + 1) ≡ row_count row (k + 1) y.number = ap (row_count row (k + 1)) n in
                omega (arith, parts, r, at, same, g)

-- ---- what is left of a domain

part_within : (keep : ℤ → Bool) (d r : Domain) (there : ℤ → Bool) → IsInterval (record { lo = d.lo; hi = d.hi }) → IsPart keep d r there → (d.lo ≤ℤ r.lo) × (r.lo ≤ℤ r.hi) × (r.hi ≤ℤ d.hi)
part_within keep d r there w p =
    let low = in_of d.lo d.hi there r.lo (first_of _ _ _ (p.cut.members r.lo) p.cut.proper.low) in
    let high = in_of d.lo d.hi there r.hi (first_of _ _ _ (p.cut.members r.hi) p.cut.proper.high) in
    (low.from, p.cut.proper.from r.hi p.cut.proper.high, high.to)
  where
    first_of : (a b c : Bool) → c ≡ (a && b) → c ≡ true → a ≡ true
    first_of true b c e f = refl
    first_of false b c e f = absurd (cc)

readable_part : (row : List ℕ) (lo hi l h : ℤ) (holes : Holes) → lo ≤ℤ l → h ≤ℤ hi → IsReadable [] row lo hi holes → IsReadable [] row l h holes
readable_part row lo hi l h Whole a b r = tt
readable_part row lo hi l h (Window base bits) a b r = covers_part base 1 lo hi l h a b r
  where
    covers_part : (base : ℤ) (n : ℕ) (lo hi l h : ℤ) → lo ≤ℤ l → h ≤ℤ hi → Covers base n lo hi → Covers base n l h
    covers_part base n lo hi l h a b c = let f = c.from in let t = c.to in record { from = omega (arith, ints, a, f); to = omega (arith, ints, b, t); low = c.low }
readable_part row lo hi l h (Row base at bits) a b r = (let f = r.0.from in let t = r.0.to in record { from = omega (arith, ints, a, f); to = omega (arith, ints, b, t); low = r.0.low }, r.1)
readable_part row lo hi l h (Listed place) a b r = let p = r.0 in absurd (omega (arith, p))

pub domain_part : (row : List ℕ) (keep : ℤ → Bool) (d r : Domain) → IsDomain [] row d → IsPart keep d r (is_there [] row d.holes) → IsDomain [] row r × IsCut keep (domain_set [] row d) (domain_set [] row r)
domain_part row keep d r i p =
    let w = part_within keep d r (is_there [] row d.holes) i.within p in
    let same : (holes : Holes) → r.holes ≡ holes → IsCut keep (domain_set [] row d) (bounded r.lo r.hi (is_there [] row holes)) → IsCut keep (domain_set [] row d) (domain_set [] row r) = λ (holes : Holes) (e : r.holes ≡ holes) (c : IsCut keep (domain_set [] row d) (bounded r.lo r.hi (is_there [] row holes))). subst (λ (h : Holes). IsCut keep (domain_set [] row d) (bounded r.lo r.hi (is_there [] row h))) (sym e) c in
    let cut = same d.holes p.holes p.cut in (
      record {
        proper = cut.proper;
        within = let a = i.within.low in let b = i.within.high in record { ordered = w.1; low = omega (arith, ints, a, w); high = omega (arith, ints, b, w) };
        size = p.size ∙ ap (λ (h : Holes). set_size (bounded r.lo r.hi (is_there [] row h))) (sym p.holes);
        readable = subst (λ (h : Holes). IsReadable [] row r.lo r.hi h) (sym p.holes) (readable_part row d.lo d.hi r.lo r.hi d.holes w.0 w.2 i.readable);
      },
      cut,
    )

-- a number near the limits is read back as it was written
pub read : (z : ℤ) → negsuc 1125899906842623 ≤ℤ z → z ≤ℤ pos 1125899906842624 → to_z w64 (of_z w64 z) ≡ z
read z a b = read_51 z (omega (arith, ints, a)) (omega (arith, ints, b))

pub base_read : (base : ℤ) (n : ℕ) (lo hi : ℤ) → IsInterval (record { lo = lo; hi = hi }) → Covers base n lo hi → to_z w64 (of_z w64 base) ≡ base
base_read base n lo hi w c = let f = c.from in let o = w.ordered in let h = w.high in read base c.low (omega (arith, ints, f, o, h))

-- a domain with words, as a set of a row
pub window_set : (lists : List (List Span)) (row : List ℕ) (d : Domain) (base : ℤ) (bits : ℕ) → IsDomain lists row d → d.holes ≡ Window base bits → IsRowSet d (bits ∷ []) (to_z w64 (of_z w64 base))
window_set lists row d base bits i e =
    let c = subst (λ (h : Holes). IsReadable lists row d.lo d.hi h) e i.readable in
    let p = subst (λ (h : Holes). IsSet (bounded d.lo d.hi (is_there lists row h))) e i.proper in
    let s = i.size ∙ ap (λ (h : Holes). set_size (bounded d.lo d.hi (is_there lists row h))) e in
    let same : IsRowSet d (bits ∷ []) base = record { proper = p; within = i.within; size = s; covers = c; few = omega arith } in
    subst (λ (z : ℤ). IsRowSet d (bits ∷ []) z) (sym (base_read base 1 d.lo d.hi i.within c)) same

pub row_set : (lists : List (List Span)) (row : List ℕ) (d : Domain) (base : ℤ) (at bits : ℕ) → length row < 4294967296 → IsDomain lists row d → d.holes ≡ Row base at bits → IsRowSet d (slice_set row at bits) (to_z w64 (of_z w64 base))
row_set lists row d base at bits few i e =
    let c = subst (λ (h : Holes). IsReadable lists row d.lo d.hi h) e i.readable in
    let p = subst (λ (h : Holes). IsSet (bounded d.lo d.hi (is_there lists row h))) e i.proper in
    let s = i.size ∙ ap (λ (h : Holes). set_size (bounded d.lo d.hi (is_there lists row h))) e in
    let l : length (slice_set row at bits) ≡ length row = length-set row at bits in
    let same : IsRowSet d (slice_set row at bits) base = record { proper = p; within = i.within; size = s; covers = subst (λ (n : ℕ). Covers base n d.lo d.hi) (sym l) c.0; few = omega (arith, few, l) } in
    subst (λ (z : ℤ). IsRowSet d (slice_set row at bits) z) (sym (base_read base (length row) d.lo d.hi i.within c.0)) same

pub window_part : (row : List ℕ) (keep : ℤ → ℤ → Bool) (m n : ℤ) (d r : Domain) (base : ℤ) (bits : ℕ) → m ≡ n → IsDomain [] row d → d.holes ≡ Window base bits → IsPart (keep m) d r (row_from (bits ∷ []) (to_z w64 (of_z w64 base))) → IsDomain [] row r × IsCut (keep n) (domain_set [] row d) (domain_set [] row r)
window_part row keep2 m n d r base bits same i e p2 =
    let keep : ℤ → Bool = keep2 n in
    let p = subst (λ (x : ℤ). IsPart (keep2 x) d r (row_from (bits ∷ []) (to_z w64 (of_z w64 base)))) same p2 in
    let c = subst (λ (h : Holes). IsReadable [] row d.lo d.hi h) e i.readable in
    let q : IsPart keep d r (is_there [] row (Window base bits)) = subst (λ (z : ℤ). IsPart keep d r (row_from (bits ∷ []) z)) (base_read base 1 d.lo d.hi i.within c) p in
    domain_part row keep d r i (subst (λ (h : Holes). IsPart keep d r (is_there [] row h)) (sym e) q)

pub row_part : (row : List ℕ) (keep : ℤ → ℤ → Bool) (m n : ℤ) (d r : Domain) (base : ℤ) (at bits : ℕ) → m ≡ n → IsDomain [] row d → d.holes ≡ Row base at bits → IsPart (keep m) d r (row_from (slice_set row at bits) (to_z w64 (of_z w64 base))) → IsDomain [] row r × IsCut (keep n) (domain_set [] row d) (domain_set [] row r)
row_part row keep2 m n d r base at bits same i e p2 =
    let keep : ℤ → Bool = keep2 n in
    let p = subst (λ (x : ℤ). IsPart (keep2 x) d r (row_from (slice_set row at bits) (to_z w64 (of_z w64 base)))) same p2 in
    let c = subst (λ (h : Holes). IsReadable [] row d.lo d.hi h) e i.readable in
    let q : IsPart keep d r (is_there [] row (Row base at bits)) = subst (λ (z : ℤ). IsPart keep d r (row_from (slice_set row at bits) z)) (base_read base (length row) d.lo d.hi i.within c.0) p in
    domain_part row keep d r i (subst (λ (h : Holes). IsPart keep d r (is_there [] row h)) (sym e) q)

pub listed_none : (row : List ℕ) (d : Domain) (place : ℕ) {A : Type 0} → IsDomain [] row d → d.holes ≡ Listed place → A
listed_none row d place i e = let c = (subst (λ (h : Holes). IsReadable [] row d.lo d.hi h) e i.readable).0 in absurd (omega (arith, c))

-- the parts that the two cuts leave
pub part_upper : (d : Domain) (base n : ℤ) (row : List ℕ) (to far k gone : ℕ) (lo hi : ℤ) → IsRowSet d row base → d.lo ≤ℤ n → n <ℤ d.hi → pos to ≡ n -ℤ base → pos far ≡ d.hi -ℤ base → IsLastAt row to k → gone ≡ row_count row (k + 1) (far - (k + 1) + 1) → lo ≡ d.lo → hi ≡ base +ℤ pos k → IsPart (λ z. int_le z n) d (record { lo = lo; hi = hi; size = d.size - gone; holes = d.holes }) (row_from row base)
part_upper d base n row to far k gone lo hi s a b e f last g el eh =
    let u = upper d.lo d.hi n base row to far k gone s.proper s.covers.from a b e f last g in
    let same : IsPart (λ z. int_le z n) d (record { lo = d.lo; hi = base +ℤ pos k; size = d.size - gone; holes = d.holes }) (row_from row base) = record { holes = refl; cut = u.cut; size = let z = u.size in let y = s.size in omega (arith, z, y) } in
    subst (λ (h : ℤ). IsPart (λ z. int_le z n) d (record { lo = lo; hi = h; size = d.size - gone; holes = d.holes }) (row_from row base)) (sym eh) (subst (λ (l : ℤ). IsPart (λ z. int_le z n) d (record { lo = l; hi = base +ℤ pos k; size = d.size - gone; holes = d.holes }) (row_from row base)) (sym el) same)

pub upper_fewer : (d : Domain) (base n : ℤ) (row : List ℕ) (to far k gone : ℕ) → IsRowSet d row base → d.lo ≤ℤ n → n <ℤ d.hi → pos to ≡ n -ℤ base → pos far ≡ d.hi -ℤ base → IsLastAt row to k → gone ≡ row_count row (k + 1) (far - (k + 1) + 1) → gone ≤ d.size
upper_fewer d base n row to far k gone s a b e f last g =
    let u = upper d.lo d.hi n base row to far k gone s.proper s.covers.from a b e f last g in
    let z = u.size in let y = s.size in omega (arith, z, y)

pub upper_none : (d : Domain) (base n : ℤ) (row : List ℕ) (to : ℕ) {A : Type 0} → IsRowSet d row base → d.lo ≤ℤ n → pos to ≡ n -ℤ base → IsLast row to None → A
upper_none d base n row to {A} s a e none = by_nat (nat_of (d.lo -ℤ base) (let c = s.covers.from in omega (arith, ints, c)))
  where
    by_nat : IsNat (d.lo -ℤ base) → A
    by_nat m =
        let w = m.is in
        let t : in_row row m.number ≡ true = sym (at_place row base d.lo m.number m.is) ∙ (low_in d.lo d.hi (row_from row base) s.proper).passes in
        let f = none m.number (omega (arith, ints, w, e, a)) in
        absurd (cc)

-- every number up to n
pub whole_upper : (row : List ℕ) (d r : Domain) (n : ℤ) → IsDomain [] row d → d.holes ≡ Whole → d.lo ≤ℤ n → n <ℤ d.hi → r.lo ≡ d.lo → r.hi ≡ n → r.holes ≡ Whole → r.size ≡ set_size (bounded d.lo n (λ z. true)) → IsDomain [] row r × IsCut (λ z. int_le z n) (domain_set [] row d) (domain_set [] row r)
whole_upper row d r n i e a b el eh ew es =
    let p = subst (λ (h : Holes). IsSet (bounded d.lo d.hi (is_there [] row h))) e i.proper in
    let c = cut_above d.lo d.hi n n (λ z. true) p (omega (arith, ints, b)) (record { from = a; to = omega (arith, ints); passes = refl }) (λ z q. q.to) in
    let c2 = subst (λ (h : ℤ). IsCut (λ z. int_le z n) (bounded d.lo d.hi (λ z. true)) (bounded d.lo h (λ z. true))) (sym eh) c in
    let c3 = subst (λ (l : ℤ). IsCut (λ z. int_le z n) (bounded d.lo d.hi (λ z. true)) (bounded l r.hi (λ z. true))) (sym el) c2 in
    let s = es ∙ ap (λ h. set_size (bounded d.lo h (λ z. true))) (sym eh) ∙ ap (λ l. set_size (bounded l r.hi (λ z. true))) (sym el) in
    let part : IsPart (λ z. int_le z n) d r (λ z. true) = record { holes = ew ∙ sym e; cut = c3; size = s } in
    domain_part row (λ z. int_le z n) d r i (subst (λ (h : Holes). IsPart (λ z. int_le z n) d r (is_there [] row h)) (sym e) part)

-- ---- the same from below

-- what the least number from another on leaves of a row
pub record IsLower (lo hi n : ℤ) (row : List ℕ) (base : ℤ) (k gone : ℕ) : Type 0 where
  pub cut : IsCut (λ z. int_le n z) (bounded lo hi (row_from row base)) (bounded (base +ℤ pos k) hi (row_from row base))
  pub size : gone + set_size (bounded (base +ℤ pos k) hi (row_from row base)) ≡ set_size (bounded lo hi (row_from row base))
  pub least : n ≤ℤ (base +ℤ pos k)
  pub most : (base +ℤ pos k) ≤ℤ hi

pub lower : (lo hi n base : ℤ) (row : List ℕ) (from low k gone : ℕ) → IsSet (bounded lo hi (row_from row base)) → Covers base (length row) lo hi → lo <ℤ n → n ≤ℤ hi → pos from ≡ n -ℤ base → pos low ≡ lo -ℤ base → IsFirstAt row from k → gone ≡ row_count row low (k - 1 - low + 1) → IsLower lo hi n row base k gone
lower lo hi n base row from low k gone i v b c e f first g = by_nat (nat_of (hi -ℤ base) (let a = v.from in omega (arith, ints, a, b, c)))
  where
    by_nat : IsNat (hi -ℤ base) → IsLower lo hi n row base k gone
    by_nat m = record { cut = cut; size = size; least = least; most = most }
      where
        last : k ≤ m.number
        last = first.least m.number (let q = m.is in omega (arith, ints, q, e, c)) (let q = m.is in let t = v.to in omega (arith, ints, q, t)) (sym (at_place row base hi m.number m.is) ∙ (high_in lo hi (row_from row base) i).passes)

        least : n ≤ℤ (base +ℤ pos k)
        least = let l = first.after in omega (arith, ints, e, l)

        most : (base +ℤ pos k) ≤ℤ hi
        most = let q = m.is in let l = last in omega (arith, ints, q, l)

        here : IsIn n hi (row_from row base) (base +ℤ pos k)
        here = record { from = least; to = most; passes = at_above row base k ∙ first.there }

        bottom : (z : ℤ) → IsIn n hi (row_from row base) z → (base +ℤ pos k) ≤ℤ z
        bottom z q = by_place (nat_of (z -ℤ base) (let h = q.from in let a = v.from in omega (arith, ints, a, b, h)))
          where
            by_place : IsNat (z -ℤ base) → (base +ℤ pos k) ≤ℤ z
            by_place j = let w = j.is in let h = q.from in let t = q.to in let y = v.to in let l = first.least j.number (omega (arith, ints, w, e, h)) (omega (arith, ints, w, t, y)) (sym (at_place row base z j.number j.is) ∙ q.passes) in omega (arith, ints, w, l)

        cut : IsCut (λ z. int_le n z) (bounded lo hi (row_from row base)) (bounded (base +ℤ pos k) hi (row_from row base))
        cut = cut_below lo hi n (base +ℤ pos k) (row_from row base) i (omega (arith, ints, b)) here bottom

        size : gone + set_size (bounded (base +ℤ pos k) hi (row_from row base)) ≡ set_size (bounded lo hi (row_from row base))
        size = by_rest (nat_of ((base +ℤ pos k) -ℤ lo) (let l = least in omega (arith, ints, l, b))) (nat_of (hi -ℤ (base +ℤ pos k)) (let l = most in omega (arith, ints, l)))
          where
            by_rest : IsNat ((base +ℤ pos k) -ℤ lo) → IsNat (hi -ℤ (base +ℤ pos k)) → gone + set_size (bounded (base +ℤ pos k) hi (row_from row base)) ≡ set_size (bounded lo hi (row_from row base))
            by_rest x y =
                let ex = x.is in let ey = y.is in
                let parts = size_below lo hi (base +ℤ pos k) y.number x.number (row_from row base) x.is y.is in
                let l = least in let t = most in
                let r : count_from (bounded lo hi (row_from row base)).has (base +ℤ pos low) x.number ≡ row_count row low x.number = count_row lo hi row base low x.number (omega (arith, ints, f)) (omega (arith, ints, f, ex, t)) in
                let at : count_from (bounded lo hi (row_from row base)).has lo x.number ≡ count_from (bounded lo hi (row_from row base)).has (base +ℤ pos low) x.number = ap (λ z. count_from (bounded lo hi (row_from row base)).has z x.number) (omega (arith, ints, f)) in
                let n : k - 1 - low + 1 ≡ x.number = omega (arith, ints, ex, f, l, b) in
                let same : row_count row low (k - 1 - low + 1) ≡ row_count row low x.number = ap (row_count row low) n in
                omega (arith, parts, r, at, same, g)

pub part_lower : (d : Domain) (base n : ℤ) (row : List ℕ) (from low k gone : ℕ) (lo hi : ℤ) → IsRowSet d row base → d.lo <ℤ n → n ≤ℤ d.hi → pos from ≡ n -ℤ base → pos low ≡ d.lo -ℤ base → IsFirstAt row from k → gone ≡ row_count row low (k - 1 - low + 1) → lo ≡ base +ℤ pos k → hi ≡ d.hi → IsPart (λ z. int_le n z) d (record { lo = lo; hi = hi; size = d.size - gone; holes = d.holes }) (row_from row base)
part_lower d base n row from low k gone lo hi s a b e f first g el eh =
    let u = lower d.lo d.hi n base row from low k gone s.proper s.covers a b e f first g in
    let same : IsPart (λ z. int_le n z) d (record { lo = base +ℤ pos k; hi = d.hi; size = d.size - gone; holes = d.holes }) (row_from row base) = record { holes = refl; cut = u.cut; size = let z = u.size in let y = s.size in omega (arith, z, y) } in
    subst (λ (h : ℤ). IsPart (λ z. int_le n z) d (record { lo = lo; hi = h; size = d.size - gone; holes = d.holes }) (row_from row base)) (sym eh) (subst (λ (l : ℤ). IsPart (λ z. int_le n z) d (record { lo = l; hi = d.hi; size = d.size - gone; holes = d.holes }) (row_from row base)) (sym el) same)

-- the numbers that go are no more than there are, and the one that stays lies above the lowest
pub lower_is : (d : Domain) (base n : ℤ) (row : List ℕ) (from low k gone : ℕ) → IsRowSet d row base → d.lo <ℤ n → n ≤ℤ d.hi → pos from ≡ n -ℤ base → pos low ≡ d.lo -ℤ base → IsFirstAt row from k → gone ≡ row_count row low (k - 1 - low + 1) → IsLower d.lo d.hi n row base k gone
lower_is d base n row from low k gone s a b e f first g = lower d.lo d.hi n base row from low k gone s.proper s.covers a b e f first g

pub lower_fewer : (d : Domain) (base n : ℤ) (row : List ℕ) (from low k gone : ℕ) → IsRowSet d row base → d.lo <ℤ n → n ≤ℤ d.hi → pos from ≡ n -ℤ base → pos low ≡ d.lo -ℤ base → IsFirstAt row from k → gone ≡ row_count row low (k - 1 - low + 1) → gone ≤ d.size
lower_fewer d base n row from low k gone s a b e f first g =
    let u = lower_is d base n row from low k gone s a b e f first g in
    let z = u.size in let y = s.size in omega (arith, z, y)

pub lower_none : (d : Domain) (base n : ℤ) (row : List ℕ) (from : ℕ) {A : Type 0} → IsRowSet d row base → d.lo <ℤ n → n ≤ℤ d.hi → pos from ≡ n -ℤ base → IsFirst row from None → A
lower_none d base n row from {A} s b a e none = by_nat (nat_of (d.hi -ℤ base) (let c = s.covers.from in omega (arith, ints, a, b, c)))
  where
    by_nat : IsNat (d.hi -ℤ base) → A
    by_nat m =
        let w = m.is in
        let t : in_row row m.number ≡ true = sym (at_place row base d.hi m.number m.is) ∙ (high_in d.lo d.hi (row_from row base) s.proper).passes in
        let c = s.covers.to in
        let f = none m.number (omega (arith, ints, w, e, a)) (omega (arith, ints, w, c)) in
        absurd (cc)

pub whole_lower : (row : List ℕ) (d r : Domain) (n : ℤ) → IsDomain [] row d → d.holes ≡ Whole → d.lo <ℤ n → n ≤ℤ d.hi → r.lo ≡ n → r.hi ≡ d.hi → r.holes ≡ Whole → r.size ≡ set_size (bounded n d.hi (λ z. true)) → IsDomain [] row r × IsCut (λ z. int_le n z) (domain_set [] row d) (domain_set [] row r)
whole_lower row d r n i e a b el eh ew es =
    let p = subst (λ (h : Holes). IsSet (bounded d.lo d.hi (is_there [] row h))) e i.proper in
    let c = cut_below d.lo d.hi n n (λ z. true) p (omega (arith, ints, a)) (record { from = omega (arith, ints); to = b; passes = refl }) (λ z q. q.from) in
    let c2 = subst (λ (h : ℤ). IsCut (λ z. int_le n z) (bounded d.lo d.hi (λ z. true)) (bounded n h (λ z. true))) (sym eh) c in
    let c3 = subst (λ (l : ℤ). IsCut (λ z. int_le n z) (bounded d.lo d.hi (λ z. true)) (bounded l r.hi (λ z. true))) (sym el) c2 in
    let s = es ∙ ap (λ h. set_size (bounded n h (λ z. true))) (sym eh) ∙ ap (λ l. set_size (bounded l r.hi (λ z. true))) (sym el) in
    let part : IsPart (λ z. int_le n z) d r (λ z. true) = record { holes = ew ∙ sym e; cut = c3; size = s } in
    domain_part row (λ z. int_le n z) d r i (subst (λ (h : Holes). IsPart (λ z. int_le n z) d r (is_there [] row h)) (sym e) part)
