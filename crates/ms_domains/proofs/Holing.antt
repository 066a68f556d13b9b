-- One more hole.
use Rattle.std.proofs.Common.{◌≡◌, ℕ, ◌-◌, ◌*◌, ◌/◌, ◌%◌, ◌<◌, refl, sym, ap, ◌∙◌, subst, arith, Bool, true, false, not, List, [], ◌∷◌, length, get_or, set, ◌⊎◌, inl, inr, ◌&&◌, w64, to_z, of_z}
use Rattle.std.specs.Prelude.{ℤ, pos, ◌+ℤ◌, ◌-ℤ◌, ◌≤ℤ◌, ◌<ℤ◌, ◌≢◌, int_le, slice_set}
use Rattle.std.proofs.lemmas.Int.{ints}
use Rattle.std.proofs.lemmas.List.{length-set, get_or-set_same, get_or-set_other}
use Rattle.std.proofs.lemmas.Nat.Bits.{bit_at_ones}
use Rattle.std.proofs.lemmas.Bool.Decides.{nat_tests}
use Rattle.std.specs.Int.{bit_at}
use Rattle.ms_num.specs.Numbers.{int_eq}
use Rattle.ms_num.specs.Sets.{IsCut}
use Rattle.ms_num.proofs.SharedSpans.{le_from, of_le, and_left, and_right}
use Rattle.ms_num.proofs.SharedCounts.{IsNat, nat_of}
use Rattle.ms_bits.specs.Word.{has_bit}
use Rattle.ms_domains.specs.Bounded.{bounded}
use Rattle.ms_domains.specs.Row.{in_row}
use Rattle.ms_domains.specs.Domains.{row_from, is_there, domain_set, Covers, IsReadable, IsDomain, IsHole}
use Rattle.ms_domains.specs.declared.domain.Holes.{Holes}
use Rattle.ms_domains.specs.declared.domain.Holes.TheVariants.{Whole, Window, Row}
use Rattle.ms_domains.specs.declared.domain.Domain.{Domain}
use Rattle.ms_domains.proofs.Parts.{both, cut_out, size_out}
use Rattle.ms_domains.proofs.Counting.{in_word}
use Rattle.ms_domains.proofs.Rows.{at_place, base_read}

eq_refl : (n : ℤ) → int_eq n n ≡ true
eq_refl n = both (int_le n n) (int_le n n) (of_le n n (omega (arith, ints))) (of_le n n (omega (arith, ints)))

eq_of : (x y : ℤ) → int_eq x y ≡ true → x ≡ y
eq_of x y e = let a = le_from x y (and_left (int_le x y) (int_le y x) e) in let b = le_from y x (and_right (int_le x y) (int_le y x) e) in omega (arith, ints, a, b)

-- one number of a row goes, and the others stay
pub record Drops (row next : List ℕ) (gone : ℕ) : Type 0 where
  pub lost : in_row next gone ≡ false
  pub others : (k : ℕ) → k < 64 * length row → k ≢ gone → in_row next k ≡ in_row row k

pub row_out : (row next : List ℕ) (base lo hi n : ℤ) (gone : ℕ) → Covers base (length row) lo hi → n -ℤ base ≡ pos gone → Drops row next gone → (z : ℤ) → lo ≤ℤ z → z ≤ℤ hi → row_from next base z ≡ (row_from row base z && not (int_eq z n))
row_out row next base lo hi n gone c e d z a b = by_nat (nat_of (z -ℤ base) (let f = c.from in omega (arith, ints, a, f)))
  where
    by_nat : IsNat (z -ℤ base) → row_from next base z ≡ (row_from row base z && not (int_eq z n))
    by_nat m = at_place next base z m.number m.is ∙ by_value (int_eq z n) refl ∙ ap (λ t. t && not (int_eq z n)) (sym (at_place row base z m.number m.is))
      where
        by_value : (t : Bool) → int_eq z n ≡ t → in_row next m.number ≡ (in_row row m.number && not (int_eq z n))
        by_value true f =
            let q = m.is in
            let s : m.number ≡ gone = same_pos (sym q ∙ ap (λ x. x -ℤ base) (eq_of z n f) ∙ e) in
            ap (in_row next) s ∙ d.lost ∙ sym (ap (λ t. in_row row m.number && not t) f ∙ none (in_row row m.number))
          where
            none : (b : Bool) → (b && false) ≡ false
            none true = refl
            none false = refl

            same_pos : {x y : ℕ} → pos x ≡ pos y → x ≡ y
            same_pos e = omega (arith, ints, e)
        by_value false f =
            let q = m.is in let t = c.to in
            d.others m.number (omega (arith, ints, q, t, b)) (λ s. differ s) ∙ sym (ap (λ t. in_row row m.number && not t) f ∙ all (in_row row m.number))
          where
            all : (b : Bool) → (b && true) ≡ b
            all true = refl
            all false = refl

            differ : m.number ≡ gone → ⊥
            differ s = let q = m.is in let zn : z ≡ n = omega (arith, ints, q, s, e) in let r : int_eq z n ≡ true = ap (λ x. int_eq x n) zn ∙ eq_refl n in cc

-- of one word
pub word_drops : (bits next gone : ℕ) → gone < 64 → has_bit next gone ≡ false → ((k : ℕ) → k < 64 → k ≢ gone → has_bit next k ≡ has_bit bits k) → Drops (bits ∷ []) (next ∷ []) gone
word_drops bits next gone l h o = record {
  lost = in_word next gone l ∙ h;
  others = λ k b d. let c : k < 64 = omega (arith, b) in in_word next k c ∙ o k c d ∙ sym (in_word bits k c);
}

-- of the word that stands in a row
pub front_drops : (row : List ℕ) (at bits next gone : ℕ) → at < length row → gone / 64 ≡ at → has_bit next (gone % 64) ≡ false → ((k : ℕ) → k < 64 → k ≢ gone % 64 → has_bit next k ≡ has_bit bits k) → Drops (set row at bits) (set row at next) gone
front_drops row at bits next gone b e h o = record {
  lost = ap (λ w. has_bit w (gone % 64)) (ap (λ i. get_or (set row at next) i 0) e ∙ get_or-set_same row at next 0 b) ∙ h;
  others = λ k l d. by_place k d (split (k / 64) at);
}
  where
    split : (i j : ℕ) → (i ≡ j) ⊎ (i ≢ j)
    split i j = grind arith

    by_place : (k : ℕ) → k ≢ gone → (k / 64 ≡ at) ⊎ (k / 64 ≢ at) → in_row (set row at next) k ≡ in_row (set row at bits) k
    by_place k d (inl s) =
        ap (λ w. has_bit w (k % 64)) (ap (λ i. get_or (set row at next) i 0) s ∙ get_or-set_same row at next 0 b)
        ∙ o (k % 64) (omega arith) (λ r. d (omega (arith, s, e, r)))
        ∙ sym (ap (λ w. has_bit w (k % 64)) (ap (λ i. get_or (set row at bits) i 0) s ∙ get_or-set_same row at bits 0 b))
    by_place k d (inr s) = ap (λ w. has_bit w (k % 64)) (get_or-set_other row at (k / 64) next 0 s ∙ sym (get_or-set_other row at (k / 64) bits 0 s))

-- ---- one more hole of each kind

readable : (row : List ℕ) (d : Domain) (h : Holes) → IsDomain [] row d → d.holes ≡ h → IsReadable [] row d.lo d.hi h
readable row d h i e = subst (λ (h : Holes). IsReadable [] row d.lo d.hi h) e i.readable

pub window_base : (row : List ℕ) (d : Domain) (base : ℤ) (bits : ℕ) → IsDomain [] row d → d.holes ≡ Window base bits → to_z w64 (of_z w64 base) ≡ base
window_base row d base bits i e = base_read base 1 d.lo d.hi i.within (readable row d (Window base bits) i e)

pub row_base : (row : List ℕ) (d : Domain) (base : ℤ) (at bits : ℕ) → IsDomain [] row d → d.holes ≡ Row base at bits → to_z w64 (of_z w64 base) ≡ base
row_base row d base at bits i e = base_read base (length row) d.lo d.hi i.within (readable row d (Row base at bits) i e).0

there_is : (row : List ℕ) (d : Domain) (h : Holes) (z : ℤ) → d.holes ≡ h → is_there [] row h z ≡ is_there [] row d.holes z
there_is row d h z e = ap (λ (x : Holes). is_there [] row x z) (sym e)

pub hole_window : (row : List ℕ) (d : Domain) (base b n : ℤ) (bits next k : ℕ) → IsDomain [] row d → d.holes ≡ Window base bits → b ≡ base → pos k ≡ n -ℤ base → d.lo <ℤ n → n <ℤ d.hi → has_bit next k ≡ false → ((j : ℕ) → j < 64 → j ≢ k → has_bit next j ≡ has_bit bits j) → IsHole row d n (Window b next)
hole_window row d base b n bits next k i e eb ek a c h o =
    let r = readable row d (Window base bits) i e in
    let t = r.to in
    let l : k < 64 = omega (arith, ints, t, ek, c) in
    let same : IsHole row d n (Window base next) = record {
      others = λ z x y. row_out (bits ∷ []) (next ∷ []) base d.lo d.hi n k r (sym ek) (word_drops bits next k l h o) z x y ∙ ap (λ q. q && not (int_eq z n)) (there_is row d (Window base bits) z e);
      readable = r;
    } in
    subst (λ (x : ℤ). IsHole row d n (Window x next)) (sym eb) same

pub hole_row : (row : List ℕ) (d : Domain) (base b n : ℤ) (at bits next k : ℕ) → IsDomain [] row d → d.holes ≡ Row base at bits → b ≡ base → pos k ≡ n -ℤ base → d.lo <ℤ n → n <ℤ d.hi → k / 64 ≡ at → has_bit next (k % 64) ≡ false → ((j : ℕ) → j < 64 → j ≢ k % 64 → has_bit next j ≡ has_bit bits j) → IsHole row d n (Row b at next)
hole_row row d base b n at bits next k i e eb ek a c s h o =
    let r = readable row d (Row base at bits) i e in
    let w : Covers base (length (slice_set row at bits)) d.lo d.hi = subst (λ (m : ℕ). Covers base m d.lo d.hi) (sym (length-set row at bits)) r.0 in
    let same : IsHole row d n (Row base at next) = record {
      others = λ z x y. row_out (set row at bits) (set row at next) base d.lo d.hi n k w (sym ek) (front_drops row at bits next k r.1 s h o) z x y ∙ ap (λ q. q && not (int_eq z n)) (there_is row d (Row base at bits) z e);
      readable = r;
    } in
    subst (λ (x : ℤ). IsHole row d n (Row x at next)) (sym eb) same

-- a word with all its numbers
pub full_bit : (k : ℕ) → k < 64 → has_bit 18446744073709551615 k ≡ true
full_bit k l = let e : bit_at 18446744073709551615 k ≡ 1 = bit_at_ones 64 k l in grind (arith, nat_tests)

pub hole_whole : (row : List ℕ) (d : Domain) (b n : ℤ) (next k : ℕ) → IsDomain [] row d → d.holes ≡ Whole → b ≡ d.lo → pos k ≡ n -ℤ d.lo → d.hi <ℤ (d.lo +ℤ pos 64) → d.lo <ℤ n → n <ℤ d.hi → has_bit next k ≡ false → ((j : ℕ) → j < 64 → j ≢ k → has_bit next j ≡ has_bit 18446744073709551615 j) → IsHole row d n (Window b next)
hole_whole row d b n next k i e eb ek f a c h o =
    let low = i.within.low in
    let r : Covers d.lo 1 d.lo d.hi = record { from = omega (arith, ints); to = omega (arith, ints, f); low = low } in
    let l : k < 64 = omega (arith, ints, ek, f, c) in
    let same : IsHole row d n (Window d.lo next) = record {
      others = λ z x y. row_out (18446744073709551615 ∷ []) (next ∷ []) d.lo d.lo d.hi n k r (sym ek) (word_drops 18446744073709551615 next k l h o) z x y ∙ ap (λ q. q && not (int_eq z n)) (whole z x y ∙ there_is row d Whole z e);
      readable = r;
    } in
    subst (λ (x : ℤ). IsHole row d n (Window x next)) (sym eb) same
  where
    whole : (z : ℤ) → d.lo ≤ℤ z → z ≤ℤ d.hi → row_from (18446744073709551615 ∷ []) d.lo z ≡ true
    whole z x y = by_nat (nat_of (z -ℤ d.lo) (omega (arith, ints, x)))
      where
        by_nat : IsNat (z -ℤ d.lo) → row_from (18446744073709551615 ∷ []) d.lo z ≡ true
        by_nat m = let q = m.is in let b : m.number < 64 = omega (arith, ints, q, y, f) in at_place (18446744073709551615 ∷ []) d.lo z m.number m.is ∙ in_word 18446744073709551615 m.number b ∙ full_bit m.number b

pub domain_hole : (row : List ℕ) (d : Domain) (n lo hi : ℤ) (holes : Holes) → IsDomain [] row d → d.lo <ℤ n → n <ℤ d.hi → (domain_set [] row d).has n ≡ true → IsHole row d n holes → lo ≡ d.lo → hi ≡ d.hi → IsDomain [] row (record { lo = lo; hi = hi; size = d.size - 1; holes = holes }) × IsCut (λ z. not (int_eq z n)) (domain_set [] row d) (domain_set [] row (record { lo = lo; hi = hi; size = d.size - 1; holes = holes }))
domain_hole row d n lo hi holes i a b h o el eh =
    let c = cut_out d.lo d.hi n (is_there [] row d.holes) (is_there [] row holes) i.proper a b o.others in
    let s = size_out (domain_set [] row d) (bounded d.lo d.hi (is_there [] row holes)) n i.proper h c in
    let z = i.size in
    let same : IsDomain [] row (record { lo = d.lo; hi = d.hi; size = d.size - 1; holes = holes }) = record { proper = c.proper; within = i.within; size = omega (arith, s, z); readable = o.readable } in (
      subst (λ (x : ℤ). IsDomain [] row (record { lo = lo; hi = x; size = d.size - 1; holes = holes })) (sym eh) (subst (λ (x : ℤ). IsDomain [] row (record { lo = x; hi = d.hi; size = d.size - 1; holes = holes })) (sym el) same),
      subst (λ (x : ℤ). IsCut (λ z. not (int_eq z n)) (domain_set [] row d) (bounded lo x (is_there [] row holes))) (sym eh) (subst (λ (x : ℤ). IsCut (λ z. not (int_eq z n)) (domain_set [] row d) (bounded x d.hi (is_there [] row holes))) (sym el) c),
    )
