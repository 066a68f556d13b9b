-- Domains whose holes stand in no word or in no list, and rows that get their numbers.
use Rattle.std.proofs.Common.{◌≡◌, ℕ, ◌+◌, ◌*◌, ◌/◌, ◌%◌, ◌<◌, refl, sym, ap, ◌∙◌, subst, arith, ◌≤◌, Bool, true, false, ◌&&◌, ◌⊎◌, inl, inr, List, length}
use Rattle.std.specs.Prelude.{ℤ, pos, ◌+ℤ◌, ◌≤ℤ◌, ◌<ℤ◌, ◌≢◌, int_le, slice_index}
use Rattle.std.proofs.lemmas.Int.{ints}
use Rattle.std.proofs.lemmas.Nat.Bits.{bit_at_ones}
use Rattle.std.proofs.lemmas.Bool.Decides.{nat_tests}
use Rattle.std.specs.Int.{bit_at}
use Rattle.ms_num.proofs.SharedSpans.{of_le}
use Rattle.ms_num.specs.Span.{Span}
use Rattle.ms_num.specs.Sets.{Set, IsSet, set_size}
use Rattle.ms_bits.specs.Word.{has_bit}
use Rattle.ms_domains.specs.Bounded.{bounded}
use Rattle.ms_domains.specs.Row.{in_row}
use Rattle.ms_domains.specs.Domains.{is_there, domain_set, IsReadable, IsDomain, IsFilled, IsFree}
use Rattle.ms_domains.specs.declared.domain.Holes.{Holes}
use Rattle.ms_domains.specs.declared.domain.Holes.TheVariants.{Whole, Window, Row, Listed}
use Rattle.ms_domains.specs.declared.domain.Domain.{Domain}
use Rattle.ms_trail.specs.Spread.{IsUnlisted, IsRowWord}

-- ---- what is not read

pub whole_of : (h : Holes) → IsFree h → IsUnlisted h → h ≡ Whole
whole_of Whole f u = refl
whole_of (Window base bits) f u = absurd f
whole_of (Row base at bits) f u = absurd f
whole_of (Listed place) f u = absurd u

-- no list is read
pub there_unlisted : (lists more : List (List Span)) (row : List ℕ) (h : Holes) → IsUnlisted h → is_there lists row h ≡ is_there more row h
there_unlisted lists more row Whole u = refl
there_unlisted lists more row (Window base bits) u = refl
there_unlisted lists more row (Row base at bits) u = refl
there_unlisted lists more row (Listed place) u = absurd u

pub readable_unlisted : (lists more : List (List Span)) (row : List ℕ) (lo hi : ℤ) (h : Holes) → IsUnlisted h → IsReadable lists row lo hi h → IsReadable more row lo hi h
readable_unlisted lists more row lo hi Whole u r = r
readable_unlisted lists more row lo hi (Window base bits) u r = r
readable_unlisted lists more row lo hi (Row base at bits) u r = r
readable_unlisted lists more row lo hi (Listed place) u r = absurd u

-- no row is read
pub there_free : (lists : List (List Span)) (row other : List ℕ) (h : Holes) → IsFree h → is_there lists row h ≡ is_there lists other h
there_free lists row other Whole f = refl
there_free lists row other (Window base bits) f = absurd f
there_free lists row other (Row base at bits) f = absurd f
there_free lists row other (Listed place) f = refl

pub readable_free : (lists : List (List Span)) (row other : List ℕ) (lo hi : ℤ) (h : Holes) → IsFree h → IsReadable lists row lo hi h → IsReadable lists other lo hi h
readable_free lists row other lo hi Whole f r = r
readable_free lists row other lo hi (Window base bits) f r = absurd f
readable_free lists row other lo hi (Row base at bits) f r = absurd f
readable_free lists row other lo hi (Listed place) f r = r

-- the same domain, where other lists and another row say the same
pub domain_same : (lists more : List (List Span)) (row other : List ℕ) (d : Domain) → is_there lists row d.holes ≡ is_there more other d.holes → IsReadable more other d.lo d.hi d.holes → IsDomain lists row d → IsDomain more other d × (domain_set lists row d ≡ domain_set more other d)
domain_same lists more row other d e r i =
    let p : domain_set lists row d ≡ domain_set more other d = ap (bounded d.lo d.hi) e in
    (record { proper = subst (λ (s : Set). IsSet s) p i.proper; within = i.within; size = i.size ∙ ap set_size p; readable = r }, p)

pub domain_unlisted : (lists more : List (List Span)) (row : List ℕ) (d : Domain) → IsUnlisted d.holes → IsDomain lists row d → IsDomain more row d × (domain_set lists row d ≡ domain_set more row d)
domain_unlisted lists more row d u i = domain_same lists more row row d (there_unlisted lists more row d.holes u) (readable_unlisted lists more row d.lo d.hi d.holes u i.readable) i

pub domain_free : (lists : List (List Span)) (row other : List ℕ) (d : Domain) → IsFree d.holes → IsDomain lists row d → IsDomain lists other d × (domain_set lists row d ≡ domain_set lists other d)
domain_free lists row other d f i = domain_same lists lists row other d (there_free lists row other d.holes f) (readable_free lists row other d.lo d.hi d.holes f i.readable) i

-- ---- the words of a row

-- a word with all its numbers
full_bit : (k : ℕ) → k < 64 → has_bit 18446744073709551615 k ≡ true
full_bit k l = let e : bit_at 18446744073709551615 k ≡ 1 = bit_at_ones 64 k l in grind (arith, nat_tests)

-- where no number is missing
pub word_whole : (lists : List (List Span)) (row : List ℕ) (d : Domain) (i : ℕ) → IsFree d.holes → IsUnlisted d.holes → IsRowWord lists row d i 18446744073709551615
word_whole lists row d i f u k l b = full_bit k l ∙ sym (tests (int_le d.lo z) (int_le z d.hi) (is_there lists row d.holes z) (of_le d.lo z (omega (arith, ints))) (of_le z d.hi b) (ap (λ (h : Holes). is_there lists row h z) (whole_of d.holes f u)))
  where
    z : ℤ
    z = d.lo +ℤ pos (64 * i + k)

    tests : (a b c : Bool) → a ≡ true → b ≡ true → c ≡ true → (a && b && c) ≡ true
    tests a b c e f g = ap (λ x. x && b && c) e ∙ ap (λ x. x && c) f ∙ g

-- the numbers from that word on, as they are counted
pub word_counted : (lists : List (List Span)) (row : List ℕ) (d : Domain) (i word : ℕ) (base : ℤ) → base ≡ d.lo +ℤ pos (64 * i) → ((k : ℕ) → k < 64 → has_bit word k ≡ (domain_set lists row d).has (base +ℤ pos k)) → IsRowWord lists row d i word
word_counted lists row d i word base e h k l b = h k l ∙ ap (domain_set lists row d).has (ap (λ z. z +ℤ pos k) e ∙ further d.lo i k)
  where
    further : (lo : ℤ) (i k : ℕ) → (lo +ℤ pos (64 * i)) +ℤ pos k ≡ lo +ℤ pos (64 * i + k)
    further lo i k = omega (arith, ints)

-- the row has the numbers of the set, where each word that is needed does
pub filled_by_words : (lists : List (List Span)) (row old : List ℕ) (d : Domain) (words : ℕ) → domain_set lists old d ≡ domain_set lists row d → d.hi <ℤ (d.lo +ℤ pos (64 * length row)) → d.hi <ℤ (d.lo +ℤ pos (64 * words)) → ((i : ℕ) → i < words → IsRowWord lists old d i (slice_index row i)) → IsFilled lists row d
filled_by_words lists row old d words q c r h = record { covers = c; same = λ k b. same k b }
  where
    parts : (k : ℕ) → 64 * (k / 64) + k % 64 ≡ k
    parts k = omega arith

    rest : (k : ℕ) → k % 64 < 64
    rest k = omega arith

    block : (k : ℕ) → (d.lo +ℤ pos k) ≤ℤ d.hi → k / 64 < words
    block k b = omega (arith, ints, b, r)

    same : (k : ℕ) → (d.lo +ℤ pos k) ≤ℤ d.hi → in_row row k ≡ (domain_set lists row d).has (d.lo +ℤ pos k)
    same k b =
        let e : d.lo +ℤ pos (64 * (k / 64) + k % 64) ≡ d.lo +ℤ pos k = ap (λ n. d.lo +ℤ pos n) (parts k) in
        let l : (d.lo +ℤ pos (64 * (k / 64) + k % 64)) ≤ℤ d.hi = subst (λ (z : ℤ). z ≤ℤ d.hi) (sym e) b in
        h (k / 64) (block k b) (k % 64) (rest k) l ∙ ap (domain_set lists old d).has e ∙ ap (λ (s : Set). s.has (d.lo +ℤ pos k)) q

-- one more number of a word
pub word_known : (p : ℤ → Bool) (base : ℤ) (bits next k : ℕ) (there : Bool) → ((j : ℕ) → j < k → has_bit bits j ≡ p (base +ℤ pos j)) → there ≡ p (base +ℤ pos k) → has_bit next k ≡ there → ((j : ℕ) → j ≢ k → has_bit next j ≡ has_bit bits j) → (j : ℕ) → j < k + 1 → has_bit next j ≡ p (base +ℤ pos j)
word_known p base bits next k there known e at others j b = by_place (split j b)
  where
    split : (j : ℕ) → j < k + 1 → (j < k) ⊎ (j ≡ k)
    split j b = grind (arith, b)

    by_place : (j < k) ⊎ (j ≡ k) → has_bit next j ≡ p (base +ℤ pos j)
    by_place (inl c) = others j (λ q. absurd (omega (arith, c, q))) ∙ known j c
    by_place (inr q) = ap (has_bit next) q ∙ at ∙ e ∙ ap (λ (n : ℕ). p (base +ℤ pos n)) (sym q)

pub word_rest : (bits next k : ℕ) → ((j : ℕ) → k ≤ j → has_bit bits j ≡ false) → ((j : ℕ) → j ≢ k → has_bit next j ≡ has_bit bits j) → (j : ℕ) → k + 1 ≤ j → has_bit next j ≡ false
word_rest bits next k rest others j b = others j (λ q. absurd (omega (arith, b, q))) ∙ rest j (omega (arith, b))
