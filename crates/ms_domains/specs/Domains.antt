-- The set that a domain stands for.
use Rattle.std.specs.Prelude.{◌≡◌, ℕ, ◌*◌, ◌/◌, ◌<◌, List, [], ◌∷◌, length, slice_set, slice_index_or, Bool, true, false, not, ◌&&◌, ℤ, pos, negsuc, ◌+ℤ◌, ◌-ℤ◌, ◌≤ℤ◌, ◌<ℤ◌}
use Rattle.ms_num.specs.Numbers.{int_eq}
use Rattle.ms_num.specs.Span.{Span, IsInterval}
use Rattle.ms_num.specs.Ranges.{is_member}
use Rattle.ms_num.specs.Sets.{Set, IsSet, IsCut, set_size, set_of, lo_of, hi_of}
use Rattle.ms_domains.specs.Bounded.{bounded}
use Rattle.ms_bits.specs.Word.{has_bit}
use Rattle.ms_domains.specs.Row.{in_row}
use Rattle.ms_domains.specs.declared.domain.Holes.{Holes}
use Rattle.ms_domains.specs.declared.domain.Holes.TheVariants.{Whole, Window, Row, Listed}
use Rattle.ms_domains.specs.declared.domain.Domain.{Domain}

-- the number that is so far from the first one of a row
abbrev pub at_distance : List ℕ → ℤ → Bool
at_distance row (pos k) = in_row row k
at_distance row (negsuc k) = false

-- whether a number between the ends is there: every one; those of one word; those of the row with one word in place of
-- the one at `at`; those of a list of ranges
abbrev pub is_there : List (List Span) → List ℕ → Holes → ℤ → Bool
is_there lists row Whole z = true
is_there lists row (Window base bits) z = at_distance (bits ∷ []) (z -ℤ base)
is_there lists row (Row base at bits) z = at_distance (slice_set row at bits) (z -ℤ base)
is_there lists row (Listed place) z = is_member (slice_index_or lists place []) z

abbrev pub domain_set : List (List Span) → List ℕ → Domain → Set
domain_set lists row d = bounded d.lo d.hi (is_there lists row d.holes)

-- the numbers between the ends lie within so many words that begin at `base`
pub record Covers (base : ℤ) (words : ℕ) (lo hi : ℤ) : Type 0 where
  pub from : base ≤ℤ lo
  pub to : hi <ℤ (base +ℤ pos (64 * words))
  pub low : negsuc 1125899906842623 ≤ℤ base

-- what the representation needs to be read
abbrev pub IsReadable : List (List Span) → List ℕ → ℤ → ℤ → Holes → Type 0
IsReadable lists row lo hi Whole = Unit {0}
IsReadable lists row lo hi (Window base bits) = Covers base 1 lo hi
IsReadable lists row lo hi (Row base at bits) = Covers base (length row) lo hi × (at < length row)
IsReadable lists row lo hi (Listed place) = (place < length lists) × (lo ≡ lo_of (slice_index_or lists place [])) × (hi ≡ hi_of (slice_index_or lists place [])) × IsSet (set_of (slice_index_or lists place []))

-- the numbers of a row that begins at a number
abbrev pub row_from : List ℕ → ℤ → ℤ → Bool
row_from row base z = at_distance row (z -ℤ base)

-- the set is that of a row of words that begins at `base`
pub record IsRowSet (d : Domain) (row : List ℕ) (base : ℤ) : Type 0 where
  pub proper : IsSet (bounded d.lo d.hi (row_from row base))
  pub within : IsInterval (record { lo = d.lo; hi = d.hi })
  pub size : d.size ≡ set_size (bounded d.lo d.hi (row_from row base))
  pub covers : Covers base (length row) d.lo d.hi
  pub few : length row < 4294967296

-- the second set has the numbers of the first that pass
pub record IsPart (keep : ℤ → Bool) (d r : Domain) (there : ℤ → Bool) : Type 0 where
  pub holes : r.holes ≡ d.holes
  pub cut : IsCut keep (bounded d.lo d.hi there) (bounded r.lo r.hi there)
  pub size : r.size ≡ set_size (bounded r.lo r.hi there)

-- both ends are there and within the limits, the size is that of the set
pub record IsDomain (lists : List (List Span)) (row : List ℕ) (d : Domain) : Type 0 where
  pub proper : IsSet (domain_set lists row d)
  pub within : IsInterval (record { lo = d.lo; hi = d.hi })
  pub size : d.size ≡ set_size (domain_set lists row d)
  pub readable : IsReadable lists row d.lo d.hi d.holes

-- the second set of holes is the first with one more, a number between the ends
pub record IsHole (row : List ℕ) (d : Domain) (n : ℤ) (holes : Holes) : Type 0 where
  pub others : (z : ℤ) → d.lo ≤ℤ z → z ≤ℤ d.hi → is_there [] row holes z ≡ (is_there [] row d.holes z && not (int_eq z n))
  pub readable : IsReadable [] row d.lo d.hi holes

-- the word of a set's numbers from one on
abbrev pub IsWordOf : (ℤ → Bool) → ℤ → ℕ → Type 0
IsWordOf has base word = (k : ℕ) → k < 64 → has_bit word k ≡ has (base +ℤ pos k)

-- the domain stands for a set, whatever the row is, and whatever other lists there are
pub record StandsFor (lists : List (List Span)) (row : List ℕ) (s : Set) (d : Domain) : Type 0 where
  pub proper : IsDomain lists row d
  pub set : domain_set lists row d ≡ s

-- a row that begins with the lowest number has the numbers of the set
pub record IsFilled (lists : List (List Span)) (row : List ℕ) (d : Domain) : Type 0 where
  pub covers : d.hi <ℤ (d.lo +ℤ pos (64 * length row))
  pub same : (k : ℕ) → (d.lo +ℤ pos k) ≤ℤ d.hi → in_row row k ≡ (domain_set lists row d).has (d.lo +ℤ pos k)

-- the domain has room for the hole n: it has a word that the number lies in, or spans so few numbers that it gets one
abbrev pub HasRoom : ℤ → ℤ → ℤ → Holes → Type 0
HasRoom lo hi n Whole = hi <ℤ (lo +ℤ pos 64)
HasRoom lo hi n (Window base bits) = Unit {0}
HasRoom lo hi n (Row base at bits) = (k : ℕ) → pos k ≡ n -ℤ base → k / 64 ≡ at
HasRoom lo hi n (Listed place) = ⊥

-- the holes stand neither in a word nor in a row
abbrev pub IsFree : Holes → Type 0
IsFree Whole = Unit {0}
IsFree (Window base bits) = ⊥
IsFree (Row base at bits) = ⊥
IsFree (Listed place) = Unit {0}

-- the row has the word that stands in front of it
abbrev pub IsWritten : List ℕ → Holes → Type 0
IsWritten row Whole = Unit {0}
IsWritten row (Window base bits) = Unit {0}
IsWritten row (Row base at bits) = slice_set row at bits ≡ row
IsWritten row (Listed place) = Unit {0}
