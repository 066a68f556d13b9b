-- Which list has a domain's holes, and the words of a row that has the numbers of its set.
use Rattle.std.specs.Prelude.{◌≡◌, ℕ, Option, Some, None, ◌+◌, ◌*◌, ◌<◌, List, pos, ◌+ℤ◌, ◌≤ℤ◌}
use Rattle.ms_num.specs.Span.{Span}
use Rattle.ms_bits.specs.Word.{has_bit}
use Rattle.ms_domains.specs.declared.domain.Domain.{Domain}
use Rattle.ms_domains.specs.declared.domain.Holes.{Holes}
use Rattle.ms_domains.specs.declared.domain.Holes.TheVariants.{Whole, Window, Row, Listed}
use Rattle.ms_domains.specs.Domains.{domain_set}

-- the holes stand in no list of ranges
abbrev pub IsUnlisted : Holes → Type 0
IsUnlisted Whole = Unit {0}
IsUnlisted (Window base bits) = Unit {0}
IsUnlisted (Row base at bits) = Unit {0}
IsUnlisted (Listed place) = ⊥

-- the place of the list that they stand in, if they do
abbrev pub IsPlaceOf : Holes → Option ℕ → Type 0
IsPlaceOf holes (Some place) = holes ≡ Listed place
IsPlaceOf holes None = IsUnlisted holes

-- the word has the numbers of the set at i of a row that begins with the lowest number, up to the greatest
abbrev pub IsRowWord : List (List Span) → List ℕ → Domain → ℕ → ℕ → Type 0
IsRowWord lists row d i word = (k : ℕ) → k < 64 → (d.lo +ℤ pos (64 * i + k)) ≤ℤ d.hi → has_bit word k ≡ (domain_set lists row d).has (d.lo +ℤ pos (64 * i + k))
