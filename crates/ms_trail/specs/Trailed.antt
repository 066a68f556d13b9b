-- What a trail keeps.
use Rattle.std.specs.Prelude.{◌≡◌, ℕ, ◌<◌, ◌≤◌, max, List, [], ◌++◌, length, take, slice_get, slice_index, slice_index_or, slice_set, Some, map, ℤ, pos}
use Rattle.std.specs.List.{All}
use Rattle.ms_num.specs.Span.{Span}
use Rattle.ms_num.specs.Sets.{Set, set_of}
use Rattle.ms_cells.specs.Cells.{Lists}
use Rattle.ms_cells.specs.Rows.{pairs, full_rows}
use Rattle.ms_domains.specs.declared.domain.Domain.{Domain}
use Rattle.ms_domains.specs.declared.domain.Holes.TheVariants.{Whole}
use Rattle.ms_domains.specs.Domains.{domain_set, IsDomain, StandsFor, HasRoom}
use Rattle.ms_store.specs.Stored.{set_at, lists_of}
use Rattle.ms_trail.specs.Spread.{IsRowWord}

-- of each variable a domain and a row of words, now and in the saved lists; the lists of ranges; of each mark how many of
-- these there were; how many of them stay whatever ends
pub record Trailed : Type 0 where
  pub cells : Lists (Domain × List ℕ)
  pub ranges : List (List Span)
  pub kept : List ℕ
  pub fixed : ℕ

abbrev pub slot_set : List (List Span) → Domain × List ℕ → Set
slot_set ranges s = domain_set ranges s.1 s.0

abbrev pub IsSlot : List (List Span) → Domain × List ℕ → Type 0
IsSlot ranges s = IsDomain ranges s.1 s.0

-- the sets that it stands for
abbrev pub sets_of : Trailed → Lists Set
sets_of t = lists_of (slot_set t.ranges) t.cells

-- how many lists of ranges the saved list of a mark may name
abbrev pub named : Trailed → ℕ → ℕ
named t k = max (slice_index t.kept k) t.fixed

pub record IsTrailed (t : Trailed) : Type 0 where
  pub count : length t.kept ≡ length t.cells.saved
  pub few : t.fixed ≤ length t.ranges
  pub within : (k : ℕ) → k < length t.kept → slice_index t.kept k ≤ length t.ranges
  pub rising : (j k : ℕ) → j ≤ k → k < length t.kept → slice_index t.kept j ≤ slice_index t.kept k
  pub current : All (IsSlot t.ranges) t.cells.current
  pub saved : (k : ℕ) (s : List (Domain × List ℕ)) → slice_get t.cells.saved k ≡ Some s → All (IsSlot (take (named t k) t.ranges)) s

-- ---- one variable

abbrev pub no_slot : Domain × List ℕ
no_slot = (record { lo = pos 0; hi = pos 0; size = 1; holes = Whole }, [])

abbrev pub slot_at : Trailed → ℕ → Domain × List ℕ
slot_at t v = slice_index_or t.cells.current v no_slot

-- the variable's domain and row, and the set that they stand for
pub record IsAt (t : Trailed) (v : ℕ) (d : Domain) (row : List ℕ) : Type 0 where
  pub slot : slot_at t v ≡ (d, row)
  pub proper : IsDomain t.ranges row d
  pub set : set_at (sets_of t) v ≡ domain_set t.ranges row d

-- the same, with another domain and row for one variable
abbrev pub written : Trailed → ℕ → Domain × List ℕ → Trailed
written t v s = record t { cells = record t.cells { current = slice_set t.cells.current v s } }

-- the variable's set in another domain, which has room for a hole at n
pub record IsRoomy (t : Trailed) (v : ℕ) (n : ℤ) (d : Domain) : Type 0 where
  pub stands : StandsFor [] (slot_at t v).1 (set_at (sets_of t) v) d
  pub room : HasRoom d.lo d.hi n d.holes

-- one word of the variable's row is that of its set
pub record FillsWord (t u : Trailed) (v : ℕ) (d : Domain) (i : ℕ) : Type 0 where
  pub word : ℕ
  pub written : u ≡ written t v (d, slice_set (slot_at t v).1 i word)
  pub filled : IsRowWord t.ranges (slot_at t v).1 d i word

-- ---- more lists of ranges

-- the second has the lists of the first and more, of which as many stay or more
pub record Extends (t u : Trailed) : Type 0 where
  pub more : List (List Span)
  pub ranges : u.ranges ≡ t.ranges ++ more
  pub cells : u.cells ≡ t.cells
  pub kept : u.kept ≡ t.kept
  pub fixed : t.fixed ≤ u.fixed

-- domains of many sets with rows of so many words in which every number is, by lists of ranges that stay
pub record AreMade (t : Trailed) (sets : List (List Span)) (ds : List Domain) (ns : List ℕ) : Type 0 where
  pub domains : length ds ≡ length sets
  pub words : length ns ≡ length sets
  pub slots : All (IsSlot (take t.fixed t.ranges)) (pairs ds (full_rows ns))
  pub seen : map (slot_set t.ranges) (pairs ds (full_rows ns)) ≡ map set_of sets
