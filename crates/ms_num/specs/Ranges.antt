-- Sets of integers as lists of ranges.
use Rattle.std.specs.Prelude.{◌≡◌, ◌^◌, ◌+◌, Bool, true, ℕ, ℤ, pos, negsuc, ◌+ℤ◌, ◌-ℤ◌, ◌<ℤ◌, ◌≤ℤ◌, unsigned_abs, int_le, Option, Some, None, if◌then◌else◌, List, [], ◌∷◌, sum_by}
use Rattle.std.specs.Int.{int_min, int_max}
use Rattle.std.specs.List.{list_any}
use Rattle.ms_num.specs.Span.{Span, IsInterval, has}

-- the number lies in one of the ranges
abbrev pub is_member : List Span → ℤ → Bool
is_member ss z = list_any (λ s. has s z) ss

-- intervals that rise past z: between z and the first, and between each two, there is a number of none
abbrev pub RisesPast : ℤ → List Span → Type 0
RisesPast z [] = Unit {0}
RisesPast z (s ∷ ss) = (z <ℤ s.lo) × IsInterval s × RisesPast (s.hi +ℤ pos 1) ss

-- sorted intervals within -2^50..2^50 that neither meet nor touch
abbrev pub IsRanges : List Span → Type 0
IsRanges ss = RisesPast (negsuc (2 ^ 50)) ss

-- what an interval keeps of the numbers up to n, and of those from n on
abbrev pub span_at_most : ℤ → Span → Option Span
span_at_most n s = if int_le s.lo n then Some (record { lo = s.lo; hi = int_min s.hi n }) else None

abbrev pub span_at_least : ℤ → Span → Option Span
span_at_least n s = if int_le n s.hi then Some (record { lo = int_max s.lo n; hi = s.hi }) else None

-- no range passes n
abbrev pub EndAtMost : ℤ → List Span → Type 0
EndAtMost n [] = Unit {0}
EndAtMost n (s ∷ ss) = (s.hi ≤ℤ n) × EndAtMost n ss

-- two lists of ranges have the same numbers
abbrev pub SameMembers : List Span → List Span → Type 0
SameMembers ss ts = (z : ℤ) → is_member ss z ≡ is_member ts z

-- how many numbers an interval has, and how many the ranges have together
abbrev pub span_size : Span → ℕ
span_size s = unsigned_abs (s.hi -ℤ s.lo) + 1

abbrev pub size_of : List Span → ℕ
size_of ss = sum_by span_size ss

-- the least number of the ranges, and the greatest
pub record IsLowest (ss : List Span) (n : ℤ) : Type 0 where
  pub member : is_member ss n ≡ true
  pub least : (z : ℤ) → is_member ss z ≡ true → n ≤ℤ z

pub record IsHighest (ss : List Span) (n : ℤ) : Type 0 where
  pub member : is_member ss n ≡ true
  pub greatest : (z : ℤ) → is_member ss z ≡ true → z ≤ℤ n
