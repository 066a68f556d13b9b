-- The numbers of a set, in ascending order.
use Rattle.std.specs.Prelude.{ℕ, zero, suc, ◌+◌, ◌-◌, ◌^◌, ℤ, pos, negsuc, ◌+ℤ◌, ◌-ℤ◌, ◌≤ℤ◌, unsigned_abs, List, [], ◌∷◌, ◌++◌}
use Rattle.ms_num.specs.Span.{Span}

-- so many numbers, from the first on
abbrev pub from : ℤ → ℕ → List ℤ
from first zero = []
from first (suc n) = first ∷ from (first +ℤ pos 1) n

-- those of an interval that is not empty
abbrev pub numbers_in : Span → List ℤ
numbers_in s = s.lo ∷ from (s.lo +ℤ pos 1) (unsigned_abs (s.hi -ℤ s.lo))

-- those of a set, range by range
abbrev pub numbers_of : List Span → List ℤ
numbers_of [] = []
numbers_of (s ∷ ss) = numbers_in s ++ numbers_of ss

-- so many numbers, from the first on, are within -2^50..2^50
pub record HasRoom (first : ℤ) (n : ℕ) : Type 0 where
  pub low : negsuc (2 ^ 50 - 1) ≤ℤ first
  pub high : (first +ℤ pos n) ≤ℤ pos (2 ^ 50 + 1)
