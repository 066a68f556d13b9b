-- What the code asks of ranges that hold intervals of parts.
use Rattle.std.specs.Prelude.{ℕ, List, [], ◌∷◌, Option, Some, None, Bool, false, ◌||◌, ◌&&◌, pos, ◌+ℤ◌, ◌-ℤ◌, int_le, if◌then◌else◌}
use Rattle.std.specs.List.{list_any}
use Rattle.ms_num.specs.Span.{Span}
use Rattle.ms_trees.specs.Enclosure.{compare_intervals, meets}
use Rattle.ms_trees.specs.declared.tree.Enclosure.{Enclosure}

-- the range from the lower end of s to the upper end of the other interval, where it is not empty
abbrev pub between : Span → Option Span → Option Span
between s None = None
between s (Some t) = if int_le s.lo t.hi then Some (record { lo = s.lo; hi = t.hi }) else None

-- the range has n numbers or more
abbrev pub has_many : Span → ℕ → Bool
has_many s n = int_le (pos n) (s.hi -ℤ s.lo +ℤ pos 1)

-- the interval lies within the range
abbrev pub lies_in : Span → Span → Bool
lies_in range s = int_le range.lo s.lo && int_le s.hi range.hi

-- the first may be undefined, or meets a later one
abbrev pub first_meets : List Enclosure → Bool
first_meets [] = false
first_meets (r ∷ rs) = r.may_be_undefined || list_any (λ q. compare_intervals meets r.interval q.interval) rs
