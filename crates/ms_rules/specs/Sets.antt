-- Known sets of integers.
use Rattle.std.specs.Prelude.{ℤ, pos, ◌+ℤ◌, int_lt, int_le, Bool, true, false, ◌&&◌, List, [], ◌∷◌, Option, Some, None, option_map, if◌then◌else◌}
use Rattle.std.specs.Int.{int_min, int_max}
use Rattle.ms_num.specs.Numbers.{int_eq}
use Rattle.ms_num.specs.Span.{Span, point}
use Rattle.ms_num.specs.Ranges.{is_member, size_of}
use Rattle.ms_trees.specs.Value.{test}
use Rattle.ms_tree_nodes.specs.Nodes as n
use Rattle.ms_values.specs.declared.operand.Placed.{Placed}
use Rattle.ms_values.specs.declared.operand.Operand.{Operand}
use Rattle.ms_values.specs.declared.operand.Operand.TheVariants as o
use Rattle.ms_rules.specs.Operands.{is_variable, number_of, set_of, integer_of, known_number}

-- ---- ranges

-- from one number to another, and no number where the first is the greater
abbrev pub ranges_between : ℤ → ℤ → List Span
ranges_between low high = if int_le low high then record { lo = low; hi = high } ∷ [] else []

-- one range before those that follow it, with the first of them where they meet or touch
abbrev pub with_range : Span → List Span → List Span
with_range s [] = s ∷ []
with_range s (t ∷ ts) = if int_le t.lo (s.hi +ℤ pos 1) then record { lo = s.lo; hi = int_max s.hi t.hi } ∷ ts else s ∷ t ∷ ts

-- one number more
abbrev pub with_number : ℤ → List Span → List Span
with_number z [] = point z ∷ []
with_number z (s ∷ ss) =
    if int_lt (z +ℤ pos 1) s.lo then point z ∷ s ∷ ss
    else (if int_le z (s.hi +ℤ pos 1) then with_range (record { lo = int_min s.lo z; hi = int_max s.hi z }) ss
    else s ∷ with_number z ss)

-- the numbers of a list; undefined where one is
abbrev pub ranges_of : List (Option ℤ) → Option (List Span)
ranges_of [] = Some []
ranges_of (None ∷ ns) = None
ranges_of (Some z ∷ ns) = option_map (with_number z) (ranges_of ns)

-- two sets are one where they have the same ranges
abbrev pub same_ranges : List Span → List Span → Bool
same_ranges [] [] = true
same_ranges [] (t ∷ ts) = false
same_ranges (s ∷ ss) [] = false
same_ranges (s ∷ ss) (t ∷ ts) = int_eq s.lo t.lo && int_eq s.hi t.hi && same_ranges ss ts

-- ---- operations

-- an undefined set where an end is
abbrev pub between : Option ℤ → Option ℤ → Option (List Span)
between (Some low) (Some high) = Some (ranges_between low high)
between (Some low) None = None
between None high = None

abbrev pub range : Operand → Operand → Operand
range x y = o.Set (between (number_of x) (number_of y))

-- false where a part is undefined
abbrev pub is_in : Option ℤ → Option (List Span) → Bool
is_in z None = false
is_in z (Some rs) = test (is_member rs) z

abbrev pub member_of : Option (List Span) → Placed → Placed
member_of None x = n.truth_leaf false
member_of (Some rs) x = n.member rs x

abbrev pub membership : Operand → Operand → Operand
membership x s =
    if is_variable x then o.Condition (member_of (set_of s) (integer_of x))
    else o.Truth (is_in (number_of x) (set_of s))

-- how many numbers it has; none where these leave the limits
abbrev pub card : Operand → Option Operand
card x = known_number (option_map (λ rs. pos (size_of rs)) (set_of x))
