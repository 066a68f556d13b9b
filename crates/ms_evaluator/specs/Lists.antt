-- What a node over a list may mean, from what its parts may mean; none where an interval leaves the limits.
use Rattle.std.specs.Prelude.{ℕ, List, Option, Some, ◌||◌, ◌/◌, ℤ, pos, length}
use Rattle.ms_num.specs.Span.{Span, add_span, point}
use Rattle.ms_trees.specs.Enclosure.{numeric_enclosure, folded_intervals, any_may_be_undefined, extreme_enclosure, selected_enclosure, counted_enclosure, is_reached, is_reached2, leaves}
use Rattle.ms_trees.specs.WellFormed.{sums_fit}
use Rattle.ms_trees.specs.declared.tree.Enclosure.{Enclosure}
use Rattle.ms_ground.specs.Known.{known, within_limits}

-- the sum, tested after each addition
abbrev pub total : List Enclosure → Option Enclosure
total ps = known (sums_fit (Some (point (pos 0))) ps) (numeric_enclosure (folded_intervals add_span (Some (point (pos 0))) ps) (any_may_be_undefined ps))

-- the least or the greatest, by the operation on two intervals
abbrev pub extreme : (Span → Span → Span) → List Enclosure → Option Enclosure
extreme f ps = within_limits (extreme_enclosure f ps)

-- the element of an index, where the first has the lowest
abbrev pub element : ℤ → List Enclosure → Enclosure → Option Enclosure
element low ps i = within_limits (selected_enclosure (is_reached low i.interval) (i.may_be_undefined || leaves low (length ps) i.interval) ps)

-- the element of a row and a column, in whole rows of the width
abbrev pub element_of_grid : ℤ → ℤ → ℕ → List Enclosure → Enclosure → Enclosure → Option Enclosure
element_of_grid k l w ps i j =
    within_limits (selected_enclosure (is_reached2 k l w (length ps) i.interval j.interval) (i.may_be_undefined || j.may_be_undefined || leaves k (length ps / w) i.interval || leaves l w j.interval) ps)

-- how many are the number
abbrev pub count : List Enclosure → Enclosure → Option Enclosure
count ps y = within_limits (counted_enclosure ps y)
