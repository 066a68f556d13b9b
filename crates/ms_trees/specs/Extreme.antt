-- The least or the greatest of a list, as far as it has been read.
use Rattle.std.specs.Prelude.{Option, Some, None, ℤ, ◌||◌}
use Rattle.ms_num.specs.Numbers.{min_at, max_at}
use Rattle.ms_num.specs.Span.{Span, min_span, max_span}
use Rattle.ms_trees.specs.Enclosure as r
use Rattle.ms_trees.specs.declared.tree.Enclosure.{Enclosure}
use Rattle.ms_trees.specs.declared.extreme.Extreme.{Extreme}
use Rattle.ms_trees.specs.declared.extreme.Extreme.TheVariants.{Least, Greatest}

abbrev pub extreme_at : Extreme → ℤ → ℤ → Option ℤ
extreme_at Least = min_at
extreme_at Greatest = max_at

abbrev pub extreme_span : Extreme → Span → Span → Span
extreme_span Least = min_span
extreme_span Greatest = max_span

-- one number more, where there may be none yet
abbrev pub so_far : (ℤ → ℤ → Option ℤ) → Option ℤ → ℤ → Option ℤ
so_far f None x = Some x
so_far f (Some b) x = f b x

-- one part more
abbrev pub so_far_on : (Span → Span → Span) → Option Enclosure → Enclosure → Enclosure
so_far_on f None x = r.numeric_enclosure x.interval x.may_be_undefined
so_far_on f (Some b) x = r.numeric_enclosure (r.both_intervals f b.interval x.interval) (b.may_be_undefined || x.may_be_undefined)
