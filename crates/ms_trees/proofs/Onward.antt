-- The least or the greatest of the rest of a list, after what has been read.
use Rattle.std.specs.Prelude.{List, Option, Some, None, ℤ, ◌||◌}
use Rattle.ms_num.specs.Span.{Span}
use Rattle.ms_trees.specs.Value as v
use Rattle.ms_trees.specs.Value.{Meaning}
use Rattle.ms_trees.specs.Enclosure as r
use Rattle.ms_trees.specs.declared.tree.Enclosure.{Enclosure}

-- the rest of the list after the numbers so far
abbrev pub onward : (ℤ → ℤ → Option ℤ) → Option ℤ → List Meaning → Option ℤ
onward f None ms = v.extreme f ms
onward f (Some b) ms = v.folded f (Some b) ms

-- the same of parts
abbrev pub onward_on : (Span → Span → Span) → Option Enclosure → List Enclosure → Enclosure
onward_on f None rs = r.extreme_enclosure f rs
onward_on f (Some b) rs = r.numeric_enclosure (r.folded_intervals f b.interval rs) (b.may_be_undefined || r.any_may_be_undefined rs)
