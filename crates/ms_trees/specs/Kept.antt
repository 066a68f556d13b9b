-- The first parts of a list, which are evaluated once and kept.
use Rattle.std.specs.Prelude.{ℕ, List, Option, None, ℤ, ◌≡◌, ◌<◌, length, slice_index_or}
use Rattle.ms_trees.specs.Value.{value}
use Rattle.ms_trees.specs.declared.tree.Ground.{Ground}
use Rattle.ms_trees.specs.declared.tree.Ground.TheVariants.{Undef}

-- the part at a place of the list
abbrev pub part : List Ground → ℕ → Ground
part xs k = slice_index_or xs k Undef

-- each of what is kept is the number of the part at its place
abbrev pub KeepsNumbers : List ℤ → List Ground → List (Option ℤ) → Type 0
KeepsNumbers a xs kept = (k : ℕ) → k < length kept → k < length xs → slice_index_or kept k None ≡ (value a (part xs k)).number
