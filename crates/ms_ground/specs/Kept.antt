-- The first parts of a list, which are evaluated once and kept.
use Rattle.std.specs.Prelude.{ℕ, List, false, None, true, ◌≡◌, ◌<◌, length, map, slice_index_or}
use Rattle.ms_num.specs.Span.{Span}
use Rattle.ms_trees.specs.Enclosure.{numeric_enclosure}
use Rattle.ms_trees.specs.Kept.{part}
use Rattle.ms_trees.specs.WellFormed.{are_numbers, checked}
use Rattle.ms_ground.specs.Known.{numbers_of}
use Rattle.ms_trees.specs.declared.tree.Enclosure.{Enclosure}
use Rattle.ms_trees.specs.declared.tree.Ground.{Ground}

-- each of what is kept is what the part at its place may mean
abbrev pub KeepsEnclosures : List Span → List Ground → List Enclosure → Type 0
KeepsEnclosures b xs kept = (k : ℕ) → k < length kept → k < length xs → slice_index_or kept k (numeric_enclosure None false) ≡ numbers_of b (part xs k)

-- each part is a well formed integer tree, and the first ones are kept
pub record KeepsParts (b : List Span) (xs : List Ground) (kept : List Enclosure) : Type 0 where
  pub well_formed : are_numbers (map (checked b) xs) ≡ true
  pub enclosures : KeepsEnclosures b xs kept
