-- Boxes as lists of ranges, and what one node makes of such a box.
use Rattle.std.specs.Prelude.{◌≡◌, ℕ, ◌≤◌, true, nat_le, slice_set, Option, Some, None, if◌then◌else◌, List}
use Rattle.ms_num.specs.Span.{Span}
use Rattle.ms_trees.specs.declared.tree.Ground.{Ground}
use Rattle.ms_trees.specs.Enclosure.{enclosure}
use Rattle.ms_trees.specs.declared.branching.Branching.{Branching}
use Rattle.ms_trees.specs.declared.branching.ValueChoice.{ValueChoice}
use Rattle.ms_session.specs.declared.plain_node.BoxStep.{BoxStep}
use Rattle.ms_session.specs.declared.plain_node.BoxStep.TheVariants.{Dropped, Answered, Split}
use Rattle.ms_num.specs.Sets.{Set, IsCut, set_size}
use Rattle.ms_boxes.specs.Boxes.{box_of, Box, box_size, set_at}
use Rattle.ms_boxes.specs.Branchings.{Picks, is_tried, is_left}
use Rattle.ms_session.specs.Narrowing.{Narrows}
use Rattle.ms_boxes.specs.Trees.{HoldsNone, IsOnly, NoneRefuted}

-- of the best variable so far and the next one, that with fewer values, the first where they have as many
abbrev pub best_of : Box → Option ℕ → ℕ → ℕ
best_of b None v = v
best_of b (Some u) v = if nat_le (set_size (set_at b u)) (set_size (set_at b v)) then u else v

-- both parts of a box that is cut by a choice of the values of a variable
pub record Halves (b : Box) (variable : ℕ) (choice : ValueChoice) (c d : Box) : Type 0 where
  pub first : Set
  pub second : Set
  pub tried : IsCut (is_tried choice (set_at b variable)) (set_at b variable) first
  pub left : IsCut (is_left choice (set_at b variable)) (set_at b variable) second
  pub first_box : c ≡ slice_set b variable first
  pub second_box : d ≡ slice_set b variable second

-- the tree may be true on the box
abbrev pub MayBeTrue : List Span → Ground → Type 0
MayBeTrue spans g = (enclosure spans g).may_be_true ≡ true

-- a box of two assignments or more, on which no constraint is refuted, and both its parts
pub record Cuts (br : Branching) (cons : List Ground) (b c d : Box) : Type 0 where
  pub several : 2 ≤ box_size b
  pub none_refuted : NoneRefuted cons b
  pub picks : Picks br b c d

-- what one node makes of a box that it narrows no further
abbrev pub IsNarrowedStep : Branching → List Ground → Box → BoxStep → Type 0
IsNarrowedStep br cons b Dropped = HoldsNone cons b
IsNarrowedStep br cons b (Answered p) = IsOnly cons b p
IsNarrowedStep br cons b (Split c d) = Cuts br cons b (box_of c) (box_of d)

-- the box b, narrowed, and both its parts
pub record CutsWithin (br : Branching) (cons : List Ground) (b c d : Box) : Type 0 where
  pub narrowed : Box
  pub narrows : Narrows cons b narrowed
  pub cuts : Cuts br cons narrowed c d

-- what one node makes of the box b
abbrev pub IsBoxStep : Branching → List Ground → Box → BoxStep → Type 0
IsBoxStep br cons b Dropped = HoldsNone cons b
IsBoxStep br cons b (Answered p) = IsOnly cons b p
IsBoxStep br cons b (Split c d) = CutsWithin br cons b (box_of c) (box_of d)
