-- What a split leads to, in any language of constraints, and what ground trees are on boxes.
use Rattle.std.specs.Prelude.{◌⊎◌, ◌+◌, ◌≤◌, List, length, All, Any}
use Rattle.ms_trees.specs.declared.tree.Ground.{Ground}
use Rattle.ms_trees.specs.WellFormed.{IsTruth}
use Rattle.ms_trees.specs.Laws.{IsRefuted}
use Rattle.ms_trees.specs.declared.branching.Branching.{Branching}
use Rattle.ms_num.specs.Sets.{spans_of}
use Rattle.ms_boxes.specs.Boxes.{Each, Assignment, Box, InBox, IsBox, IsProper, IsDeclared, Covers, AreDisjoint, box_size}
use Rattle.ms_boxes.specs.Trees.{IsConstraint, HoldsNone}
use Rattle.ms_boxes.specs.Branchings.{IsOrdered, Before, comparison_order}
use Rattle.ms_boxes.specs.Nodes.{Language, MeetsIn, SplitsIn}

-- each assignment of the first box comes before each of the second
abbrev pub AllBefore : Branching → Box → Box → Type 0
AllBefore br b c = (p q : Assignment) → InBox p b → InBox q c → Before (comparison_order br (length b)) p q

-- both parts are boxes within the one that is split, they share no assignment, and none that meets the constraints
-- is lost
pub record Parts {C : Type 0} (language : Language C) (sets : Box) (cons : List C) (b c d : Box) : Type 0 where
  pub left_box : IsBox sets c
  pub right_box : IsBox sets d
  pub left_in : Covers b c
  pub right_in : Covers b d
  pub apart : AreDisjoint c d
  pub keeps : (p : Assignment) → InBox p b → MeetsIn language cons p → InBox p c ⊎ InBox p d
  pub sizes : box_size c + box_size d ≤ box_size b

abbrev pub SplitsGiveParts : Type 0 → Type 0
SplitsGiveParts C = (language : Language C) (sets : Box) (br : Branching) (cons : List C) (b c d : Box) → IsBox sets b → SplitsIn language sets br cons b c d → Parts language sets cons b c d

-- under an ordered branching the part that is tried comes first
abbrev pub PartsStandInOrder : Type 0 → Type 0
PartsStandInOrder C = (language : Language C) (sets : Box) (br : Branching) (cons : List C) (b c d : Box) → IsBox sets b → SplitsIn language sets br cons b c d → IsOrdered br → AllBefore br c d

-- ---- ground trees on boxes

-- what is a constraint for the declared sets is well-formed on each box of them
abbrev pub ConstraintsFitBoxes : Type 0
ConstraintsFitBoxes = (sets b : Box) → Each IsDeclared sets → IsBox sets b → (g : Ground) → IsConstraint sets g → IsTruth (spans_of b) g

-- where interval reasoning refutes a constraint on a box, no assignment of the box meets them all
abbrev pub RefutedHoldsNone : Type 0
RefutedHoldsNone = (b : Box) (cons : List Ground) → IsProper b → All (IsTruth (spans_of b)) cons → Any (IsRefuted (spans_of b)) cons → HoldsNone cons b
