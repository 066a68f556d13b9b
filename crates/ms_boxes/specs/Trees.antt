-- Ground trees as the language of constraints.
use Rattle.std.specs.Prelude.{◌≡◌, true, List, Option}
use Rattle.ms_trees.specs.declared.tree.Ground.{Ground}
use Rattle.ms_trees.specs.Value.{value}
use Rattle.ms_trees.specs.Enclosure.{enclosure}
use Rattle.ms_trees.specs.WellFormed.{IsTruth}
use Rattle.ms_trees.specs.declared.branching.Branching.{Branching}
use Rattle.ms_num.specs.Sets.{spans_of, declared_spans}
use Rattle.ms_boxes.specs.Boxes.{Assignment, Box}
use Rattle.ms_boxes.specs.Nodes.{Language, MeetsIn, KeepsIn, HoldsNoneIn, NoneRefutedIn, IsOnlyIn, SplitsIn, NodeIn}

-- a constraint that may be posted: a Boolean tree that is well-formed on the declared sets
abbrev pub IsConstraint : Box → Ground → Type 0
IsConstraint sets g = IsTruth (declared_spans sets) g

-- a tree holds where its value is true, and may hold where interval reasoning does not refute it
abbrev pub ground_trees : Language Ground
ground_trees = record { holds = λ p g. (value p g).truth; may_hold = λ b g. (enclosure (spans_of b) g).may_be_true }

-- the constraint is true on the assignment
abbrev pub Holds : Assignment → Ground → Type 0
Holds p g = (value p g).truth ≡ true

abbrev pub Meets : List Ground → Assignment → Type 0
Meets = MeetsIn ground_trees

abbrev pub Keeps : List Ground → Box → Box → Type 0
Keeps = KeepsIn ground_trees

abbrev pub HoldsNone : List Ground → Box → Type 0
HoldsNone = HoldsNoneIn ground_trees

abbrev pub NoneRefuted : List Ground → Box → Type 0
NoneRefuted = NoneRefutedIn ground_trees

abbrev pub IsOnly : List Ground → Box → Assignment → Type 0
IsOnly = IsOnlyIn ground_trees

abbrev pub Splits : Box → Branching → List Ground → Box → Box → Box → Type 0
Splits = SplitsIn ground_trees

abbrev pub Node : Box → Branching → List Ground → List Box → Option Assignment → List Box → Type 0
Node = NodeIn ground_trees
