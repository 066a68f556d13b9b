-- What one node of a search makes of a box, in any language of constraints.
use Rattle.std.specs.Prelude.{◌≡◌, ◌≤◌, Bool, true, List, ◌∷◌, Option, Some, None, All}
use Rattle.ms_trees.specs.declared.branching.Branching.{Branching}
use Rattle.ms_boxes.specs.Boxes.{Assignment, Box, InBox, IsBox, Covers, box_size}
use Rattle.ms_boxes.specs.Branchings.{Picks}

-- what a search knows of constraints: whether one holds on an assignment, and whether it may hold on a box, as far
-- as reasoning about the box tells
pub record Language (C : Type 0) : Type 0 where
  pub holds : Assignment → C → Bool
  pub may_hold : Box → C → Bool

-- the assignment meets the constraints
abbrev pub MeetsIn : {C : Type 0} → Language C → List C → Assignment → Type 0
MeetsIn language cons p = All (λ g. language.holds p g ≡ true) cons

-- every assignment of the first box that meets the constraints lies in the second
abbrev pub KeepsIn : {C : Type 0} → Language C → List C → Box → Box → Type 0
KeepsIn language cons b c = (p : Assignment) → InBox p b → MeetsIn language cons p → InBox p c

-- no assignment of the box meets the constraints
abbrev pub HoldsNoneIn : {C : Type 0} → Language C → List C → Box → Type 0
HoldsNoneIn language cons b = (p : Assignment) → InBox p b → MeetsIn language cons p → ⊥

-- no constraint is refuted on the box
abbrev pub NoneRefutedIn : {C : Type 0} → Language C → List C → Box → Type 0
NoneRefutedIn language cons b = All (λ g. language.may_hold b g ≡ true) cons

-- p is the one assignment of the box that meets the constraints
pub record IsOnlyIn {C : Type 0} (language : Language C) (cons : List C) (b : Box) (p : Assignment) : Type 0 where
  pub inside : InBox p b
  pub meets : MeetsIn language cons p
  pub alone : (q : Assignment) → InBox q b → MeetsIn language cons q → q ≡ p

-- the box b is narrowed to one of two assignments or more on which no constraint is refuted, and the branching
-- cuts that one into c and d
pub record SplitsIn {C : Type 0} (language : Language C) (sets : Box) (br : Branching) (cons : List C) (b c d : Box) : Type 0 where
  pub narrowed : Box
  pub proper : IsBox sets narrowed
  pub within : Covers b narrowed
  pub keeps : KeepsIn language cons b narrowed
  pub several : 2 ≤ box_size narrowed
  pub none_refuted : NoneRefutedIn language cons narrowed
  pub picks : Picks br narrowed c d

-- One node takes the first box: it is dropped, answered or split. How far it is narrowed is free.
pub data NodeIn {C : Type 0} (language : Language C) (sets : Box) (br : Branching) (cons : List C) : List Box → Option Assignment → List Box → Type 0 where
  drops : {b : Box} {rest : List Box} → HoldsNoneIn language cons b → NodeIn language sets br cons (b ∷ rest) None rest
  answers : {b : Box} {rest : List Box} {p : Assignment} → IsOnlyIn language cons b p → NodeIn language sets br cons (b ∷ rest) (Some p) rest
  splits : {b c d : Box} {rest : List Box} → SplitsIn language sets br cons b c d → NodeIn language sets br cons (b ∷ rest) None (c ∷ d ∷ rest)
