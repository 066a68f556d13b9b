-- What holds of every session while each call answers Ok, and of each of its scopes.
use Rattle.std.specs.Prelude.{◌≡◌, ◌⊎◌, ◌+◌, ◌*◌, ◌≤◌, true, List, [], ◌∷◌, ◌++◌, length, All}
use Rattle.ms_trees.specs.declared.tree.Ground.{Ground}
use Rattle.ms_trees.specs.declared.branching.Branching.{Branching}
use Rattle.ms_boxes.specs.Boxes.{IsDeclared, Each, EachPair, IsGiven, Assignment, Box, InBox, InSome, IsBox, AreDisjoint, box_size, frontier_nodes}
use Rattle.ms_boxes.specs.Branchings.{IsOrdered}
use Rattle.ms_boxes.specs.Laws.{AllBefore}
use Rattle.ms_session.specs.Scopes.{Scope, SessionState}
use Rattle.ms_boxes.specs.Trees.{Meets, IsConstraint}

-- the two assignments are not the same
abbrev pub AreDifferent : Assignment → Assignment → Type 0
AreDifferent p q = p ≡ q → ⊥

pub record IsValid (sets : Box) (br : Branching) (sc : Scope) : Type 0 where
  -- each constraint is fit for the declared sets
  pub fit : All (IsConstraint sets) sc.cons
  -- the boxes are not empty and lie in the declared sets
  pub boxes : Each (IsBox sets) sc.frontier
  -- they share no assignment with each other, nor with those given
  pub apart : EachPair AreDisjoint sc.frontier
  pub new : (p : Assignment) → IsGiven sc.given p → InSome p sc.frontier → ⊥
  -- what meets the constraints was given, or is still to be found
  pub covers : (p : Assignment) → InBox p sets → Meets sc.cons p → IsGiven sc.given p ⊎ InSome p sc.frontier
  -- what was spent, with what the boxes may take, is at most twice the number of all assignments
  pub bounded : sc.spent + frontier_nodes sc.frontier ≤ 2 * box_size sets
  -- no solution is given twice
  pub once : EachPair AreDifferent sc.given
  pub closed : sc.closed ≡ true → sc.frontier ≡ []
  pub given : (p : Assignment) → IsGiven sc.given p → InBox p sets
  -- under an ordered branching the boxes stand in order
  pub in_order : IsOrdered br → EachPair (AllBefore br) sc.frontier

-- the constraints of each scope begin with those of the one below it
pub record Extends (child parent : Scope) : Type 0 where
  pub added : List Ground
  pub is : child.cons ≡ parent.cons ++ added

abbrev pub Nested : Scope → List Scope → Type 0
Nested sc [] = Unit {0}
Nested sc (parent ∷ below) = Extends sc parent × Nested parent below

pub record IsValidSession (s : SessionState) : Type 0 where
  pub declared : Each IsDeclared s.sets
  pub scopes : Each (IsValid s.sets s.branching) (s.scope ∷ s.parents)
  pub nested : Nested s.scope s.parents
  pub depth : length s.parents + 1 ≤ 200
