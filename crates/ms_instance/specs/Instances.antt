-- What an instance is: a model that is well typed beside a library, with its variables, constraints and values.
use Rattle.std.specs.Prelude.{ℕ, ◌<◌, ◌≤◌, All, List, map, length, sum_by}
use Rattle.ms_base.specs.declared.limits.TheConstants.{LIVE_NODE_LIMIT, TREE_NESTING_LIMIT, VARIABLE_LIMIT}
use Rattle.ms_num.specs.Span.{Span}
use Rattle.ms_num.specs.Sets.{declared_spans, set_of}
use Rattle.ms_trees.specs.Size.{size_of, nesting_of}
use Rattle.ms_trees.specs.WellFormed.{IsTruth}
use Rattle.ms_trees.specs.declared.tree.Ground.{Ground}
use Rattle.ms_typing.specs.Meaning.{Globals}
use Rattle.ms_values.specs.declared.operand.Operand.{Operand}
use Rattle.ms_instance.specs.Names.{AreDeclared}

-- the intervals of the declared sets
abbrev pub intervals_of : List (List Span) → List Span
intervals_of sets = declared_spans (map set_of sets)

-- a Boolean tree that may be asked on the declared sets, and is not too deep
pub record IsConstraint (sets : List (List Span)) (g : Ground) : Type 0 where
  pub fit : IsTruth (intervals_of sets) g
  pub shallow : nesting_of g ≤ TREE_NESTING_LIMIT

-- of the names that a model declares, with the declared set of each variable, the constraints, the variables of the branching
-- and the value of each name
pub record IsInstance (names : Globals) (sets : List (List Span)) (constraints : List Ground) (order : List ℕ) (values : List Operand) : Type 0 where
  pub few : length sets ≤ VARIABLE_LIMIT
  pub constrained : All (IsConstraint sets) constraints
  pub total : sum_by size_of constraints ≤ LIVE_NODE_LIMIT
  pub branched : All (λ v. v < length sets) order
  pub declared : AreDeclared (intervals_of sets) names values
