-- The small models by which sessions are tried.
use Rattle.std.specs.Prelude.{◌≡◌, List, [], ◌∷◌, pos}
use Rattle.ms_num.specs.Span.{Span}
use Rattle.ms_trees.specs.declared.tree.Ground.{Ground}
use Rattle.ms_trees.specs.WellFormed.{IsTruth}
use Rattle.ms_session.specs.declared.budget.Frame.{Frame}
use Rattle.ms_session.specs.Scopes.{SessionState}
use Rattle.ms_boxes.specs.Trees.{IsConstraint}
use Rattle.ms_session.specs.Laws.{AllHaveRoom}

-- one variable of 1..4
abbrev pub line : List Span
line = record { lo = pos 1; hi = pos 4 } ∷ []

-- two variables of 0..3
abbrev pub square : List Span
square = record { lo = pos 0; hi = pos 3 } ∷ record { lo = pos 0; hi = pos 3 } ∷ []

-- what is fit on these intervals may be posted to the session
abbrev pub Admits : List Span → SessionState → Type 0
Admits spans s = (g : Ground) → IsTruth spans g → IsConstraint s.sets g

-- a call that takes no nodes
pub record IsFree (old new : SessionState) : Type 0 where
  pub room : (fr : List Frame) → AllHaveRoom fr old → AllHaveRoom fr new
  pub sets : new.sets ≡ old.sets
