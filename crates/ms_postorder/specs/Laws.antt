-- What the order of a depth-first search is known by.
use Rattle.std.specs.Prelude.{◌≡◌, ℕ, ◌<◌, List, [], ◌∷◌, ◌++◌, ◌↔◌, ⊤, length}
use Rattle.ms_graph.specs.Graph.{Edges, HasEdge, IsOnCycle, LeadToNodes}
use Rattle.ms_postorder.specs.Postorder.{In, IsPostorder}

abbrev pub OnePostorder : Type 0
OnePostorder = (g : Edges) (one other : List ℕ) → IsPostorder g one → IsPostorder g other → one ≡ other

-- no number stands twice
abbrev pub Differ : List ℕ → Type 0
Differ [] = ⊤
Differ (a ∷ bs) = (In a bs → ⊥) × Differ bs

pub record StandOnce (g : Edges) (order : List ℕ) : Type 0 where
  pub all : (a : ℕ) → In a order ↔ (a < length g)
  pub once : Differ order

abbrev pub EachStandsOnce : Type 0
EachStandsOnce = (g : Edges) (order : List ℕ) → LeadToNodes g → IsPostorder g order → StandOnce g order

-- a number stands before another
pub record StandsBefore (order : List ℕ) (b a : ℕ) : Type 0 where
  pub before : List ℕ
  pub behind : List ℕ
  pub parts : order ≡ before ++ a ∷ behind
  pub stands : In b before

abbrev pub HasNoCycle : Edges → Type 0
HasNoCycle g = (a : ℕ) → IsOnCycle g a → ⊥

abbrev pub TargetsFirst : Type 0
TargetsFirst = (g : Edges) (order : List ℕ) → HasNoCycle g → IsPostorder g order
    → (a b : ℕ) → a < length g → HasEdge g a b → StandsBefore order b a
