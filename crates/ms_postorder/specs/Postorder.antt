-- The order of a depth-first search.
use Rattle.std.specs.Prelude.{◌≡◌, ℕ, suc, List, [], ◌∷◌, ◌++◌, ◌⊎◌, get_or}
use Rattle.ms_graph.specs.Graph.{Edges}

abbrev pub In : ℕ → List ℕ → Type 0
In a [] = ⊥
In a (b ∷ bs) = (a ≡ b) ⊎ In a bs

-- some nodes come one after the other, while others wait for them: the nodes that wait, what has come before, the
-- nodes, and what has come afterwards. A node that has come or waits is passed over. Before another one come those
-- that its edges lead to, in their order, and it waits for them
pub data ComeAll (g : Edges) : List ℕ → List ℕ → List ℕ → List ℕ → Type 0 where
  none : {waiting before : List ℕ} → ComeAll g waiting before [] before
  passed : {waiting before nodes after : List ℕ} {a : ℕ} → In a before ⊎ In a waiting → ComeAll g waiting before nodes after
      → ComeAll g waiting before (a ∷ nodes) after
  comes : {waiting before targets nodes after : List ℕ} {a : ℕ} → (In a before → ⊥) → (In a waiting → ⊥)
      → ComeAll g (a ∷ waiting) before (get_or g a []) targets → ComeAll g waiting (targets ++ a ∷ []) nodes after
      → ComeAll g waiting before (a ∷ nodes) after

-- the numbers of some nodes, of which the first one has this number
abbrev pub nodes_from : ℕ → Edges → List ℕ
nodes_from k [] = []
nodes_from k (targets ∷ g) = k ∷ nodes_from (suc k) g

-- all nodes come, in the order of their numbers
abbrev pub IsPostorder : Edges → List ℕ → Type 0
IsPostorder g order = ComeAll g [] [] (nodes_from 0 g) order
