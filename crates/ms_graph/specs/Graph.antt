-- Graphs, and what is on a cycle.
use Rattle.std.specs.Prelude.{◌≡◌, ℕ, ◌<◌, List, [], Option, Some, Bool, true, IsTrue, ◌↔◌, false, length, slice_get, get_or}

-- for each node, by its number, the nodes that its edges lead to
abbrev pub Edges : Type 0
Edges = List (List ℕ)

-- where the k-th edge of a node leads
abbrev pub ending : Edges → ℕ → ℕ → Option ℕ
ending g a k = slice_get (get_or g a []) k

abbrev pub HasEdge : Edges → ℕ → ℕ → Type 0
HasEdge g a b = (k : ℕ) × (ending g a k ≡ Some b)

-- a leads to b by one edge or more
pub data Leads (g : Edges) : ℕ → ℕ → Type 0 where
  edge : {a b : ℕ} → HasEdge g a b → Leads g a b
  onward : {a b c : ℕ} → HasEdge g a b → Leads g b c → Leads g a c

abbrev pub IsOnCycle : Edges → ℕ → Type 0
IsOnCycle g a = Leads g a a

-- each edge leads to a node
abbrev pub LeadToNodes : Edges → Type 0
LeadToNodes g = (a b : ℕ) → HasEdge g a b → b < length g

-- for each node whether it is on a cycle
abbrev pub TellsCycles : Edges → List Bool → Type 0
TellsCycles g found =
    (length found ≡ length g)
    × ((a : ℕ) → a < length g → (get_or found a false ≡ true) ↔ IsOnCycle g a)
