-- What a search for the variables and parameters that one reads keeps.
use Rattle.std.specs.Prelude.{◌≡◌, ℕ, ◌+◌, ◌<◌, ◌≤◌, List, [], ◌∷◌, ◌⊎◌, ◌↔◌, Bool, true, false, length, get_or, eqb, if◌then◌else◌}
use Rattle.std.specs.List.Sorted.{IsStrictlyIncreasing}
use Rattle.ms_graph.specs.Graph.{Edges, HasEdge, LeadToNodes}
use Rattle.ms_postorder.specs.Postorder.{In}
use Rattle.ms_postorder.specs.Laws.{Differ}
use Rattle.ms_order.specs.declared.finder.Finder.{Finder}

abbrev pub IsFlag : List Bool → ℕ → Type 0
IsFlag flags a = get_or flags a false ≡ true

-- an edge leads to a node from the start, or from one that is met and not flagged
pub data Meets (g : Edges) (flags : List Bool) (start : ℕ) : ℕ → Type 0 where
  next : {a : ℕ} → HasEdge g start a → Meets g flags start a
  over : {f a : ℕ} → Meets g flags start f → (IsFlag flags f → ⊥) → HasEdge g f a → Meets g flags start a

-- the flagged nodes that are met from a flagged node, in the order of their numbers
pub record IsRow (g : Edges) (flags : List Bool) (start : ℕ) (row : List ℕ) : Type 0 where
  pub rises : IsStrictlyIncreasing row
  pub members : (b : ℕ) → In b row ↔ (IsFlag flags start × Meets g flags start b × IsFlag flags b)

-- ---- one search

-- of the turn in which each node was last seen: whether it was in this one
abbrev pub SeenIn : List ℕ → ℕ → ℕ → Type 0
SeenIn marks turn a = get_or marks a 0 ≡ turn

-- nodes whose edges are to be followed
abbrev pub IsInner : List Bool → ℕ → List ℕ → ℕ → ℕ → Type 0
IsInner flags start marks turn a = (a ≡ start) ⊎ (SeenIn marks turn a × (IsFlag flags a → ⊥))

-- no search is under way, and so many searches there were
pub record Rests (g : Edges) (turns : ℕ) (s : Finder) : Type 0 where
  pub leads : LeadToNodes g
  pub size : length s.marks.items ≡ length g
  pub bound : (a : ℕ) → get_or s.marks.items a 0 ≤ turns
  pub idle : s.waiting.items ≡ []
  pub none : s.found.items ≡ []

-- a search is under way, where the edges of these nodes are still to be followed
pub record FindsIn (g : Edges) (flags : List Bool) (start : ℕ) (marks : List ℕ) (turn : ℕ) (waiting found : List ℕ) (Left : ℕ → Type 0) : Type 0 where
  pub leads : LeadToNodes g
  pub size : length marks ≡ length g
  pub bound : (a : ℕ) → get_or marks a 0 ≤ turn
  pub some : 0 < turn
  pub sound : (a : ℕ) → SeenIn marks turn a → Meets g flags start a
  pub tells : (b : ℕ) → In b found ↔ (SeenIn marks turn b × IsFlag flags b)
  pub differ : Differ found
  pub waits : (a : ℕ) → In a waiting → IsInner flags start marks turn a
  pub closed : (a : ℕ) → IsInner flags start marks turn a → Left a ⊎ ((b : ℕ) → HasEdge g a b → SeenIn marks turn b)

-- where those wait on the stack
abbrev pub Finds : Edges → List Bool → ℕ → Finder → Type 0
Finds g flags start s = FindsIn g flags start s.marks.items s.turn s.waiting.items s.found.items (λ a. In a s.waiting.items)

-- where those wait on the stack, and one more
abbrev pub FindsBut : Edges → List Bool → ℕ → ℕ → Finder → Type 0
FindsBut g flags start node s = FindsIn g flags start s.marks.items s.turn s.waiting.items s.found.items (λ a. In a s.waiting.items ⊎ (a ≡ node))

abbrev pub Inner : List Bool → ℕ → Finder → ℕ → Type 0
Inner flags start s a = IsInner flags start s.marks.items s.turn a

abbrev pub Seen : Finder → ℕ → Type 0
Seen s a = SeenIn s.marks.items s.turn a

-- ---- what is left to do

abbrev pub unseen : ℕ → List ℕ → ℕ
unseen turn [] = 0
unseen turn (m ∷ ms) = (if eqb m turn then 0 else 1) + unseen turn ms

abbrev pub left : Finder → ℕ
left s = unseen s.turn s.marks.items + length s.waiting.items

-- a node is seen
pub record Visits (g : Edges) (flags : List Bool) (start node : ℕ) (old new : Finder) (target : ℕ) : Type 0 where
  pub finds : FindsBut g flags start node new
  pub seen : Seen new target
  pub stays : (a : ℕ) → Seen old a → Seen new a
  pub turn : new.turn ≡ old.turn
  pub falls : left new ≤ left old

-- the edges of a node are followed
pub record Expands (g : Edges) (flags : List Bool) (start : ℕ) (old new : Finder) : Type 0 where
  pub finds : Finds g flags start new
  pub turn : new.turn ≡ old.turn
  pub falls : left new ≤ left old

-- a search begins, and it ends
pub record Begins (g : Edges) (flags : List Bool) (start : ℕ) (new : Finder) : Type 0 where
  pub finds : Finds g flags start new
  pub turn : new.turn ≡ start + 1

pub record Ends (g : Edges) (flags : List Bool) (start : ℕ) (old new : Finder) : Type 0 where
  pub finds : Finds g flags start new
  pub idle : new.waiting.items ≡ []
  pub turn : new.turn ≡ old.turn
