-- Scopes: what one node does, `next` as nodes that follow each other, entering and leaving.
use Rattle.std.specs.Prelude.{◌≡◌, ℕ, ◌+◌, ◌^◌, ◌<◌, Bool, true, false, List, [], ◌∷◌, ◌++◌, Option, Some, None, sum_by}
use Rattle.ms_trees.specs.declared.tree.Ground.{Ground}
use Rattle.ms_trees.specs.Size.{size_of}
use Rattle.ms_trees.specs.declared.branching.Branching.{Branching}
use Rattle.ms_session.specs.declared.budget.Frame.{Frame}
use Rattle.ms_session.specs.declared.session.Step.{Step}
use Rattle.ms_session.specs.declared.session.Step.TheVariants.{Found, NoneLeft, Spent}
use Rattle.ms_boxes.specs.Trees.{Keeps, HoldsNone, Node}
use Rattle.ms_session.specs.Frames.{empty_frame, spend_one, spend_many, outer_left}
use Rattle.ms_boxes.specs.Boxes.{Assignment, Box, IsBox}

-- the constraints, the solutions given in their order, the boxes still to be searched, the nodes spent, and
-- whether the search has come to its end
pub record Scope : Type 0 where
  pub cons : List Ground
  pub given : List Assignment
  pub frontier : List Box
  pub spent : ℕ
  pub closed : Bool

-- what a session is: the declared sets and the branching, which no call changes, the current scope, the scopes
-- below it, the nearest first, and whether memory was refused
pub record SessionState : Type 0 where
  pub sets : Box
  pub branching : Branching
  pub scope : Scope
  pub parents : List Scope
  pub failed : Bool

-- the last solution given
abbrev pub last_of : List Assignment → Option Assignment
last_of [] = None
last_of (p ∷ []) = Some p
last_of (p ∷ q ∷ ps) = last_of (q ∷ ps)

-- the size of all constraints together
abbrev pub live_nodes : List Ground → ℕ
live_nodes cons = sum_by size_of cons

-- a scope after a node that has not answered
abbrev pub after_node : Scope → List Box → Scope
after_node sc fs = record sc { frontier = fs; spent = sc.spent + 1 }

-- a scope after a node
abbrev pub scope_after : Scope → List Box → Option Assignment → Scope
scope_after sc fs None = after_node sc fs
scope_after sc fs (Some p) = record (after_node sc fs) { given = sc.given ++ p ∷ [] }

-- another scope in place of the current one
abbrev pub with_scope : SessionState → Scope → SessionState
with_scope s sc = record s { scope = sc }

-- one node in the current scope
pub record NodeGives (old : SessionState) (answer : Option Assignment) (now : SessionState) : Type 0 where
  pub frontier : List Box
  pub node : Node (old.sets) (old.branching) (old.scope.cons) (old.scope.frontier) answer frontier
  pub is : now ≡ with_scope old (scope_after (old.scope) frontier answer)

-- Nodes follow each other until the first of three is found: an answer, an empty frontier, or a frame of which
-- nothing is left while there is a box. Each node is taken from each frame.
pub data Next (sets : Box) (br : Branching) : Scope → List Frame → Step → Scope → List Frame → Type 0 where
  none_left : {sc : Scope} {fr : List Frame} → sc.frontier ≡ [] → Next sets br sc fr NoneLeft (record sc { closed = true }) fr
  stops : {sc : Scope} {fr : List Frame} {b : Box} {rest : List Box} {k : ℕ} → sc.frontier ≡ b ∷ rest → empty_frame fr ≡ Some k → Next sets br sc fr Spent sc fr
  gives : {sc : Scope} {fr : List Frame} {p : Assignment} {fs : List Box} → empty_frame fr ≡ None → Node sets br sc.cons sc.frontier (Some p) fs → Next sets br sc fr (Found p) (scope_after sc fs (Some p)) (spend_one fr)
  goes_on : {sc sc' : Scope} {fr fr' : List Frame} {a : Step} {fs : List Box} → empty_frame fr ≡ None → Node sets br sc.cons sc.frontier None fs → Next sets br (after_node sc fs) (spend_one fr) a sc' fr' → Next sets br sc fr a sc' fr'

-- the nodes spent in the scope cannot leave 64 bits
abbrev pub HasRoom : List Frame → Scope → Type 0
HasRoom fr sc = sc.spent + outer_left fr < 2 ^ 64

-- at most one box, which holds every assignment that meets the constraints
abbrev pub Opens : Box → List Ground → List Box → Type 0
Opens sets cons [] = HoldsNone cons sets
Opens sets cons (b ∷ []) = IsBox sets b × Keeps cons sets b
Opens sets cons (b ∷ c ∷ bs) = ⊥

-- a scope in which nothing was given or spent yet, with these constraints
pub record IsFresh (sets : Box) (constraints : List Ground) (sc : Scope) : Type 0 where
  pub cons : sc.cons ≡ constraints
  pub given : sc.given ≡ []
  pub spent : sc.spent ≡ 0
  pub closed : sc.closed ≡ false
  pub opens : Opens sets constraints sc.frontier

-- a session with one fresh scope
pub record IsOpening (declared : Box) (br : Branching) (constraints : List Ground) (s : SessionState) : Type 0 where
  pub sets : s.sets ≡ declared
  pub branching : s.branching ≡ br
  pub scope : IsFresh declared constraints s.scope
  pub parents : s.parents ≡ []
  pub failed : s.failed ≡ false

-- a fresh scope stands above the current one, with its constraints
pub record Enters (old new : SessionState) : Type 0 where
  pub child : Scope
  pub fresh : IsFresh old.sets old.scope.cons child
  pub is : new ≡ record old { scope = child; parents = old.scope ∷ old.parents }

-- the current scope is gone; the nearest below it is the current one, as it was
pub record Leaves (old new : SessionState) : Type 0 where
  pub parent : Scope
  pub below : List Scope
  pub stood : old.parents ≡ parent ∷ below
  pub is : new ≡ record old { scope = parent; parents = below }

-- one constraint joins the current scope, behind the others
abbrev pub with_constraint : SessionState → Ground → SessionState
with_constraint s g = with_scope s (record (s.scope) { cons = s.scope.cons ++ g ∷ [] })

-- the current scope takes nodes until there is an answer
pub record NextGives (old : SessionState) (before : List Frame) (step : Step) (new : SessionState) (after : List Frame) : Type 0 where
  pub scope : Scope
  pub next : Next old.sets old.branching old.scope before step scope after
  pub is : new ≡ with_scope old scope

-- after want of memory: failed, and all but the current scope as before
pub record Breaks (old new : SessionState) : Type 0 where
  pub scope : Scope
  pub is : new ≡ record old { scope = scope; failed = true }

-- the frames have lost some nodes, and are else as before
pub record Loses (before after : List Frame) : Type 0 where
  pub nodes : ℕ
  pub is : after ≡ spend_many nodes before
