-- Scopes as the plain session stores them: the boxes as lists of ranges, the first one last.
use Rattle.std.specs.Prelude.{◌≡◌, ℕ, ◌+◌, ◌≤◌, Bool, false, List, [], ◌∷◌, ◌++◌, map, reverse, length, take, Option, Some, None, All}
use Rattle.ms_num.specs.Span.{Span}
use Rattle.ms_trees.specs.declared.tree.Ground.{Ground}
use Rattle.ms_trees.specs.declared.branching.Branching.{Branching}
use Rattle.ms_session.specs.declared.plain_node.BoxStep.{BoxStep}
use Rattle.ms_session.specs.declared.plain_node.BoxStep.TheVariants.{Dropped, Answered, Split}
use Rattle.ms_session.specs.declared.plain_scope.PlainScope.{PlainScope}
use Rattle.ms_session.specs.declared.plain_scope.Parent.{Parent}
use Rattle.ms_boxes.specs.Boxes.{Assignment, Box, Each, InBox, IsBox, box_of, IsProper, IsDeclared}
use Rattle.ms_session.specs.Scopes.{Scope, SessionState, live_nodes, with_scope}
use Rattle.ms_boxes.specs.Trees.{IsConstraint}

-- the boxes of a frontier, where the first one stands last
abbrev pub frontier_of : List (List (List Span)) → List Box
frontier_of boxes = map box_of (reverse boxes)

pub record StoredScope : Type 0 where
  pub given : List Assignment
  pub boxes : List (List (List Span))
  pub spent : ℕ
  pub closed : Bool

-- a scope below the current one, and how many constraints it has
pub record StoredParent : Type 0 where
  pub scope : StoredScope
  pub posted : ℕ

-- what a plain session stores: one list of constraints, those of the current scope, and the scopes below it, the
-- nearest first
pub record Stored : Type 0 where
  pub sets : List (List Span)
  pub branching : Branching
  pub constraints : List Ground
  pub scope : StoredScope
  pub parents : List StoredParent
  pub failed : Bool

abbrev pub stored_of : PlainScope → StoredScope
stored_of sc = record { given = sc.given.items; boxes = sc.boxes.items; spent = sc.spent; closed = sc.closed }

abbrev pub parent_of : Parent → StoredParent
parent_of p = record { scope = stored_of p.scope; posted = p.posted }

-- a scope with these constraints
abbrev pub scope_of : List Ground → StoredScope → Scope
scope_of cons sc = record { cons = cons; given = sc.given; frontier = frontier_of sc.boxes; spent = sc.spent; closed = sc.closed }

-- the scopes below one with these constraints, each with the first of those of the scope above it
abbrev pub scopes_below : List Ground → List StoredParent → List Scope
scopes_below cons [] = []
scopes_below cons (p ∷ ps) = scope_of (take p.posted cons) p.scope ∷ scopes_below (take p.posted cons) ps

-- the session that is stored so
abbrev pub state_of : Stored → SessionState
state_of s = record { sets = box_of s.sets; branching = s.branching; scope = scope_of s.constraints s.scope; parents = scopes_below s.constraints s.parents; failed = s.failed }

-- no assignment lies in the box
abbrev pub IsVoid : Box → Type 0
IsVoid b = (p : Assignment) → InBox p b → ⊥

-- the boxes with which a scope begins: that of the declared sets, unless one of these is empty
abbrev pub AreOpening : List (List Span) → List (List (List Span)) → Type 0
AreOpening sets [] = IsVoid (box_of sets)
AreOpening sets (b ∷ []) = (b ≡ sets) × IsProper (box_of sets)
AreOpening sets (b ∷ c ∷ bs) = ⊥

pub record IsOpened (sets : List (List Span)) (live : ℕ) (sc : PlainScope) : Type 0 where
  pub live_is : sc.live ≡ live
  pub given : sc.given.items ≡ []
  pub boxes : AreOpening sets sc.boxes.items
  pub spent : sc.spent ≡ 0
  pub closed : sc.closed ≡ false

-- ---- what a node leaves

abbrev pub answer_of : BoxStep → Option Assignment
answer_of Dropped = None
answer_of (Answered p) = Some p
answer_of (Split c d) = None

abbrev pub given_after : BoxStep → List Assignment → List Assignment
given_after Dropped given = given
given_after (Answered p) given = given ++ p ∷ []
given_after (Split c d) given = given

abbrev pub boxes_after : BoxStep → List (List (List Span)) → List (List (List Span))
boxes_after Dropped boxes = boxes
boxes_after (Answered p) boxes = boxes
boxes_after (Split c d) boxes = (boxes ++ d ∷ []) ++ c ∷ []

-- what was made of a box is put in its place
pub record Applies (old : PlainScope) (taken : BoxStep) (answer : Option Assignment) (new : PlainScope) : Type 0 where
  pub live : new.live ≡ old.live
  pub given : new.given.items ≡ given_after taken old.given.items
  pub boxes : new.boxes.items ≡ boxes_after taken old.boxes.items
  pub spent : new.spent ≡ old.spent + 1
  pub closed : new.closed ≡ old.closed
  pub answer_is : answer ≡ answer_of taken

-- the boxes are as they were
pub record KeepsBoxes (old new : PlainScope) : Type 0 where
  pub live : new.live ≡ old.live
  pub boxes : new.boxes.items ≡ old.boxes.items

-- all but the current scope is as it was
pub record KeepsParents (old new : SessionState) : Type 0 where
  pub scope : Scope
  pub is : new ≡ with_scope old scope

-- ---- what holds of each stored scope

-- a scope with these constraints
pub record IsSound (sets : Box) (cons : List Ground) (sc : PlainScope) : Type 0 where
  pub fit : All (IsConstraint sets) cons
  pub live : sc.live ≡ live_nodes cons
  pub boxes : All (λ b. IsBox sets (box_of b)) sc.boxes.items

-- the scopes below one with these constraints, the nearest first
abbrev pub AreBelow : Box → List Ground → List Parent → Type 0
AreBelow sets cons [] = Unit {0}
AreBelow sets cons (p ∷ ps) = (p.posted ≤ length cons) × IsSound sets (take p.posted cons) p.scope × AreBelow sets (take p.posted cons) ps

-- the current scope with its constraints, and those below it
pub record AreSound (sets : Box) (cons : List Ground) (current : PlainScope) (parents : List Parent) : Type 0 where
  pub declared : Each IsDeclared sets
  pub scope : IsSound sets cons current
  pub below : AreBelow sets cons (reverse parents)
  pub depth : length parents + 1 ≤ 200
