-- What holds of scopes and of `next`, over the definitions alone.
use Rattle.std.specs.Prelude.{◌≡◌, ◌≢◌, ◌⊎◌, ℕ, ◌+◌, ◌*◌, ◌^◌, ◌<◌, ◌≤◌, true, List, [], ◌∷◌, ◌++◌, length, map, slice_get, Option, Some, All}
use Rattle.ms_trees.specs.declared.tree.Ground.{Ground}
use Rattle.ms_trees.specs.declared.branching.Branching.{Branching}
use Rattle.ms_session.specs.declared.budget.Frame.{Frame}
use Rattle.ms_session.specs.declared.session.Step.{Step}
use Rattle.ms_session.specs.declared.session.Step.TheVariants.{Found, NoneLeft, Spent}
use Rattle.ms_session.specs.Frames.{empty_frame, spend_many, outer_left, number_in}
use Rattle.ms_boxes.specs.Boxes.{Each, IsGiven, Assignment, Box, InBox, box_size, IsDeclared}
use Rattle.ms_boxes.specs.Branchings.{IsOrdered, Before, comparison_order}
use Rattle.ms_session.specs.Scopes.{Scope, SessionState, last_of, scope_after, Next, IsFresh, IsOpening, Enters, Leaves, with_constraint, NextGives, HasRoom}
use Rattle.ms_boxes.specs.Trees.{Meets, IsConstraint, Node}
use Rattle.ms_session.specs.Valid.{IsValid, IsValidSession}

-- a node keeps a scope valid, its answer being given
abbrev pub NodesKeepValid : Type 0
NodesKeepValid = (sets : Box) (br : Branching) (sc : Scope) (answer : Option Assignment) (fs : List Box) → IsValid sets br sc → Node sets br sc.cons sc.frontier answer fs → IsValid sets br (scope_after sc fs answer)

abbrev pub NextKeepsValid : Type 0
NextKeepsValid = (sets : Box) (br : Branching) (sc sc' : Scope) (fr fr' : List Frame) (step : Step) → IsValid sets br sc → Next sets br sc fr step sc' fr' → IsValid sets br sc'

-- in the whole life of a scope at most twice as many nodes are spent as there are assignments
abbrev pub FewNodes : Type 0
FewNodes = (sets : Box) (br : Branching) (sc : Scope) → IsValid sets br sc → sc.spent ≤ 2 * box_size sets

-- the frame has as many nodes left as a scope may still take
abbrev pub HasEnough : Box → Scope → Frame → Type 0
HasEnough sets sc f = 2 * box_size sets ≤ sc.spent + f.left

-- of such a frame a node is left as long as a box is left
abbrev pub EnoughIsLeft : Type 0
EnoughIsLeft = (sets : Box) (br : Branching) (sc : Scope) (f : Frame) → IsValid sets br sc → sc.frontier ≢ [] → HasEnough sets sc f → 0 < f.left

-- where every frame has enough, `next` is not cut
abbrev pub EnoughIsNeverSpent : Type 0
EnoughIsNeverSpent = (sets : Box) (br : Branching) (sc sc' : Scope) (fr fr' : List Frame) → IsValid sets br sc → Next sets br sc fr Spent sc' fr' → Each (HasEnough sets sc) fr → ⊥

-- such a frame is never the one that cuts `next`, whatever the other frames have
abbrev pub LargeFrameNeverCuts : Type 0
LargeFrameNeverCuts = (sets : Box) (br : Branching) (sc sc' : Scope) (fr fr' : List Frame) (k : ℕ) (f : Frame) → IsValid sets br sc → Next sets br sc fr Spent sc' fr' → slice_get fr k ≡ Some f → HasEnough sets sc f → empty_frame fr' ≢ Some k

-- and after `next` it still has enough
abbrev pub EnoughStaysEnough : Type 0
EnoughStaysEnough = (sets : Box) (br : Branching) (sc sc' : Scope) (fr fr' : List Frame) (step : Step) (k : ℕ) (f f' : Frame) → Next sets br sc fr step sc' fr' → slice_get fr k ≡ Some f → slice_get fr' k ≡ Some f' → HasEnough sets sc f → HasEnough sets sc' f'

-- p is an assignment that meets the constraints and was not given; under an ordered branching it is the least
pub record IsNewSolution (sets : Box) (br : Branching) (sc : Scope) (p : Assignment) : Type 0 where
  pub assigned : InBox p sets
  pub meets : Meets sc.cons p
  pub new : IsGiven sc.given p → ⊥
  pub least : IsOrdered br → (q : Assignment) → InBox q sets → Meets sc.cons q → (IsGiven sc.given q → ⊥) → (q ≡ p) ⊎ Before (comparison_order br (length sets)) p q

-- every assignment that meets the constraints was given
abbrev pub AllGiven : Box → Scope → Type 0
AllGiven sets sc = (p : Assignment) → InBox p sets → Meets sc.cons p → IsGiven sc.given p

-- what an answer of `next` says of solutions
abbrev pub BySolutions : Box → Branching → Scope → Step → Type 0
BySolutions sets br sc (Found p) = IsNewSolution sets br sc p
BySolutions sets br sc NoneLeft = AllGiven sets sc
BySolutions sets br sc Spent = Unit {0}

abbrev pub NextIsBySolutions : Type 0
NextIsBySolutions = (sets : Box) (br : Branching) (sc sc' : Scope) (fr fr' : List Frame) (step : Step) → IsValid sets br sc → Next sets br sc fr step sc' fr' → BySolutions sets br sc step

-- an answer is given now, and is the last
pub record LeavesAnswer (old new : Scope) (p : Assignment) : Type 0 where
  pub given : new.given ≡ old.given ++ p ∷ []
  pub last : last_of new.given ≡ Some p
  pub closed : new.closed ≡ old.closed

-- the search of the scope has come to its end
pub record LeavesEnd (old new : Scope) : Type 0 where
  pub given : new.given ≡ old.given
  pub frontier : new.frontier ≡ []
  pub closed : new.closed ≡ true

-- a box is left, and the frame that has cut
pub record LeavesCut (old new : Scope) (after : List Frame) : Type 0 where
  pub given : new.given ≡ old.given
  pub some : new.frontier ≢ []
  pub closed : new.closed ≡ old.closed
  pub frame : ℕ
  pub cut : empty_frame after ≡ Some frame

abbrev pub LeavesBy : Step → Scope → Scope → List Frame → Type 0
LeavesBy (Found p) old new after = LeavesAnswer old new p
LeavesBy NoneLeft old new after = LeavesEnd old new
LeavesBy Spent old new after = LeavesCut old new after

-- what `next` leaves: the constraints as they were, the nodes that it took counted in the scope and taken from each
-- frame, and the rest by its answer
pub record NextLeaves (old : Scope) (before : List Frame) (step : Step) (new : Scope) (after : List Frame) : Type 0 where
  pub cons : new.cons ≡ old.cons
  pub nodes : ℕ
  pub spent : new.spent ≡ old.spent + nodes
  pub frames : after ≡ spend_many nodes before
  pub by_step : LeavesBy step old new after

abbrev pub NextHasItsEffect : Type 0
NextHasItsEffect = (sets : Box) (br : Branching) (sc sc' : Scope) (fr fr' : List Frame) (step : Step) → Next sets br sc fr step sc' fr' → NextLeaves sc fr step sc' fr'

-- frames that lose nodes stay as many, each with its number
pub record KeepsFrames (before after : List Frame) : Type 0 where
  pub as_many : length after ≡ length before
  pub numbers : map number_in after ≡ map number_in before

abbrev pub SpendingKeepsFrames : Type 0
SpendingKeepsFrames = (nodes : ℕ) (fr : List Frame) → KeepsFrames fr (spend_many nodes fr)

-- where the search has come to its end, all was given
abbrev pub ClosedMeansAllGiven : Type 0
ClosedMeansAllGiven = (sets : Box) (br : Branching) (sc : Scope) → IsValid sets br sc → sc.closed ≡ true → AllGiven sets sc

-- a session that begins is valid, and each call keeps it so
abbrev pub BeginningIsValid : Type 0
BeginningIsValid = (declared : Box) (br : Branching) (cons : List Ground) (s : SessionState) → Each IsDeclared declared → All (IsConstraint declared) cons → IsOpening declared br cons s → IsValidSession s

abbrev pub OpeningIsValid : Type 0
OpeningIsValid = (s : SessionState) → Each IsDeclared s.sets → All (IsConstraint s.sets) s.scope.cons → IsFresh s.sets s.scope.cons s.scope → s.parents ≡ [] → IsValidSession s

abbrev pub EnteringKeepsValid : Type 0
EnteringKeepsValid = (old new : SessionState) → IsValidSession old → length old.parents + 1 < 200 → Enters old new → IsValidSession new

abbrev pub LeavingKeepsValid : Type 0
LeavingKeepsValid = (old new : SessionState) → IsValidSession old → Leaves old new → IsValidSession new

abbrev pub PostingKeepsValid : Type 0
PostingKeepsValid = (s : SessionState) (g : Ground) → IsValidSession s → IsConstraint s.sets g → IsValidSession (with_constraint s g)

abbrev pub SteppingKeepsValid : Type 0
SteppingKeepsValid = (old new : SessionState) (fr fr' : List Frame) (step : Step) → IsValidSession old → NextGives old fr step new fr' → IsValidSession new

-- each scope has room for the nodes that these frames may still take
abbrev pub AllHaveRoom : List Frame → SessionState → Type 0
AllHaveRoom fr s = Each (HasRoom fr) (s.scope ∷ s.parents)

-- a session that begins has room, and each call keeps it so, where all nodes are taken from one budget
abbrev pub OpeningHasRoom : Type 0
OpeningHasRoom = (sets : Box) (br : Branching) (cons : List Ground) (s : SessionState) (fr : List Frame) → IsOpening sets br cons s → outer_left fr < 2 ^ 64 → AllHaveRoom fr s

-- a frame more inside, or one less, leaves the outermost
abbrev pub PushingKeepsRoom : Type 0
PushingKeepsRoom = (s : SessionState) (fr : List Frame) (f : Frame) → 0 < length fr → AllHaveRoom fr s → AllHaveRoom (fr ++ f ∷ []) s

abbrev pub PoppingKeepsRoom : Type 0
PoppingKeepsRoom = (s : SessionState) (fr : List Frame) (f : Frame) → 0 < length fr → AllHaveRoom (fr ++ f ∷ []) s → AllHaveRoom fr s

abbrev pub EnteringKeepsRoom : Type 0
EnteringKeepsRoom = (old new : SessionState) (fr : List Frame) → AllHaveRoom fr old → Enters old new → AllHaveRoom fr new

abbrev pub LeavingKeepsRoom : Type 0
LeavingKeepsRoom = (old new : SessionState) (fr : List Frame) → AllHaveRoom fr old → Leaves old new → AllHaveRoom fr new

abbrev pub PostingKeepsRoom : Type 0
PostingKeepsRoom = (s : SessionState) (g : Ground) (fr : List Frame) → AllHaveRoom fr s → AllHaveRoom fr (with_constraint s g)

abbrev pub SteppingKeepsRoom : Type 0
SteppingKeepsRoom = (old new : SessionState) (fr fr' : List Frame) (step : Step) → 0 < length fr → AllHaveRoom fr old → NextGives old fr step new fr' → AllHaveRoom fr' new
