-- What is placed may be asked.
use Rattle.std.specs.Prelude.{◌≡◌, ℕ, ◌≤◌, List}
use Rattle.ms_base.specs.declared.limits.TheConstants.{TREE_NESTING_LIMIT}
use Rattle.ms_syntax.specs.declared.token.Place.{Place}
use Rattle.ms_num.specs.Span.{Span}
use Rattle.ms_trees.specs.Size as size
use Rattle.ms_code.specs.declared.code.Code.{Code}
use Rattle.ms_code.specs.declared.code.Reference.{Reference}
use Rattle.ms_values.specs.declared.operand.Placed.{Placed}
use Rattle.ms_values.specs.declared.operand.Operand.{Operand}
use Rattle.ms_values.specs.declared.operand.Operand.TheVariants as o
use Rattle.ms_rules.specs.Operands.{nesting_of}
use Rattle.ms_rules_laws.specs.Fit.{AreAllFit, IsCondition, IsFit, IsInteger}
use Rattle.ms_placing.specs.Outside.{Outside}
use Rattle.ms_placing.specs.Placing.{Caller, Names, Part, Places, caller, opener, run}
use Rattle.ms_placing.specs.Steps.{Out, Rest, Step, bad, ok}

-- an operand that may be asked on the declared sets, of which a single tree nests no deeper than the limit
pub record MayBeAsked (sets : List Span) (x : Operand) : Type 0 where
  pub fit : IsFit sets x
  pub nesting : nesting_of x ≤ TREE_NESTING_LIMIT

-- what stands outside may be asked
abbrev pub AreFitValues : List Span → Outside → Type 0
AreFitValues sets out = (name : Reference) → IsFit sets (out.value name)

-- ---- in steps

-- the operand may be asked; of a fault nothing is said
abbrev pub EndsWell : List Span → Out → Type 0
EndsWell sets (ok p x n ws) = MayBeAsked sets x
EndsWell sets (bad fault n ws) = Unit {0}

-- from any steps and words
abbrev pub StepsWell : List Span → Step → Type 0
StepsWell sets s = (n : ℕ) (ws : List ℕ) → EndsWell sets (s n ws)

-- what is done with an operand that may be asked
abbrev pub GoesOnWell : List Span → Rest → Type 0
GoesOnWell sets k = (p : Place) (x : Operand) → MayBeAsked sets x → StepsWell sets (k p x)

abbrev pub IsWellPlaced : List Span → Part → Type 0
IsWellPlaced sets part = (env : Names) → AreAllFit sets env → (k : Rest) → GoesOnWell sets k → StepsWell sets (part env k)

abbrev pub IsWellCalled : List Span → Caller → Type 0
IsWellCalled sets call = (p : Place) (name : Reference) (xs : List Operand) → AreAllFit sets xs → (k : Rest) → GoesOnWell sets k → StepsWell sets (call p name xs k)

-- ---- the laws

-- if all goes well for each operand that may be asked, then for the whole, whatever calls what is called well
abbrev pub PlacingGoesWell : Type 0
PlacingGoesWell = (sets : List Span) (out : Outside) → AreFitValues sets out → (call : Caller) → IsWellCalled sets call → (e : Code) → IsWellPlaced sets (run out call e)

-- where so many bodies may yet be opened
abbrev pub CallingGoesWell : Type 0
CallingGoesWell = (sets : List Span) (out : Outside) → AreFitValues sets out → (d : ℕ) → IsWellCalled sets (caller out (opener out d))

-- from any steps and words, under names that are fit
abbrev pub PlacedMayBeAsked : Type 0
PlacedMayBeAsked = (sets : List Span) (out : Outside) → AreFitValues sets out → (env : Names) → AreAllFit sets env → (e : Code) (n : ℕ) (ws : List ℕ)
    → (p : Place) (x : Operand) (m : ℕ) (vs : List ℕ) → Places out env e n ws ≡ ok p x m vs → MayBeAsked sets x

-- a tree that is placed: it may be asked, and it nests no deeper than the limit
abbrev pub PlacedIntegersNest : Type 0
PlacedIntegersNest = (sets : List Span) (x : Placed) → MayBeAsked sets (o.Integer x) → IsInteger sets x × (size.nesting_of x.tree ≤ TREE_NESTING_LIMIT)

abbrev pub PlacedConditionsNest : Type 0
PlacedConditionsNest = (sets : List Span) (x : Placed) → MayBeAsked sets (o.Condition x) → IsCondition sets x × (size.nesting_of x.tree ≤ TREE_NESTING_LIMIT)
