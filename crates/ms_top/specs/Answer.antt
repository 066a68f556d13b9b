-- What the program answers for the bytes of a model.
use Rattle.std.specs.Prelude.{◌≡◌, ℕ, ℤ, List, take, ◌⊎◌, Option, None}
use Rattle.ms_base.specs.declared.run.Closing.{Closing}
use Rattle.ms_base.specs.declared.run.Closing.TheVariants.{Plain, Unsatisfiable}
use Rattle.ms_io.specs.Sink.{Gains}
use Rattle.ms_top.specs.declared.plain.PlainModel.{PlainModel}
use Rattle.ms_top.specs.declared.status.Status.{Status}
use Rattle.ms_top.specs.declared.status.Status.TheVariants.{Done, Usage, ReadFault, Refused, WriteFault, NoMemory}
use Rattle.ms_top.specs.Faults.{IsAccepted, IsFaulty}
use Rattle.ms_top.specs.Solution.{IsLeast, HasNoSolution}
use Rattle.ms_top.specs.Text.{solution_text, unsatisfiable_text}

-- ---- the run of a model

-- the run of the model ends so, and writes this text
abbrev pub IsRun : PlainModel → Closing → List ℕ → Type 0
IsRun m Plain text = (a : List ℤ) × IsLeast m a × (text ≡ solution_text m a)
IsRun m Unsatisfiable text = HasNoSolution m × (text ≡ unsatisfiable_text)
IsRun m _ text = ⊥

-- what a run of the model leaves: its text written whole; a prefix of it, and then a write failed; or nothing, since memory ran out
abbrev pub Runs : PlainModel → Status → Option (List ℕ) → Option (List ℕ) → Type 0
Runs m (Done closing limit) old new = (limit ≡ None) × ((text : List ℕ) × IsRun m closing text × Gains old text new)
Runs m WriteFault old new = (closing : Closing) × (text : List ℕ) × (k : ℕ) × IsRun m closing text × Gains old (take k text) new
Runs m NoMemory old new = new ≡ old
Runs m _ old new = ⊥

-- ---- the answer for bytes

-- a run of the model that they are a text of; a fault of theirs, and nothing is written; or nothing, since a read failed or memory ran out
abbrev pub Answers : List ℕ → Status → Option (List ℕ) → Option (List ℕ) → Type 0
Answers bytes (Refused fault) old new = IsFaulty bytes fault × (new ≡ old)
Answers bytes (Done closing limit) old new = (m : PlainModel) × IsAccepted bytes m × Runs m (Done closing limit) old new
Answers bytes WriteFault old new = (m : PlainModel) × IsAccepted bytes m × Runs m WriteFault old new
Answers bytes ReadFault old new = new ≡ old
Answers bytes NoMemory old new = new ≡ old
Answers bytes Usage old new = ⊥

-- ---- models that have an answer

-- they are a text of this model, of which this is the least solution
pub record HasLeast (bytes : List ℕ) (m : PlainModel) (a : List ℤ) : Type 0 where
  pub accepted : IsAccepted bytes m
  pub least : IsLeast m a

-- they are a text of this model, which has no solution
pub record HasNone (bytes : List ℕ) (m : PlainModel) : Type 0 where
  pub accepted : IsAccepted bytes m
  pub none : HasNoSolution m

-- ---- how statuses come

-- nothing is written with this status
abbrev pub WritesNothing : Status → Type 0
WritesNothing (Done closing limit) = ⊥
WritesNothing WriteFault = ⊥
WritesNothing _ = Unit {0}

-- the words that are said of the status take memory
abbrev pub SaysName : Status → Type 0
SaysName ReadFault = Unit {0}
SaysName (Refused fault) = Unit {0}
SaysName _ = ⊥

-- the status; or that of no memory, where there is none for the words that are said of it
abbrev pub Remains : Status → Status → Type 0
Remains status result = (result ≡ status) ⊎ ((result ≡ NoMemory) × SaysName status)

-- p, unless a read or a write failed or memory ran out
abbrev pub Unless : Type 0 → Type 0 → Status → Type 0 → Type 0
Unless read write result p = (read → ⊥) → (write → ⊥) → (result ≡ NoMemory) ⊎ p

-- this status comes exactly where p holds, unless memory runs out
pub record Exactly (status result : Status) (p : Type 0) : Type 0 where
  pub only : result ≡ status → p
  pub always : p → (result ≡ status) ⊎ (result ≡ NoMemory)
