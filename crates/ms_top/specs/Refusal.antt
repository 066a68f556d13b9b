-- The status of a run that has no model to be run.
use Rattle.std.specs.Prelude.{◌≡◌, ℕ, List}
use Rattle.ms_syntax.specs.declared.token.Spanned.{Spanned}
use Rattle.ms_syntax.specs.Tree.{Items}
use Rattle.ms_syntax.specs.Grammar.{WritesTree, SyntaxAt, DeepAt}
use Rattle.ms_parser.specs.declared.fault.ParseFault.{ParseFault}
use Rattle.ms_parser.specs.declared.fault.ParseFault.TheVariants as parse
use Rattle.ms_rows.specs.declared.fault.TypeFault.{TypeFault}
use Rattle.ms_rows.specs.declared.fault.TypeFault.TheVariants as typing
use Rattle.ms_top.specs.declared.plain.PlainModel.{PlainModel}
use Rattle.ms_top.specs.declared.status.Status.{Status}
use Rattle.ms_top.specs.declared.status.Status.TheVariants.{ReadFault, Refused, NoMemory}
use Rattle.ms_top.specs.declared.status.Fault.{Fault}
use Rattle.ms_top.specs.declared.status.Fault.TheVariants.{Typing, Form}
use Rattle.ms_top.specs.Faults.{IsFaulty}
use Rattle.ms_top.specs.Plain.{IsPlain}
use Rattle.ms_top.specs.Typing.{HasTypeFault, IsWellTyped}

-- the bytes are not accepted for this fault, or memory ran out
abbrev pub Refuses : List ℕ → Status → Type 0
Refuses bytes (Refused fault) = IsFaulty bytes fault
Refuses bytes NoMemory = Unit {0}
Refuses bytes _ = ⊥

-- the same of the bytes of a file, where the read may also have failed
abbrev pub RefusesFile : List ℕ → Status → Type 0
RefusesFile bytes (Refused fault) = IsFaulty bytes fault
RefusesFile bytes ReadFault = Unit {0}
RefusesFile bytes NoMemory = Unit {0}
RefusesFile bytes _ = ⊥

-- what the fault says of the tree of a model
abbrev pub IsTreeFault : Items → Fault → Type 0
IsTreeFault tree (Typing fault) = HasTypeFault tree fault
IsTreeFault tree (Form file) = (file ≡ 0) × IsWellTyped tree × ((m : PlainModel) → IsPlain m tree → ⊥)
IsTreeFault tree _ = ⊥

-- the tree is not accepted for this fault, or memory ran out
abbrev pub RefusesTree : Items → Status → Type 0
RefusesTree tree (Refused fault) = IsTreeFault tree fault
RefusesTree tree NoMemory = Unit {0}
RefusesTree tree _ = ⊥

-- the status of a run whose model has this fault of types
abbrev pub type_refusal : TypeFault → Status
type_refusal typing.Memory = NoMemory
type_refusal fault = Refused (Typing fault)

-- what the fault says of the tokens
abbrev pub ParseFaultIs : List Spanned → ParseFault → Type 0
ParseFaultIs ts (parse.Syntax k) = SyntaxAt WritesTree ts k
ParseFaultIs ts (parse.Deep k) = DeepAt WritesTree ts k
ParseFaultIs ts parse.Memory = Unit {0}
