-- Why the bytes of a model are not accepted.
use Rattle.std.specs.Prelude.{◌≡◌, ℕ, ◌<◌, ◌≤◌, List, length, take}
use Rattle.ms_base.specs.declared.limits.TheConstants.{FILE_LIMIT}
use Rattle.ms_syntax.specs.declared.token.LexKind.{LexKind}
use Rattle.ms_syntax.specs.declared.token.Place.{Place}
use Rattle.ms_syntax.specs.declared.token.Spanned.{Spanned}
use Rattle.ms_syntax.specs.Tree.{Items}
use Rattle.ms_syntax.specs.Grammar.{Tokens, WritesTree, SyntaxAt, DeepAt}
use Rattle.ms_syntax.specs.Cut.{HasTokens, HasFault, place_behind}
use Rattle.ms_rows.specs.declared.fault.TypeFault.{TypeFault}
use Rattle.ms_top.specs.declared.plain.PlainModel.{PlainModel}
use Rattle.ms_top.specs.declared.status.Fault.{Fault}
use Rattle.ms_top.specs.declared.status.Fault.TheVariants.{LongFile, Lex, Syntax, Deep, Typing, Form}
use Rattle.ms_lexer.specs.Places.{IsTokenPlace}
use Rattle.ms_top.specs.Plain.{IsPlain, IsPlainText}
use Rattle.ms_top.specs.Typing.{HasTypeFault, IsTextOf, IsWellTyped}

abbrev pub IsShort : List ℕ → Type 0
IsShort bytes = length bytes ≤ FILE_LIMIT

abbrev pub IsLong : List ℕ → Type 0
IsLong bytes = FILE_LIMIT < length bytes

-- ---- faults of the text of a file, in a language of the grammar

-- the first thing that cannot be taken is of this kind, at this place
abbrev pub HasLexFault : ℕ → List ℕ → Place → LexKind → Type 0
HasLexFault file bytes place kind = (k : ℕ) × HasFault bytes kind k × (place ≡ place_behind file (take k bytes))

-- the bytes have tokens, of which the one at this place is the first with which no text of the language goes on
abbrev pub HasSyntaxFault : {A : Type 0} → ℕ → (A → Tokens → Type 0) → List ℕ → Place → Type 0
HasSyntaxFault file writes bytes place = (ts : List Spanned) × (k : ℕ) × HasTokens file bytes ts × SyntaxAt writes ts k × IsTokenPlace file bytes ts k place

-- the bytes have tokens, of which the one at this place can stand there, and is the first that nests too deep
abbrev pub HasDeepFault : {A : Type 0} → ℕ → (A → Tokens → Type 0) → List ℕ → Place → Type 0
HasDeepFault file writes bytes place = (ts : List Spanned) × (k : ℕ) × HasTokens file bytes ts × DeepAt writes ts k × IsTokenPlace file bytes ts k place

-- ---- the model, which is file 0

-- the bytes have a tree, of whose declarations and types this is the first fault
abbrev pub IsIllTyped : List ℕ → TypeFault → Type 0
IsIllTyped bytes fault = (tree : Items) × IsTextOf tree bytes × HasTypeFault tree fault

-- the bytes have a tree, which is well typed and no small model of the plain form
abbrev pub IsNotPlain : List ℕ → Type 0
IsNotPlain bytes = (tree : Items) × IsTextOf tree bytes × IsWellTyped tree × ((m : PlainModel) → IsPlain m tree → ⊥)

-- the bytes are not accepted as a model for this fault
abbrev pub IsFaulty : List ℕ → Fault → Type 0
IsFaulty bytes (LongFile file) = (file ≡ 0) × IsLong bytes
IsFaulty bytes (Lex place kind) = IsShort bytes × HasLexFault 0 bytes place kind
IsFaulty bytes (Syntax place) = IsShort bytes × HasSyntaxFault 0 WritesTree bytes place
IsFaulty bytes (Deep place) = IsShort bytes × HasDeepFault 0 WritesTree bytes place
IsFaulty bytes (Typing fault) = IsShort bytes × IsIllTyped bytes fault
IsFaulty bytes (Form file) = (file ≡ 0) × IsShort bytes × IsNotPlain bytes

-- the bytes are accepted as the text of this model
abbrev pub IsAccepted : List ℕ → PlainModel → Type 0
IsAccepted bytes m = IsShort bytes × IsPlainText m bytes
