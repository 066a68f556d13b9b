-- Trees that bytes are a text of, and which of them are well typed.
use Rattle.std.specs.Prelude.{ℕ, List, []}
use Rattle.ms_syntax.specs.declared.token.Spanned.{Spanned}
use Rattle.ms_syntax.specs.Tree.{It, Items}
use Rattle.ms_syntax.specs.Grammar.{WritesTree, IsShallow}
use Rattle.ms_syntax.specs.Cut.{HasTokens}
use Rattle.ms_rows.specs.declared.fault.TypeFault.{TypeFault}
use Rattle.ms_types.specs.Faults as types

-- the tokens are those of the tree, which the grammar accepts
abbrev pub HasTree : List Spanned → Items → Type 0
HasTree ts tree = WritesTree tree ts × IsShallow ts

-- the bytes of the model, which is file 0, are a text of this tree
abbrev pub IsTextOf : Items → List ℕ → Type 0
IsTextOf tree bytes = (ts : List Spanned) × HasTokens 0 bytes ts × HasTree ts tree

-- the library beside which models are typed, which has no items yet
abbrev pub library : List It
library = []

-- no fault in what the tree declares, and each of its items has its types
abbrev pub IsWellTyped : Items → Type 0
IsWellTyped tree = types.IsAccepted tree.0 library

-- the first fault of the tree's declarations and types
abbrev pub HasTypeFault : Items → TypeFault → Type 0
HasTypeFault tree fault = types.HasFault tree.0 library fault
