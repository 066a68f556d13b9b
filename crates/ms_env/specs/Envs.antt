-- Types of expressions among names.
use Rattle.std.specs.Prelude.{List}
use Rattle.ms_syntax.specs.Tree.{Ex}
use Rattle.ms_typing.specs.declared.types.ExprType.{ExprType}
use Rattle.ms_typing.specs.declared.types.Surroundings.TheVariants as s
use Rattle.ms_typing.specs.Least.{Typing, typing}
use Rattle.ms_typing.specs.Meaning.{World}
use Rattle.ms_typing.specs.Term.{term_of}
use Rattle.ms_code.specs.Code.{code_of, type_of}
use Rattle.ms_code.specs.declared.code.Code.{Code}
use Rattle.ms_items.specs.Parts.{IsTyped}
use Rattle.ms_env.specs.Entries.{names_in}
use Rattle.ms_env.specs.declared.env.Entry.{Entry}

-- an expression of a search, among names
abbrev pub typing_in : World → List Entry → Ex → Typing ExprType
typing_in world es e = typing (term_of world s.Search (names_in es) e)

-- it has a type
abbrev pub IsTypedIn : World → List Entry → Ex → Type 0
IsTypedIn world es e = IsTyped (typing_in world es e)

-- its least type
abbrev pub type_in : World → List Entry → Ex → ExprType
type_in world es e = type_of world s.Search (names_in es) e

-- its typed tree
abbrev pub code_in : World → List Entry → Ex → Code
code_in world es e = code_of world s.Search (names_in es) e
