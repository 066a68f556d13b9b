-- What an item gives a value to.
use Rattle.std.specs.Prelude.{ℕ, Option, Some, None}
use Rattle.ms_typing.specs.declared.types.ExprType.{ExprType}
use Rattle.ms_typing.specs.Meaning.{Meaning}
use Rattle.ms_typing.specs.Meaning as m
use Rattle.ms_typing.specs.Term.{Form}
use Rattle.ms_typing.specs.Term as f

-- the number and the type of what is declared so, unless it is a function's
abbrev pub valued : Option ℕ → Option Meaning → Option (ℕ × ExprType)
valued (Some n) (Some (m.value t)) = Some (n, t)
valued (Some n) (Some (m.function us t)) = None
valued (Some n) (Some (m.built_in b)) = None
valued (Some n) None = None
valued None o = None

-- the form of the item
abbrev pub assigns : Option (ℕ × ExprType) → Form
assigns (Some r) = f.assigns r.1
assigns None = f.gives
