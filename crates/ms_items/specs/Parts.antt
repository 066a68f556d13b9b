-- What the code keeps of the parts of items.
use Rattle.std.specs.Prelude.{◌≡◌, List, [], ◌∷◌, Option, Some, None, if◌then◌else◌}
use Rattle.ms_syntax.specs.Tree.{Ex, Params}
use Rattle.ms_typing.specs.declared.types.ExprType.{ExprType}
use Rattle.ms_typing.specs.declared.types.ExprType.TheVariants.{Text}
use Rattle.ms_typing.specs.declared.types.Surroundings.TheVariants as s
use Rattle.ms_typing.specs.Conversion.{as_known, shape_of}
use Rattle.ms_typing.specs.Items.{with_params}
use Rattle.ms_typing.specs.Least.{Typing, and_then, has}
use Rattle.ms_typing.specs.Meaning.{Names, World, is_search}
use Rattle.ms_code.specs.Code.{brought, type_of}
use Rattle.ms_code.specs.Items.{asked_code}
use Rattle.ms_code.specs.declared.code.Code.{Code}
use Rattle.ms_nodes.specs.declared.parts.Elaborated.{Elaborated}

-- that there is no fault
abbrev pub checked : {A : Type 0} → Typing A → Typing (Unit {0})
checked r = and_then r (λ a. has tt)

-- that there is none: it has this type
abbrev pub IsTyped : {A : Type 0} → Typing A → Type 0
IsTyped r = checked r ≡ has tt

-- a typed tree brought to this type
abbrev pub brought_to : ExprType → Elaborated → Code
brought_to t m = brought t m.kind m.code

-- the type of a part, if there is one
abbrev pub kinds_of : Option Elaborated → List ExprType
kinds_of None = []
kinds_of (Some m) = m.kind ∷ []

-- its typed tree
abbrev pub codes_of : Option Elaborated → Option Code
codes_of None = None
codes_of (Some m) = Some m.code

-- an output item, with every value known
abbrev pub output_code : World → Ex → Code
output_code world e = asked_code (Text (shape_of (type_of world s.Output [] e))) world s.Output [] e

-- the body of a function among these names, as an output item calls it
abbrev pub known_among : Names → World → ExprType → Params → Ex → Option Code
known_among ns world t ps e = if is_search t then None else Some (asked_code (as_known t) world s.Called (with_params ps ns) e)
