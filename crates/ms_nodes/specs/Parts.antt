-- Parts that have their types and typed trees.
use Rattle.std.specs.Prelude.{List, [], ◌∷◌, ◌++◌, map, Option, Some, None}
use Rattle.ms_typing.specs.declared.types.ExprType.{ExprType}
use Rattle.ms_code.specs.declared.code.Code.{Code}
use Rattle.ms_nodes.specs.declared.parts.Choice.{Choice}
use Rattle.ms_nodes.specs.declared.parts.Elaborated.{Elaborated}
use Rattle.ms_nodes.specs.declared.parts.Operand.{Operand}
use Rattle.ms_nodes.specs.declared.parts.Source.{Source}

abbrev pub made : ExprType → Code → Elaborated
made t e = record { kind = t; code = e }

abbrev pub kinds_of : List Elaborated → List ExprType
kinds_of = map (λ m. m.kind)

abbrev pub kinds_maybe : Option Elaborated → List ExprType
kinds_maybe None = []
kinds_maybe (Some m) = m.kind ∷ []

abbrev pub operand_kinds : List Operand → List ExprType
operand_kinds = map (λ o. o.operand.kind)

abbrev pub choice_kinds : List Choice → List ExprType
choice_kinds [] = []
choice_kinds (a ∷ as') = a.condition.kind ∷ a.branch.kind ∷ choice_kinds as'

abbrev pub row_kinds : List (List Elaborated) → List ExprType
row_kinds [] = []
row_kinds (r ∷ rs) = kinds_of r ++ row_kinds rs

abbrev pub set_kinds : List Source → List ExprType
set_kinds = map (λ g. g.set.kind)

-- the types of sets, and then of the condition
abbrev pub source_kinds : List Source × Option Elaborated → List ExprType
source_kinds s = set_kinds s.0 ++ kinds_maybe s.1
