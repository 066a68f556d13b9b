-- Names with their values and types, the latest first.
use Rattle.std.specs.Prelude.{ℕ, Bool, List, map, reverse}
use Rattle.std.specs.List.{list_all}
use Rattle.ms_num.specs.Span.{Span}
use Rattle.ms_typing.specs.declared.types.ExprType.{ExprType}
use Rattle.ms_typing.specs.declared.types.ExprType.TheVariants.{Plain, Text, Set, Search}
use Rattle.ms_typing.specs.declared.types.Scalar.{Scalar}
use Rattle.ms_typing.specs.declared.types.Scalar.TheVariants.{Truth, Number, Empty}
use Rattle.ms_typing.specs.Meaning.{Names}
use Rattle.ms_values.specs.declared.operand.Operand.{Operand}
use Rattle.ms_placing.specs.Values.{entered}
use Rattle.ms_exchange.specs.Fit.{is_fit}
use Rattle.ms_env.specs.declared.env.Entry.{Entry}
use Rattle.ms_env.specs.declared.env.Env.{Env}

abbrev pub entries_of : Env → List Entry
entries_of e = reverse e.entries.items

-- ---- types: the element of an array without elements counts as an integer

abbrev pub element_counted : Scalar → Scalar
element_counted Truth = Truth
element_counted Number = Number
element_counted Empty = Number

abbrev pub counted : ExprType → ExprType
counted (Plain b s k) = Plain (element_counted b) s k
counted (Text s) = Text s
counted Set = Set
counted Search = Search

abbrev pub name_of : Entry → List ℕ × ExprType
name_of e = (e.name, counted e.kind)

-- the names with their types
abbrev pub names_in : List Entry → Names
names_in es = map name_of es

-- ---- values, over the intervals of the declared sets

-- the value may be handed in
abbrev pub is_entry : List Span → Entry → Bool
is_entry sets e = is_fit sets e.kind e.value

abbrev pub are_entries : List Span → List Entry → Bool
are_entries sets es = list_all (is_entry sets) es

abbrev pub operand_of : List Span → Entry → Operand
operand_of sets e = entered sets e.kind e.value

abbrev pub operands_in : List Span → List Entry → List Operand
operands_in sets es = map (operand_of sets) es
