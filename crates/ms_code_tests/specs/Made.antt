-- Typed trees of which the worked examples speak, over the names of the examples of types.
use Rattle.std.specs.Prelude.{ℕ, true, false, List, [], ◌∷◌, None}
use Rattle.ms_syntax.specs.declared.tree.Operator.{Operator}
use Rattle.ms_syntax.specs.Tree.{Ex}
use Rattle.ms_built_ins.specs.declared.names.BuiltIn.{BuiltIn}
use Rattle.ms_typing.specs.declared.types.ExprType.{ExprType}
use Rattle.ms_typing.specs.declared.types.Surroundings.{Surroundings}
use Rattle.ms_typing.specs.declared.types.Surroundings.TheVariants as s
use Rattle.ms_typing.specs.Meaning.{Names}
use Rattle.ms_typing_tests.specs.Sample.{at, sample}
use Rattle.ms_code.specs.Code.{code_of, generator, generators, link}
use Rattle.ms_code.specs.declared.code.Code.{Code}
use Rattle.ms_code.specs.declared.code.Code.TheVariants as c
use Rattle.ms_code.specs.declared.code.Generators.{Generators}
use Rattle.ms_code.specs.declared.code.Link.{Link}
use Rattle.ms_code.specs.declared.code.Reference.TheVariants as r

abbrev pub in_model : Ex → Code
in_model e = code_of sample s.Model [] e

abbrev pub in_search : Ex → Code
in_search e = code_of sample s.Search [] e

abbrev pub in_output : Ex → Code
in_output e = code_of sample s.Output [] e

-- a name of the model, by its number: 0 `n`, 1 `c`, 2 `k`, 3 `s`, 4 `t`, 5 `w`, 6 `x`, 7 `b`, 8 `a`, 9 `g`, 10 `f`, 11 `p`, 12 `q`
abbrev pub named : ℕ → ℕ → Code
named column n = c.Name (at column) (r.Model n)

abbrev pub local : ℕ → ℕ → Code
local column n = c.Name (at column) (r.Local n)

abbrev pub num : ℕ → ℕ → Code
num column n = c.Number (at column) n

-- a built-in name with arguments
abbrev pub calls : ℕ → BuiltIn → List Code → Code
calls column b es = c.Call (at column) (r.BuiltIn b) es

abbrev pub declared : ℕ → ℕ → List Code → Code
declared column n es = c.Call (at column) (r.Model n) es

abbrev pub then_by : Operator → ℕ → Code → Link
then_by op column e = link op (at column) e

-- `i in s`, both with their columns
abbrev pub over_s : ℕ → ℕ → Generators
over_s column set = generators (generator ((at column, []) ∷ []) (named set 3) ∷ []) None
