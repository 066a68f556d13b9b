-- Typed trees of which the worked examples speak, and what stands outside of them: x is an integer variable of 0..2, w one
-- of 0..2^20, b a Boolean one, and d and e are Boolean trees that nest 499 and 500 deep.
use Rattle.std.specs.Prelude.{ℕ, ◌-◌, ◌^◌, ℤ, pos, true, false, List, [], ◌∷◌, slice_get, Option, Some, None, unwrap_or}
use Rattle.ms_syntax.specs.declared.token.Place.{Place}
use Rattle.ms_syntax.specs.declared.tree.Operator.{Operator}
use Rattle.ms_syntax.specs.declared.tree.Operator.TheVariants as op
use Rattle.ms_num.specs.Span.{Span}
use Rattle.ms_built_ins.specs.declared.names.BuiltIn.{BuiltIn}
use Rattle.ms_trees.specs.Enclosure.{boolean_enclosure}
use Rattle.ms_trees.specs.declared.tree.Ground.TheVariants as g
use Rattle.ms_tree_nodes.specs.Nodes.{bit_variable, variable}
use Rattle.ms_values.specs.declared.operand.Placed.{Placed}
use Rattle.ms_values.specs.declared.operand.Cells.{Cells}
use Rattle.ms_values.specs.declared.operand.Indices.TheVariants as i
use Rattle.ms_values.specs.declared.operand.Operand.{Operand}
use Rattle.ms_values.specs.declared.operand.Operand.TheVariants as o
use Rattle.ms_code.specs.Code.{link}
use Rattle.ms_code.specs.declared.code.Code.{Code}
use Rattle.ms_code.specs.declared.code.Code.TheVariants as c
use Rattle.ms_code.specs.declared.code.Generator.{Generator, roll-Generator}
use Rattle.ms_code.specs.declared.code.Link.{Link}
use Rattle.ms_code.specs.declared.code.Reference.{Reference}
use Rattle.ms_code.specs.declared.code.Reference.TheVariants as r
use Rattle.ms_placing.specs.Outside.{Outside}

abbrev pub at : ℕ → Place
at column = record { file = 0; line = 1; col = column }

-- ---- operands

abbrev pub x_tree : Placed
x_tree = variable 0 (record { lo = pos 0; hi = pos 2 })

abbrev pub w_tree : Placed
w_tree = variable 1 (record { lo = pos 0; hi = pos (2 ^ 20) })

abbrev pub b_tree : Placed
b_tree = bit_variable 2 (record { lo = pos 0; hi = pos 1 })

-- a Boolean tree that nests so deep
abbrev pub deep : ℕ → Placed
deep nesting = record { tree = g.BVar 2; enclosure = boolean_enclosure true true; size = 1; nesting = nesting }

abbrev pub known : ℕ → Operand
known k = o.Number (Some (pos k))

abbrev pub line : Cells → Operand
line cs = o.Array (record { indices = i.Line (pos 1); cells = cs })

-- ---- typed trees, each with the column of its place

abbrev pub num : ℕ → ℕ → Code
num column k = c.Number (at column) k

abbrev pub local : ℕ → ℕ → Code
local column k = c.Name (at column) (r.Local k)

abbrev pub global : ℕ → ℕ → Code
global column k = c.Name (at column) (r.Model k)

abbrev pub w : ℕ → Code
w column = global column 1

abbrev pub b : ℕ → Code
b column = global column 2

abbrev pub d : ℕ → Code
d column = global column 4

abbrev pub e : ℕ → Code
e column = global column 5

abbrev pub then_by : Operator → ℕ → Code → Link
then_by operator column a = link operator (at column) a

-- an operation of two operands
abbrev pub pair : Operator → ℕ → Code → Code → Code
pair operator column a s = c.Chain a (then_by operator column s ∷ [])

abbrev pub calls : ℕ → BuiltIn → List Code → Code
calls column name es = c.Call (at column) (r.BuiltIn name) es

abbrev pub declared : ℕ → ℕ → List Code → Code
declared column k es = c.Call (at column) (r.Model k) es

-- `1..2`, by the columns of its parts
abbrev pub one_to_two : ℕ → ℕ → ℕ → Code
one_to_two first to second = pair op.To to (num first 1) (num second 2)

-- so many names that run through a set
abbrev pub over : ℕ → ℕ → Code → Generator
over column names set = roll-Generator (record { place = at column; names = names; set = set })

-- ---- outside

-- the names of the model, by their numbers; the last three are a function that is true, one that calls itself, and one whose
-- value is its parameter
abbrev pub values : List Operand
values = o.Integer x_tree ∷ o.Integer w_tree ∷ o.Condition b_tree ∷ known 4 ∷ o.Condition (deep 499) ∷ o.Condition (deep 500) ∷ []

abbrev pub bodies : List Code
bodies = c.Truth (at 100) true ∷ declared 110 7 [] ∷ local 120 0 ∷ []

abbrev pub value_of : Reference → Operand
value_of (r.Local k) = o.Number None
value_of (r.Model k) = unwrap_or (slice_get values k) (o.Number None)
value_of (r.Library k) = o.Number None
value_of (r.BuiltIn name) = o.Number None

abbrev pub body_of : Reference → Option Code
body_of (r.Local k) = None
body_of (r.Model k) = slice_get bodies (k - 6)
body_of (r.Library k) = None
body_of (r.BuiltIn name) = None

abbrev pub first_word : List ℕ → ℕ
first_word [] = 0
first_word (u ∷ us) = u

abbrev pub later_words : List ℕ → List ℕ
later_words [] = []
later_words (u ∷ us) = us

abbrev pub out : Outside
out = record { value = value_of; body = body_of; point = None; word_of = first_word; after = later_words }
