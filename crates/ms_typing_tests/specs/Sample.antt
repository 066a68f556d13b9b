-- Names, places and trees of which the worked examples speak. Each example stands on the first line of a model.
use Rattle.std.specs.Prelude.{ℕ, true, false, List, [], ◌∷◌, codes}
use Rattle.ms_syntax.specs.declared.token.Place.{Place}
use Rattle.ms_syntax.specs.declared.tree.Operator.{Operator}
use Rattle.ms_syntax.specs.declared.tree.Operator.TheVariants.{Concat}
use Rattle.ms_syntax.specs.declared.tree.Mode.TheVariants as mode
use Rattle.ms_syntax.specs.Tree.{Arms, Bs, Decl, Ex, Exs, Gens, It, Kd, Maybe, Names}
use Rattle.ms_syntax.specs.Tree as x
use Rattle.ms_typing.specs.declared.types.Scalar.TheVariants.{Number}
use Rattle.ms_typing.specs.declared.types.Shape.TheVariants.{Single, Line, Grid}
use Rattle.ms_typing.specs.declared.types.ExprType.{ExprType}
use Rattle.ms_typing.specs.declared.types.ExprType.TheVariants.{Plain, Text, Set, Search}
use Rattle.ms_typing.specs.declared.types.Cause.{Cause}
use Rattle.ms_typing.specs.declared.types.Surroundings.{Surroundings}
use Rattle.ms_typing.specs.declared.types.Surroundings.TheVariants as s
use Rattle.ms_typing.specs.Conversion.{numbers, truths}
use Rattle.ms_typing.specs.Items.{model_terms}
use Rattle.ms_typing.specs.Meaning.{World, function, value}
use Rattle.ms_typing.specs.Term.{term_of}
use Rattle.ms_typing.specs.Least.{Typing, fault, typing, typings}

abbrev pub at : ℕ → Place
at column = record { file = 0; line = 1; col = column }

-- ---- names: `n`, `c`, `k`, `s`, `t` and `w` are known, `x`, `b`, `a` and `g` variable; `f` of the model hides that of the library

abbrev pub sample : World
sample = record {
  model = (codes "n", value (numbers true)) ∷ (codes "c", value (truths true)) ∷ (codes "k", value (Plain Number Line true)) ∷ (codes "s", value Set)
      ∷ (codes "t", value (Text Single)) ∷ (codes "w", value (Text Line)) ∷ (codes "x", value (numbers false)) ∷ (codes "b", value (truths false))
      ∷ (codes "a", value (Plain Number Line false)) ∷ (codes "g", value (Plain Number Grid false)) ∷ (codes "f", function (numbers true ∷ []) (numbers true))
      ∷ (codes "p", function (numbers false ∷ []) (truths false)) ∷ (codes "q", function (numbers false ∷ []) Search) ∷ [];
  library = (codes "f", function [] (Text Single)) ∷ (codes "r", function (Search ∷ []) Search) ∷ [];
}

abbrev pub typed_in : Surroundings → Ex → Typing ExprType
typed_in around e = typing (term_of sample around [] e)

abbrev pub in_model : Ex → Typing ExprType
in_model = typed_in s.Model

abbrev pub in_search : Ex → Typing ExprType
in_search = typed_in s.Search

abbrev pub in_output : Ex → Typing ExprType
in_output = typed_in s.Output

abbrev pub is_fault : Cause → ℕ → Typing ExprType
is_fault c column = fault c (at column)

-- ---- trees, each with the column of its place

abbrev pub num : ℕ → ℕ → Ex
num column n = x.number (at column) n

abbrev pub yes : ℕ → Ex
yes column = x.truth (at column) true

abbrev pub quoted : ℕ → Ex
quoted column = x.text (at column) (codes "u")

abbrev pub word : ℕ → List ℕ → Ex
word column w = x.name (at column) w

abbrev pub none : Exs
none = x.no_exs

abbrev pub one : Ex → Exs
one e = x.ex e none

abbrev pub two : Ex → Ex → Exs
two e d = x.ex e (one d)

abbrev pub calls : ℕ → List ℕ → Exs → Ex
calls column w es = x.call (at column) w es

abbrev pub list : ℕ → Exs → Ex
list column es = x.array (at column) es

abbrev pub concat : ℕ → Ex → Ex → Ex
concat column e d = x.chain x.of_concat e (x.link Concat (at column) d x.no_links)

-- one operator, or two, other than `++`: their level does not matter
abbrev pub op : Operator → ℕ → Ex → Ex → Ex
op o column e d = x.chain x.of_sum e (x.link o (at column) d x.no_links)

abbrev pub op_op : Operator → ℕ → ℕ → Ex → Ex → Ex → Ex
op_op o column further e d c = x.chain x.of_sum e (x.link o (at column) d (x.link o (at further) c x.no_links))

abbrev pub index : ℕ → Ex → Ex → Ex
index column e i = x.access (at column) e (x.subscript i x.absent x.no_subscripts)

abbrev pub index_two : ℕ → Ex → Ex → Ex → Ex
index_two column e i j = x.access (at column) e (x.subscript i (x.present j) x.no_subscripts)

abbrev pub choose : Ex → Ex → Ex → Ex
choose c e d = x.if_else (at 1) c e x.no_arms d

-- `i in e`
abbrev pub over : ℕ → Ex → Gens
over column e = x.gen ((at column, codes "i") ∷ []) e x.no_gens

-- `let { kind: y = v } in e`, the local in column 7
abbrev pub let_one : Kd → Maybe → Ex → Ex
let_one k v e = x.let_in (at 1) (x.decl (x.declare (at 7) k (codes "y") x.no_notes v) x.no_decls) false e

abbrev pub plain : Bs → Kd
plain base = x.kind x.no_indices mode.Unmarked base

abbrev pub variable : Bs → Kd
variable base = x.kind x.no_indices mode.Var base

-- ---- models, beside a library without items

abbrev pub model : List It → Typing (List ExprType)
model items = typings (model_terms items [])

abbrev pub has_fault : Cause → ℕ → Typing (List ExprType)
has_fault c column = fault c (at column)

abbrev pub declares : ℕ → Kd → List ℕ → Maybe → It
declares column k w v = x.declaration (x.declare (at column) k w x.no_notes v)

abbrev pub solve : ℕ → It
solve column = x.solve (at column) x.no_notes (x.satisfy (at column))
