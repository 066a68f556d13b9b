-- Values of names on a point: a number for each variable, in the order of the variables.
use Rattle.std.specs.Prelude.{ℕ, ℤ, pos, Bool, false, List, map, slice_get, Option, Some, None}
use Rattle.ms_num.specs.Numbers.{int_eq}
use Rattle.ms_trees.specs.declared.tree.Ground.{out-Ground}
use Rattle.ms_trees.specs.declared.tree.Ground.TheOpen.{Ground-F, Var, BVar}
use Rattle.ms_typing.specs.declared.types.ExprType.{ExprType}
use Rattle.ms_code.specs.Items.{value_among}
use Rattle.ms_types.specs.Texts.{names_among}
use Rattle.ms_values.specs.declared.operand.Placed.{Placed}
use Rattle.ms_values.specs.declared.operand.Cells.{Cells}
use Rattle.ms_values.specs.declared.operand.Cells.TheVariants as c
use Rattle.ms_values.specs.declared.operand.Operand.{Operand}
use Rattle.ms_values.specs.declared.operand.Operand.TheVariants as o
use Rattle.ms_values.specs.declared.value.Value.{Value}
use Rattle.ms_placing.specs.Values.{given}
use Rattle.ms_instance.specs.Names.{value_or_nothing}
use Rattle.ms_instance.specs.Views.{text_of, values_of}
use Rattle.ms_instance.specs.declared.instance.Instance.{Instance}

-- the number of a variable; what stands for a name are variables alone
abbrev pub number_layer : {X : Type 0} → List ℤ → Ground-F X → Option ℤ
number_layer point (Var v) = slice_get point v
number_layer point (BVar v) = slice_get point v
number_layer point other = None

abbrev pub number_at : List ℤ → Placed → Option ℤ
number_at point x = number_layer point (out-Ground x.tree)

-- 1 is true
abbrev pub is_one : Option ℤ → Bool
is_one None = false
is_one (Some z) = int_eq z (pos 1)

abbrev pub truth_at : List ℤ → Placed → Bool
truth_at point x = is_one (number_at point x)

abbrev pub known_cells : List ℤ → Cells → Cells
known_cells point (c.Numbers ns) = c.Numbers ns
known_cells point (c.Truths bs) = c.Truths bs
known_cells point (c.Texts ts) = c.Texts ts
known_cells point (c.Integers xs) = c.Numbers (map (number_at point) xs)
known_cells point (c.Conditions xs) = c.Truths (map (truth_at point) xs)

-- what stands for a name, on the point
abbrev pub known_at : List ℤ → Operand → Operand
known_at point (o.Number m) = o.Number m
known_at point (o.Truth b) = o.Truth b
known_at point (o.Set s) = o.Set s
known_at point (o.Text t) = o.Text t
known_at point (o.Integer x) = o.Number (number_at point x)
known_at point (o.Condition x) = o.Truth (truth_at point x)
known_at point (o.Array a) = o.Array (record { indices = a.indices; cells = known_cells point a.cells })
known_at point (o.NoArray kind) = o.NoArray kind

-- of each name
abbrev pub known_values : Instance → List ℤ → List Operand
known_values i point = map (known_at point) (values_of i)

-- the value that callers are given of a name, by its number
abbrev pub given_at : Instance → List ℤ → ℕ → Option Value
given_at i point n = given (known_at point (value_or_nothing (slice_get (values_of i) n)))

-- of a name by its text; none for one that the model does not declare, for a function, and where there is no value
abbrev pub value_on : Instance → List ℕ → List ℤ → Option Value
value_on i w point = at_number (value_among (names_among (text_of i)).model w)
  where
    at_number : Option (ℕ × ExprType) → Option Value
    at_number None = None
    at_number (Some n) = given_at i point n.0
