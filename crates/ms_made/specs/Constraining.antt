-- The constraints: those of the items and the values that variables are given, in their order.
use Rattle.std.specs.Prelude.{ℕ, ◌+◌, nat_le, List, [], ◌∷◌, ◌++◌, length, slice_get, Bool, true, false, Option, Some, None, if◌then◌else◌}
use Rattle.ms_base.specs.declared.run.Count.TheVariants as count
use Rattle.ms_base.specs.declared.limits.TheConstants.{LIVE_NODE_LIMIT, TREE_NESTING_LIMIT}
use Rattle.ms_syntax.specs.declared.token.Place.{Place}
use Rattle.ms_syntax.specs.Tree.{It}
use Rattle.ms_trees.specs.declared.tree.Ground.{Ground}
use Rattle.ms_tree_nodes.specs.Nodes.{equal, equivalence}
use Rattle.ms_typing.specs.declared.types.ExprType.{ExprType}
use Rattle.ms_typing.specs.Items.{globals_of}
use Rattle.ms_code.specs.Items.{item_code, value_among}
use Rattle.ms_code.specs.declared.code.Code.{Code}
use Rattle.ms_code.specs.declared.item.Declaration.{Declaration}
use Rattle.ms_code.specs.declared.item.Item.{Item}
use Rattle.ms_code.specs.declared.item.Item.TheVariants as i
use Rattle.ms_types.specs.Texts.{model_of, names_among}
use Rattle.ms_types.specs.declared.typed.Typed.{Typed}
use Rattle.ms_values.specs.declared.operand.Placed.{Placed}
use Rattle.ms_values.specs.declared.operand.Cells.{Cells}
use Rattle.ms_values.specs.declared.operand.Cells.TheVariants as c
use Rattle.ms_values.specs.declared.operand.Operand.{Operand}
use Rattle.ms_values.specs.declared.operand.Operand.TheVariants as o
use Rattle.ms_rules.specs.Operands.{condition_of}
use Rattle.ms_walk.specs.Around.{Around}
use Rattle.ms_instance.specs.Names.{value_or_nothing}
use Rattle.ms_given.specs.Givings.{Pair}
use Rattle.ms_declared.specs.Placing.{placed_in}
use Rattle.ms_declared.specs.Values.{Given, value_of}
use Rattle.ms_declared.specs.Variables.{Declared}
use Rattle.ms_made.specs.Making.{Making, and_next, done, failed, of_name}
use Rattle.ms_made.specs.Giving.{typed_data}
use Rattle.ms_made.specs.Coming.{name_at}
use Rattle.ms_made.specs.Standing.{around, is_known}
use Rattle.ms_made.specs.declared.fault.InstanceFault.TheVariants as f

-- the constraints so far, and their nodes together
pub record Constraints : Type 0 where
  pub trees : List Ground
  pub nodes : ℕ

abbrev pub no_constraints : Constraints
no_constraints = record { trees = []; nodes = 0 }

-- ---- one more, at this place

abbrev pub with_tree : Placed → Constraints → Constraints
with_tree x cs = record { trees = cs.trees ++ x.tree ∷ []; nodes = cs.nodes + x.size }

abbrev pub constrain : Place → Placed → Constraints → Making Constraints
constrain p x cs =
    if nat_le x.nesting TREE_NESTING_LIMIT then (if nat_le (cs.nodes + x.size) LIVE_NODE_LIMIT then done (with_tree x cs) else failed (f.Big count.Nodes p))
    else failed (f.Big count.Nesting p)

abbrev pub constrain_all : Place → List Placed → Constraints → Making Constraints
constrain_all p [] cs = done cs
constrain_all p (x ∷ xs) cs = and_next (constrain p x cs) (λ more. constrain_all p xs more)

-- ---- equations of variables with their values

abbrev pub each_equal : List Placed → List Placed → List Placed
each_equal [] ys = []
each_equal (x ∷ xs) [] = []
each_equal (x ∷ xs) (y ∷ ys) = equal x y ∷ each_equal xs ys

abbrev pub each_equivalent : List Placed → List Placed → List Placed
each_equivalent [] ys = []
each_equivalent (x ∷ xs) [] = []
each_equivalent (x ∷ xs) (y ∷ ys) = equivalence x y ∷ each_equivalent xs ys

abbrev pub integer_equations : List Placed → Cells → List Placed
integer_equations xs (c.Integers ys) = each_equal xs ys
integer_equations xs other = []

abbrev pub condition_equations : List Placed → Cells → List Placed
condition_equations xs (c.Conditions ys) = each_equivalent xs ys
condition_equations xs other = []

abbrev pub cell_equations : Cells → Cells → List Placed
cell_equations (c.Integers xs) cs = integer_equations xs cs
cell_equations (c.Conditions xs) cs = condition_equations xs cs
cell_equations other cs = []

abbrev pub array_equations : Cells → Operand → List Placed
array_equations cs (o.Array b) = cell_equations cs b.cells
array_equations cs other = []

abbrev pub integer_equation : Placed → Operand → List Placed
integer_equation x (o.Integer y) = equal x y ∷ []
integer_equation x other = []

abbrev pub condition_equation : Placed → Operand → List Placed
condition_equation x (o.Condition y) = equivalence x y ∷ []
condition_equation x other = []

-- of what a declaration stands for with a value of its type: one, or one for each element
abbrev pub equations : Operand → Operand → List Placed
equations (o.Integer x) y = integer_equation x y
equations (o.Condition x) y = condition_equation x y
equations (o.Array a) y = array_equations a.cells y
equations other y = []

abbrev pub equate : Around → List Operand → ℕ → List ℕ → Declared → Given → Constraints → Making Constraints
equate a values n w d g cs =
    and_next (of_name w (value_of a d.sides d.within g)) (λ x. constrain_all x.0 (equations (value_or_nothing (slice_get values n)) x.1) cs)

-- a known name has no equations
abbrev pub equate_by : Typed → List Operand → ℕ → Given → Constraints → Option (Option Declared) → Making Constraints
equate_by typed values n g cs (Some (Some d)) = if is_known d then done cs else equate (around typed values) values n (name_at typed n) d g cs
equate_by typed values n g cs (Some None) = done cs
equate_by typed values n g cs None = done cs

-- the name with this number is given a value
abbrev pub given_value : Typed → List (Option Declared) → List Operand → ℕ → Given → Constraints → Making Constraints
given_value typed ds values n g cs = equate_by typed values n g cs (slice_get ds n)

-- ---- items

abbrev pub given_code : Typed → List (Option Declared) → List Operand → ℕ → ℕ → Option Code → Constraints → Making Constraints
given_code typed ds values n file None cs = done cs
given_code typed ds values n file (Some e) cs = given_value typed ds values n (record { file = file; code = Some e }) cs

abbrev pub placed_constraint : Typed → List Operand → Code → Constraints → Making Constraints
placed_constraint typed values e cs =
    and_next (of_name [] (placed_in (around typed values) e)) (λ x. constrain x.0 (condition_of x.1) cs)

-- an item, where the first name that it declares has this number
abbrev pub constrained_by : Typed → List (Option Declared) → List Operand → ℕ → Item → Constraints → Making Constraints
constrained_by typed ds values n (i.Declare d) cs = given_code typed ds values n d.place.file d.value cs
constrained_by typed ds values n (i.Assign p (Some k) e) cs = given_code typed ds values k p.file (Some e) cs
constrained_by typed ds values n (i.Assign p None e) cs = done cs
constrained_by typed ds values n (i.Constraint p e) cs = placed_constraint typed values e cs
constrained_by typed ds values n i.Include cs = done cs
constrained_by typed ds values n i.Enum cs = done cs
constrained_by typed ds values n (i.Solve p goal) cs = done cs
constrained_by typed ds values n (i.Output p e) cs = done cs
constrained_by typed ds values n (i.Function g) cs = done cs

abbrev pub constrained_items : Typed → List (Option Declared) → List Operand → ℕ → List It → Constraints → Making Constraints
constrained_items typed ds values n [] cs = done cs
constrained_items typed ds values n (it ∷ its) cs =
    and_next (constrained_by typed ds values n (item_code (names_among typed) it) cs)
    (λ more. constrained_items typed ds values (n + length (globals_of it)) its more)

-- ---- data

abbrev pub given_pair : Typed → List (Option Declared) → List Operand → Pair → Option (ℕ × ExprType) → Constraints → Making Constraints
given_pair typed ds values d None cs = done cs
given_pair typed ds values d (Some r) cs =
    given_value typed ds values r.0 (record { file = d.0.file; code = typed_data (names_among typed) r.1 d.2 }) cs

abbrev pub constrained_data : Typed → List (Option Declared) → List Operand → List Pair → Constraints → Making Constraints
constrained_data typed ds values [] cs = done cs
constrained_data typed ds values (d ∷ more) cs =
    and_next (given_pair typed ds values d (value_among (names_among typed).model d.1) cs) (λ next. constrained_data typed ds values more next)

-- ---- all of them

abbrev pub constrained : Typed → List Pair → List (Option Declared) → List Operand → Making Constraints
constrained typed pairs ds values =
    and_next (constrained_items typed ds values 0 (model_of typed).0 no_constraints) (λ cs. constrained_data typed ds values pairs cs)
