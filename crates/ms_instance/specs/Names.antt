-- What the names that items declare stand for: values, and bodies of functions.
use Rattle.std.specs.Prelude.{◌≡◌, ℕ, Bool, true, false, List, [], ◌∷◌, slice_get, Option, Some, None}
use Rattle.ms_num.specs.Span.{Span}
use Rattle.ms_trees.specs.WellFormed.{is_well_formed}
use Rattle.ms_trees.specs.declared.tree.Ground.{Ground, out-Ground}
use Rattle.ms_trees.specs.declared.tree.Ground.TheOpen.{Ground-F, Var, BVar}
use Rattle.ms_typing.specs.declared.types.ExprType.{ExprType}
use Rattle.ms_typing.specs.Meaning.{Globals, Meaning}
use Rattle.ms_typing.specs.Meaning as m
use Rattle.ms_code.specs.declared.code.Code.{Code}
use Rattle.ms_code.specs.declared.item.Item.{Item}
use Rattle.ms_code.specs.declared.item.Item.TheVariants as i
use Rattle.ms_tree_nodes.specs.Kept.{IsKept}
use Rattle.ms_values.specs.declared.operand.Placed.{Placed}
use Rattle.ms_values.specs.declared.operand.Cells.{Cells}
use Rattle.ms_values.specs.declared.operand.Cells.TheVariants as c
use Rattle.ms_values.specs.declared.operand.Operand.{Operand}
use Rattle.ms_values.specs.declared.operand.Operand.TheVariants as o
use Rattle.ms_rules.specs.Calls.{nothing}
use Rattle.ms_rules.specs.Conversions.{convert}

-- ---- declared values

abbrev pub trees_among : Cells → List Placed
trees_among (c.Numbers ns) = []
trees_among (c.Truths bs) = []
trees_among (c.Texts ts) = []
trees_among (c.Integers xs) = xs
trees_among (c.Conditions xs) = xs

-- the trees of a value
abbrev pub trees_in : Operand → List Placed
trees_in (o.Number m) = []
trees_in (o.Truth b) = []
trees_in (o.Set s) = []
trees_in (o.Text t) = []
trees_in (o.Integer x) = x ∷ []
trees_in (o.Condition x) = x ∷ []
trees_in (o.Array a) = trees_among a.cells
trees_in (o.NoArray kind) = []

abbrev pub variable_layer : {X : Type 0} → Ground-F X → Bool
variable_layer (Var v) = true
variable_layer (BVar v) = true
variable_layer other = false

-- one variable, and nothing else
abbrev pub is_variable_tree : Ground → Bool
is_variable_tree t = variable_layer (out-Ground t)

-- a variable with a number, over these intervals, with what it may mean
pub record IsVariable (sets : List Span) (x : Placed) : Type 0 where
  pub variable : is_variable_tree x.tree ≡ true
  pub fit : is_well_formed sets x.tree ≡ true
  pub kept : IsKept sets x

abbrev pub AreVariables : List Span → List Placed → Type 0
AreVariables sets [] = Unit {0}
AreVariables sets (x ∷ xs) = IsVariable sets x × AreVariables sets xs

-- a value of the type, in which variables alone are trees
pub record IsValue (sets : List Span) (t : ExprType) (x : Operand) : Type 0 where
  pub typed : convert t x ≡ x
  pub variables : AreVariables sets (trees_in x)

-- functions have no value
abbrev pub Stands : List Span → Meaning → Operand → Type 0
Stands sets (m.value t) x = IsValue sets t x
Stands sets (m.function ts t) x = x ≡ nothing
Stands sets (m.built_in b) x = x ≡ nothing

-- a value for each name
abbrev pub AreDeclared : List Span → Globals → List Operand → Type 0
AreDeclared sets [] [] = Unit {0}
AreDeclared sets (g ∷ gs) (x ∷ xs) = Stands sets g.1 x × AreDeclared sets gs xs
AreDeclared sets [] (x ∷ xs) = ⊥
AreDeclared sets (g ∷ gs) [] = ⊥

-- the value of the name with this number
abbrev pub value_or_nothing : Option Operand → Operand
value_or_nothing (Some x) = x
value_or_nothing None = nothing

-- ---- bodies of functions

abbrev pub body_of : Item → Option Code
body_of (i.Function f) = Some f.body
body_of other = None

-- where every value is known; a search has none
abbrev pub known_body_of : Item → Option Code
known_body_of (i.Function f) = f.known_body
known_body_of other = None

abbrev pub at_item : (Item → Option Code) → List Item → Option ℕ → Option Code
at_item read is None = None
at_item read is (Some k) = at_found (slice_get is k)
  where
    at_found : Option Item → Option Code
    at_found None = None
    at_found (Some it) = read it

-- of the function whose name has this number, from the places of the items that declare the names
abbrev pub body_at : (Item → Option Code) → List Item → List ℕ → ℕ → Option Code
body_at read is places n = at_item read is (slice_get places n)
