-- Which values may be handed in, over the intervals of the declared sets.
use Rattle.std.specs.Prelude.{Bool, true, false, ◌&&◌, List}
use Rattle.std.specs.List.{list_all}
use Rattle.ms_num.specs.Span.{Span, is_within}
use Rattle.ms_trees.specs.WellFormed.{is_well_formed}
use Rattle.ms_trees.specs.declared.tree.Ground.{Ground, out-Ground}
use Rattle.ms_trees.specs.declared.tree.Ground.TheOpen.{Ground-F, Num, Undef, True, False}
use Rattle.ms_typing.specs.declared.types.ExprType.{ExprType}
use Rattle.ms_values.specs.declared.operand.Kind.{Kind}
use Rattle.ms_values.specs.declared.operand.Kind.TheVariants as k
use Rattle.ms_values.specs.declared.value.Value.{Value}
use Rattle.ms_values.specs.declared.value.Value.TheVariants as v
use Rattle.ms_rules.specs.Conversions.{kind_of_type}

abbrev pub leaf_layer : {X : Type 0} → Ground-F X → Bool
leaf_layer (Num n) = is_within n
leaf_layer Undef = true
leaf_layer True = true
leaf_layer False = true
leaf_layer other = false

-- a known integer or Boolean
abbrev pub is_leaf : Ground → Bool
is_leaf t = leaf_layer (out-Ground t)

-- the elements are known where the kind is, and else each may be asked
abbrev pub are_fit : List Span → Kind → List Ground → Bool
are_fit sets k.Number ts = list_all is_leaf ts
are_fit sets k.Truth ts = list_all is_leaf ts
are_fit sets k.Text ts = true
are_fit sets k.Integer ts = list_all (is_well_formed sets) ts
are_fit sets k.Condition ts = list_all (is_well_formed sets) ts

abbrev pub is_fit_as : List Span → Kind → Value → Bool
is_fit_as sets kind (v.Number n) = is_within n
is_fit_as sets kind (v.Truth b) = true
is_fit_as sets kind (v.Set rs) = true
is_fit_as sets kind (v.Text t) = true
is_fit_as sets kind (v.Tree t) = is_well_formed sets t
is_fit_as sets kind (v.Trees1 r ts) = is_within r.lo && are_fit sets kind ts
is_fit_as sets kind (v.Trees2 rows columns ts) = is_within rows.lo && is_within columns.lo && are_fit sets kind ts
is_fit_as sets kind (v.Texts1 r ts) = is_within r.lo
is_fit_as sets kind (v.Texts2 rows columns ts) = is_within rows.lo && is_within columns.lo

-- numbers are within the limits, and trees may be asked on the intervals
abbrev pub is_fit : List Span → ExprType → Value → Bool
is_fit sets t x = is_fit_as sets (kind_of_type t) x
