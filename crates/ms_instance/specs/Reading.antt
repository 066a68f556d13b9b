-- What a model asks for and shows: the goal of its solve item, its output items, and its variables by their names.
use Rattle.std.specs.Prelude.{ℕ, suc, Bool, true, false, List, [], ◌∷◌, ◌++◌, slice_get, Option, Some, None, filter_map, if◌then◌else◌}
use Rattle.std.specs.Option.{option_or}
use Rattle.ms_syntax.specs.Tree.{It, Kd}
use Rattle.ms_syntax.specs.Tree as x
use Rattle.ms_typing.specs.Conversion.{known_of}
use Rattle.ms_typing.specs.Kinds.{type_of_kind}
use Rattle.ms_code.specs.Items.{items_code}
use Rattle.ms_code.specs.declared.code.Code.{Code}
use Rattle.ms_code.specs.declared.item.Goal.{Goal}
use Rattle.ms_code.specs.declared.item.Item.{Item}
use Rattle.ms_code.specs.declared.item.Item.TheVariants as i
use Rattle.ms_types.specs.Texts.{model_of, library_of, names_among}
use Rattle.ms_types.specs.declared.typed.Typed.{Typed}

-- ---- the typed items of both texts

abbrev pub model_items : Typed → List Item
model_items t = items_code (names_among t) (model_of t).0

abbrev pub library_items : Typed → List Item
library_items t = items_code (names_among t) (library_of t).0

-- ---- the goal

abbrev pub goal_of : Item → Option Goal
goal_of (i.Solve p g) = Some g
goal_of other = None

-- that of the first solve item; a model has one
abbrev pub first_goal : List Item → Option Goal
first_goal [] = None
first_goal (it ∷ is) = option_or (goal_of it) (first_goal is)

abbrev pub goal_in : Typed → Option Goal
goal_in t = first_goal (model_items t)

-- ---- output items

abbrev pub output_of : Item → Option Code
output_of (i.Output p e) = Some e
output_of other = None

abbrev pub is_output : Item → Bool
is_output (i.Output p e) = true
is_output other = false

-- the typed trees of the output items, in their order
abbrev pub outputs_in : Typed → List Code
outputs_in t = filter_map output_of (model_items t)

-- where they stand; the first item has this place
abbrev pub output_places : ℕ → List Item → List ℕ
output_places k [] = []
output_places k (it ∷ is) = if is_output it then k ∷ output_places (suc k) is else output_places (suc k) is

abbrev pub output_of_item : Option Item → Option Code
output_of_item None = None
output_of_item (Some it) = output_of it

abbrev pub output_at : List Item → Option ℕ → Option Code
output_at is None = None
output_at is (Some k) = output_of_item (slice_get is k)

-- ---- variables

abbrev pub variable_named : Kd → List ℕ → List (List ℕ)
variable_named k w = if known_of (type_of_kind k) then [] else w ∷ []

abbrev pub shown_by : It → List (List ℕ)
shown_by (x.declaration (x.declare p k w notes v)) = variable_named k w
shown_by other = []

abbrev pub shown_among : List It → List (List ℕ)
shown_among [] = []
shown_among (it ∷ is) = shown_by it ++ shown_among is

-- the names of the declared variables and arrays of variables, in their order
abbrev pub shown_in : Typed → List (List ℕ)
shown_in t = shown_among (model_of t).0
