-- The typed trees of items.
use Rattle.std.specs.Prelude.{ℕ, suc, Bool, true, false, List, [], ◌∷◌, map, Option, Some, None, option_map, if◌then◌else◌}
use Rattle.std.specs.Str.{bytes_eq}
use Rattle.ms_syntax.specs.declared.token.Place.{Place}
use Rattle.ms_syntax.specs.Tree.{Bs, Decl, Ex, Gl, Indices, It, Kd, Maybe, Params}
use Rattle.ms_syntax.specs.Tree as x
use Rattle.ms_typing.specs.declared.types.ExprType.{ExprType}
use Rattle.ms_typing.specs.declared.types.ExprType.TheVariants.{Search, Text}
use Rattle.ms_typing.specs.declared.types.Surroundings.{Surroundings}
use Rattle.ms_typing.specs.declared.types.Surroundings.TheVariants as s
use Rattle.ms_typing.specs.Conversion.{as_known, known_of, numbers, shape_of, truths}
use Rattle.ms_typing.specs.Kinds.{type_of_kind}
use Rattle.ms_typing.specs.Meaning.{Globals, Meaning, Names, World, is_search}
use Rattle.ms_typing.specs.Meaning as m
use Rattle.ms_typing.specs.Items.{around_body, own_names, param_types, with_params}
use Rattle.ms_code.specs.Code.{brought, code_of, maybe_code, type_of}
use Rattle.ms_code.specs.declared.code.Code.{Code}
use Rattle.ms_code.specs.declared.item.Declaration.{Declaration}
use Rattle.ms_code.specs.declared.item.Function.{Function}
use Rattle.ms_code.specs.declared.item.Goal.{Goal}
use Rattle.ms_code.specs.declared.item.Goal.TheVariants as g
use Rattle.ms_code.specs.declared.item.Item.{Item}
use Rattle.ms_code.specs.declared.item.Item.TheVariants as i

-- an expression brought to this type
abbrev pub asked_code : ExprType → World → Surroundings → Names → Ex → Code
asked_code t world s ns e = brought t (type_of world s ns e) (code_of world s ns e)

abbrev pub asked_maybe : ExprType → World → Surroundings → Names → Maybe → Option Code
asked_maybe t world s ns x.absent = None
asked_maybe t world s ns (x.present e) = Some (asked_code t world s ns e)

-- ---- declarations: what stands in a kind sees no locals

abbrev pub indices_code : World → Indices → List (Option Code)
indices_code world x.no_indices = []
indices_code world (x.index e is) = maybe_code world s.Model [] e ∷ indices_code world is

abbrev pub within_code : World → Bs → Option Code
within_code world x.of_bool = None
within_code world x.of_int = None
within_code world x.of_string = None
within_code world x.of_ann = None
within_code world x.set_of_int = None
within_code world (x.set_of e) = Some (code_of world s.Model [] e)
within_code world (x.of_values e) = Some (code_of world s.Model [] e)

abbrev pub declaration_code : World → Decl → Declaration
declaration_code world (x.declare p (x.kind is mode base) w notes v) =
    let t = type_of_kind (x.kind is mode base) in
    record { place = p; kind = t; indices = indices_code world is; within = within_code world base; value = asked_maybe t world s.Model [] v }

-- ---- functions

-- the body as an output item calls it
abbrev pub known_code : World → ExprType → Params → Ex → Option Code
known_code world t ps e = if is_search t then None else Some (asked_code (as_known t) world s.Called (with_params ps []) e)

abbrev pub function_code : World → Place → Params → ExprType → Ex → Function
function_code world p ps t e =
    record { place = p; parameters = param_types ps; result = t; body = asked_code t world (around_body t) (with_params ps []) e; known_body = known_code world t ps e }

-- ---- items

-- the number and the type of the first name that is declared so, unless it is a function's
abbrev pub value_among : Globals → List ℕ → Option (ℕ × ExprType)
value_among [] w = None
value_among (n ∷ ns) w = if bytes_eq n.0 w then value_at n.1 else option_map (λ r. (suc r.0, r.1)) (value_among ns w)
  where
    value_at : Meaning → Option (ℕ × ExprType)
    value_at (m.value t) = Some (0, t)
    value_at (m.function us t) = None
    value_at (m.built_in b) = None

abbrev pub assignment_code : World → Place → Ex → Option (ℕ × ExprType) → Item
assignment_code world p e None = i.Assign p None (code_of world s.Model [] e)
assignment_code world p e (Some r) = i.Assign p (Some r.0) (asked_code r.1 world s.Model [] e)

-- an objective is an int, known or variable as it is
abbrev pub objective_code : World → Ex → Code
objective_code world e = asked_code (numbers (known_of (type_of world s.Model [] e))) world s.Model [] e

abbrev pub goal_code : World → Gl → Goal
goal_code world (x.satisfy p) = g.Satisfy
goal_code world (x.minimize p e) = g.Minimize (objective_code world e)
goal_code world (x.maximize p e) = g.Maximize (objective_code world e)
goal_code world (x.search_by p e) = g.Search (asked_code Search world s.Search [] e)

abbrev pub item_code : World → It → Item
item_code world (x.include p w) = i.Include
item_code world (x.declaration d) = i.Declare (declaration_code world d)
item_code world (x.enumeration p w ns) = i.Enum
item_code world (x.assignment p w e) = assignment_code world p e (value_among (own_names world p) w)
item_code world (x.constraint p e notes) = i.Constraint p (asked_code (truths false) world s.Model [] e)
item_code world (x.solve p notes goal) = i.Solve p (goal_code world goal)
item_code world (x.output p e) = i.Output p (asked_code (Text (shape_of (type_of world s.Output [] e))) world s.Output [] e)
item_code world (x.predicate p w ps e) = i.Function (function_code world p ps (truths false) e)
item_code world (x.function p k w ps e) = i.Function (function_code world p ps (type_of_kind k) e)

abbrev pub items_code : World → List It → List Item
items_code world = map (item_code world)

-- ---- data: a value for a name of this type

abbrev pub data_code : ExprType → World → Ex → Code
data_code t world e = asked_code t world s.Data [] e
