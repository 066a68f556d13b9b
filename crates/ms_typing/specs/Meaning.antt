-- What a name stands for, and whether it may stand where it does.
use Rattle.std.specs.Prelude.{ℕ, Bool, true, false, ◌||◌, not, List, [], ◌∷◌, Option, Some, None, map, option_map, if◌then◌else◌, ◌==◌}
use Rattle.std.specs.Str.{bytes_eq}
use Rattle.ms_syntax.specs.declared.token.Place.{Place}
use Rattle.ms_typing.specs.declared.types.ExprType.{ExprType}
use Rattle.ms_typing.specs.declared.types.ExprType.TheVariants.{Plain, Text, Set, Search}
use Rattle.ms_typing.specs.declared.types.Surroundings.{Surroundings}
use Rattle.ms_typing.specs.declared.types.Surroundings.TheVariants as s
use Rattle.ms_built_ins.specs.declared.names.BuiltIn.{BuiltIn}
use Rattle.ms_built_ins.specs.BuiltIns as b
use Rattle.ms_built_ins.specs.BuiltIns.{Needs, or_else, needs_around, makes_array}
use Rattle.ms_typing.specs.Conversion.{as_known}

pub data Meaning : Type 0 where
  value : ExprType → Meaning
  -- what it takes, and its result; a predicate is a function
  function : List ExprType → ExprType → Meaning
  built_in : BuiltIn → Meaning

-- names that expressions declare, with their types, the latest first
abbrev pub Names : Type 0
Names = List (List ℕ × ExprType)

-- names that items declare
abbrev pub Globals : Type 0
Globals = List (List ℕ × Meaning)

pub record World : Type 0 where
  pub model : Globals
  pub library : Globals

-- ---- what a name stands for

abbrev pub declared : Globals → List ℕ → Option Meaning
declared [] w = None
declared (g ∷ gs) w = if bytes_eq g.0 w then Some g.1 else declared gs w

abbrev pub of_library : World → List ℕ → Option Meaning
of_library world w = or_else (declared world.library w) (option_map built_in (b.built_in w))

abbrev pub of_model : World → List ℕ → Option Meaning
of_model world w = or_else (declared world.model w) (of_library world w)

-- whether what stands at a place is the library's
abbrev pub is_library : Place → Bool
is_library p = p.file == 2

-- what items or the language say of a name at a place: the library does not see the model's names
abbrev pub look_outside : World → Place → List ℕ → Option Meaning
look_outside world p w = if is_library p then of_library world w else of_model world w

abbrev pub look : World → Place → Names → List ℕ → Option Meaning
look world p [] w = look_outside world p w
look world p (n ∷ ns) w = if bytes_eq n.0 w then Some (value n.1) else look world p ns w

-- ---- where it may stand

-- whether every value is known there
abbrev pub knows : Surroundings → Bool
knows s.Model = false
knows s.Search = false
knows s.Output = true
knows s.Called = true
knows s.Data = true

abbrev pub is_data : Surroundings → Bool
is_data s.Model = false
is_data s.Search = false
is_data s.Output = false
is_data s.Called = false
is_data s.Data = true

abbrev pub is_in_search : Surroundings → Bool
is_in_search s.Model = false
is_in_search s.Search = true
is_in_search s.Output = false
is_in_search s.Called = false
is_in_search s.Data = false

abbrev pub is_in_output : Surroundings → Bool
is_in_output s.Model = false
is_in_output s.Search = false
is_in_output s.Output = true
is_in_output s.Called = false
is_in_output s.Data = false

abbrev pub is_search : ExprType → Bool
is_search (Plain b s k) = false
is_search (Text s) = false
is_search Set = false
is_search Search = true

abbrev pub meets_needs : Surroundings → Needs → Bool
meets_needs s b.anywhere = not (is_data s)
meets_needs s b.a_search = is_in_search s
meets_needs s b.an_output = is_in_output s

abbrev pub may_stand : Surroundings → Meaning → Bool
may_stand s (value t) = not (is_data s)
may_stand s (function ts t) = if is_search t then is_in_search s else not (is_data s)
may_stand s (built_in x) = meets_needs s (needs_around x) || makes_array x

-- a type as the surroundings see it
abbrev pub seen : Surroundings → ExprType → ExprType
seen s t = if knows s then as_known t else t

abbrev pub seen_meaning : Surroundings → Meaning → Meaning
seen_meaning s (value t) = value (seen s t)
seen_meaning s (function ts t) = function (map (seen s) ts) (seen s t)
seen_meaning s (built_in x) = built_in x

-- what a name is told as: nothing, what it means, or what it would mean in other surroundings
pub data Told : Type 0 where
  unknown : Told
  means : Meaning → Told
  barred : Meaning → Told

abbrev pub tell : Surroundings → Option Meaning → Told
tell s None = unknown
tell s (Some m) = if may_stand s m then means (seen_meaning s m) else barred m
