-- Which declaration a name stands for, as a place.
use Rattle.std.specs.Prelude.{ℕ, suc, List, [], ◌∷◌, Option, Some, None, option_map, if◌then◌else◌}
use Rattle.std.specs.Str.{bytes_eq}
use Rattle.ms_syntax.specs.declared.token.Place.{Place}
use Rattle.ms_built_ins.specs.BuiltIns as b
use Rattle.ms_built_ins.specs.BuiltIns.{or_else}
use Rattle.ms_typing.specs.Meaning.{Globals, Names, World, is_library}
use Rattle.ms_code.specs.declared.code.Reference.{Reference}
use Rattle.ms_code.specs.declared.code.Reference.TheVariants as r

-- the number of the first that is declared so
abbrev pub number_among : Globals → List ℕ → Option ℕ
number_among [] w = None
number_among (g ∷ gs) w = if bytes_eq g.0 w then Some 0 else option_map suc (number_among gs w)

abbrev pub refer_library : World → List ℕ → Option Reference
refer_library world w = or_else (option_map r.Library (number_among world.library w)) (option_map r.BuiltIn (b.built_in w))

abbrev pub refer_model : World → List ℕ → Option Reference
refer_model world w = or_else (option_map r.Model (number_among world.model w)) (refer_library world w)

-- what items or the language declare: the library does not see the model's names
abbrev pub refer_outside : World → Place → List ℕ → Option Reference
refer_outside world p w = if is_library p then refer_library world w else refer_model world w

-- the number of the first that is declared so, the latest first
abbrev pub number_inside : Names → List ℕ → Option ℕ
number_inside [] w = None
number_inside (n ∷ ns) w = if bytes_eq n.0 w then Some 0 else option_map suc (number_inside ns w)

abbrev pub refer : World → Place → Names → List ℕ → Option Reference
refer world p ns w = or_else (option_map r.Local (number_inside ns w)) (refer_outside world p w)
