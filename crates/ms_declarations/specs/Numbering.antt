-- Names by their numbers.
use Rattle.std.specs.Prelude.{ℕ, suc, List, [], ◌∷◌, Option, Some, None, option_map, if◌then◌else◌}
use Rattle.std.specs.Str.{bytes_eq}
use Rattle.ms_syntax.specs.Tree.{Names}

-- the number of the first of some names that is this one
abbrev pub number_of : Names → List ℕ → Option ℕ
number_of [] w = None
number_of (n ∷ ns) w = if bytes_eq n.1 w then Some 0 else option_map (λ k. suc k) (number_of ns w)
