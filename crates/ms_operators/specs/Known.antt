-- Numbers of a list that all have a value.
use Rattle.std.specs.Prelude.{ℤ, List, [], ◌∷◌, Option, Some, None, option_map}

abbrev pub known_of : List (Option ℤ) → Option (List ℤ)
known_of [] = Some []
known_of (None ∷ ns) = None
known_of (Some z ∷ ns) = option_map (λ zs. z ∷ zs) (known_of ns)
