-- How often names are bound.
use Rattle.std.specs.Prelude.{ℕ, suc, List, [], ◌∷◌, if◌then◌else◌}
use Rattle.std.specs.Str.{bytes_eq}
use Rattle.ms_free_names.specs.Uses.{Words}

-- how many of some names are this one
abbrev pub times_of : Words → List ℕ → ℕ
times_of [] w = 0
times_of (b ∷ bs) w = if bytes_eq b w then suc (times_of bs w) else times_of bs w
