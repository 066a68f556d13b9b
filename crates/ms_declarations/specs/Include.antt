-- Files that may be included.
use Rattle.std.specs.Prelude.{ℕ, Bool, true, false, List, [], ◌∷◌, Option, Some, None, if◌then◌else◌, codes}
use Rattle.std.specs.List.{list_any}
use Rattle.std.specs.Option.{option_or}
use Rattle.std.specs.Str.{bytes_eq}
use Rattle.ms_syntax.specs.declared.token.Place.{Place}
use Rattle.ms_syntax.specs.Tree as x
use Rattle.ms_syntax.specs.Tree.{It}

abbrev pub known_files : List (List ℕ)
known_files = codes "globals.mzn" ∷ codes "minisearch.mzn" ∷ codes "all_different.mzn" ∷ codes "alldifferent.mzn" ∷ codes "table.mzn" ∷ codes "count.mzn" ∷ codes "cumulative.mzn" ∷ codes "circuit.mzn" ∷ []

-- the place of an item that includes another file
abbrev pub unknown_file : It → Option Place
unknown_file (x.include p w) = if list_any (bytes_eq w) known_files then None else Some p
unknown_file i = None

-- that of the first one
abbrev pub first_include : List It → Option Place
first_include [] = None
first_include (i ∷ is) = option_or (unknown_file i) (first_include is)

abbrev pub is_solve : It → Bool
is_solve (x.solve p ns g) = true
is_solve i = false

-- whether there is a solve item
abbrev pub has_solve : List It → Bool
has_solve items = list_any is_solve items
