-- A name among the names around an expression: where it stands, counted from the latest.
use Rattle.std.specs.Prelude.{ℕ, suc, List, [], ◌∷◌, if◌then◌else◌}
use Rattle.std.specs.Str.{bytes_eq}
use Rattle.ms_typing.specs.Meaning.{Names}
use Rattle.ms_names.specs.declared.scope.Looked.{Looked}
use Rattle.ms_names.specs.declared.scope.Looked.TheVariants.{Found, Passed}

-- the first that is declared so with its number, or the number behind all, where the first has this number
abbrev pub looked : ℕ → Names → List ℕ → Looked
looked k [] w = Passed k
looked k (n ∷ ns) w = if bytes_eq n.0 w then Found k n.1 else looked (suc k) ns w
