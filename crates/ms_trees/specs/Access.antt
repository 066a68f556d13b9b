-- Which places of a list of elements an access by index takes.
use Rattle.std.specs.Prelude.{◌≡◌, ℕ, ◌<◌, List, Option, Some, None, Bool, true, false, ℤ}
use Rattle.ms_trees.specs.Value.{Meaning}
use Rattle.ms_trees.specs.Enclosure.{is_reached, is_reached2}
use Rattle.ms_trees.specs.Laws.{number_there}
use Rattle.ms_trees.specs.declared.access.Access.{Access}
use Rattle.ms_trees.specs.declared.access.Access.TheVariants.{Line, Grid}

abbrev pub reaches : Access → ℕ → Bool
reaches (Line low index) = is_reached low index
reaches (Grid low left width count row column) = is_reached2 low left width count row column

-- the place passes, and no other one below n does
pub record IsOnlyPlace (at : ℕ → Bool) (n p : ℕ) : Type 0 where
  pub below : p < n
  pub passes : at p ≡ true
  pub only : (q : ℕ) → q < n → at q ≡ true → q ≡ p

-- the one place below n that passes, or none where none does
abbrev pub FindsPlace : (ℕ → Bool) → ℕ → Option ℕ → Type 0
FindsPlace at n None = (p : ℕ) → p < n → at p ≡ false
FindsPlace at n (Some p) = IsOnlyPlace at n p

-- the number of the part at the place, if there is a place
abbrev pub number_of : List Meaning → Option ℕ → Option ℤ
number_of ms None = None
number_of ms (Some p) = number_there ms p
