-- Which item declares a name.
use Rattle.std.specs.Prelude.{◌≡◌, ℕ, suc, ◌<◌, List, [], ◌∷◌, ◌++◌, length, map, Some}
use Rattle.std.specs.List.{slice_get}
use Rattle.ms_syntax.specs.Tree.{It}
use Rattle.ms_typing.specs.Items.{globals, globals_of}

-- for each name that items declare, in their order, the place of the item that declares it; the first item has this place
abbrev pub declarers : ℕ → List It → List ℕ
declarers k [] = []
declarers k (i ∷ is) = map (λ g. k) (globals_of i) ++ declarers (suc k) is

-- an item stands at this place, and the name with this number is one of those that it declares
abbrev pub IsDeclaredAt : List It → ℕ → ℕ → Type 0
IsDeclaredAt is n k = (i : It) × (j : ℕ) × (slice_get is k ≡ Some i) × (j < length (globals_of i)) × (slice_get (globals is) n ≡ slice_get (globals_of i) j)

-- each name has its item
abbrev pub AllHaveDeclarers : Type 0
AllHaveDeclarers = (is : List It) → length (declarers 0 is) ≡ length (globals is)

abbrev pub DeclarersDeclare : Type 0
DeclarersDeclare = (is : List It) (n k : ℕ) → slice_get (declarers 0 is) n ≡ Some k → IsDeclaredAt is n k
