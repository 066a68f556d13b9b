-- The solutions that begin with given numbers.
use Rattle.std.specs.Prelude.{◌≡◌, List, ◌++◌, ◌⊎◌, true, ℤ}
use Rattle.std.specs.List.{list_all}
use Rattle.ms_trees.specs.declared.tree.Ground.{Ground}
use Rattle.ms_trees.specs.Enclosure.{points}
use Rattle.ms_trees.specs.WellFormed.{is_well_formed}
use Rattle.ms_top.specs.declared.domain.Domain.{Domain}
use Rattle.ms_top.specs.Solution.{Within, Precedes, meets}

-- the trees may be asked on each assignment that begins so, the rest within the domains
abbrev pub FitBehind : List ℤ → List Domain → List Ground → Type 0
FitBehind front ds trees = (a : List ℤ) → Within ds a → list_all (is_well_formed (points (front ++ a))) trees ≡ true

-- the least assignment that begins so and meets the trees
pub record LeastBehind (front : List ℤ) (ds : List Domain) (trees : List Ground) (found : List ℤ) : Type 0 where
  pub rest : List ℤ
  pub whole : found ≡ front ++ rest
  pub within : Within ds rest
  pub met : meets trees found ≡ true
  pub least : (a : List ℤ) → Within ds a → meets trees (front ++ a) ≡ true → (a ≡ rest) ⊎ Precedes rest a

-- no assignment that begins so meets the trees
abbrev pub NoneBehind : List ℤ → List Domain → List Ground → Type 0
NoneBehind front ds trees = (a : List ℤ) → Within ds a → meets trees (front ++ a) ≡ true → ⊥
