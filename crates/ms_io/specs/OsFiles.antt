-- What contracts see of an `OsFiles`, and of a reader that is read to its end.
use Rattle.std.specs.Prelude.{◌≡◌, ℕ, ◌<◌, List, length, Option, None, Some}

pub record OsReads : Type 0 where
  -- the names asked for, in order
  pub asked : List (List ℕ)
  pub faults : ℕ

-- the bytes are all that were left, where those are known
abbrev pub IsAllLeft : Option (List ℕ) → List ℕ → Type 0
IsAllLeft None bytes = Unit {0}
IsAllLeft (Some left) bytes = bytes ≡ left

-- more than `most` bytes were left, where those are known
abbrev pub IsMoreLeft : Option (List ℕ) → ℕ → Type 0
IsMoreLeft None most = Unit {0}
IsMoreLeft (Some left) most = most < length left
