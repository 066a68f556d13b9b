-- The numbers of a row of words, 64 to a word.
use Rattle.std.specs.Prelude.{◌≡◌, ℕ, zero, suc, ◌+◌, ◌*◌, ◌/◌, ◌%◌, ◌<◌, ◌≤◌, List, length, slice_index, Bool, true, false, if◌then◌else◌, Option, Some, None}
use Rattle.ms_bits.specs.Word.{has_bit}

-- the number k is in the row
abbrev pub in_row : List ℕ → ℕ → Bool
in_row row k = has_bit (slice_index row (k / 64)) (k % 64)

-- how many of the n numbers from k on are
abbrev pub row_count : List ℕ → ℕ → ℕ → ℕ
row_count row k zero = 0
row_count row k (suc n) = (if in_row row k then 1 else 0) + row_count row (suc k) n

-- m is the greatest number of the row up to `to`
pub record IsLastAt (row : List ℕ) (to m : ℕ) : Type 0 where
  pub there : in_row row m ≡ true
  pub before : m ≤ to
  pub greatest : (k : ℕ) → k ≤ to → in_row row k ≡ true → k ≤ m

-- it is that number, or there is none
abbrev pub IsLast : List ℕ → ℕ → Option ℕ → Type 0
IsLast row to (Some m) = IsLastAt row to m
IsLast row to None = (k : ℕ) → k ≤ to → in_row row k ≡ false

-- m is the least number of the row from `from` on
pub record IsFirstAt (row : List ℕ) (from m : ℕ) : Type 0 where
  pub there : in_row row m ≡ true
  pub after : from ≤ m
  pub within : m < 64 * length row
  pub least : (k : ℕ) → from ≤ k → k < 64 * length row → in_row row k ≡ true → m ≤ k

abbrev pub IsFirst : List ℕ → ℕ → Option ℕ → Type 0
IsFirst row from (Some m) = IsFirstAt row from m
IsFirst row from None = (k : ℕ) → from ≤ k → k < 64 * length row → in_row row k ≡ false
