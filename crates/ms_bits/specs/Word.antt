-- The numbers of a word.
use Rattle.std.specs.Prelude.{◌≡◌, ℕ, zero, suc, ◌+◌, ◌<◌, ◌≤◌, Bool, true, false, nat_eq, if◌then◌else◌, Option, Some, None}
use Rattle.std.specs.Int.{bit_at}

-- the number k is in the word
abbrev pub has_bit : ℕ → ℕ → Bool
has_bit word k = nat_eq (bit_at word k) 1

-- how many of the n numbers from k on are
abbrev pub bits_from : ℕ → ℕ → ℕ → ℕ
bits_from word k zero = 0
bits_from word k (suc n) = (if has_bit word k then 1 else 0) + bits_from word (suc k) n

-- m is the least number of the word from `from` on
pub record IsFirstAt (word from m : ℕ) : Type 0 where
  pub bound : m < 64
  pub there : has_bit word m ≡ true
  pub after : from ≤ m
  pub least : (k : ℕ) → from ≤ k → k < 64 → has_bit word k ≡ true → m ≤ k

-- it is that number, or there is none
abbrev pub IsFirst : ℕ → ℕ → Option ℕ → Type 0
IsFirst word from (Some m) = IsFirstAt word from m
IsFirst word from None = (k : ℕ) → from ≤ k → k < 64 → has_bit word k ≡ false

-- m is the greatest number of the word up to `to`
pub record IsLastAt (word to m : ℕ) : Type 0 where
  pub there : has_bit word m ≡ true
  pub before : m ≤ to
  pub greatest : (k : ℕ) → k ≤ to → has_bit word k ≡ true → k ≤ m

abbrev pub IsLast : ℕ → ℕ → Option ℕ → Type 0
IsLast word to (Some m) = IsLastAt word to m
IsLast word to None = (k : ℕ) → k ≤ to → has_bit word k ≡ false
