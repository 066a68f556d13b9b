-- Sets of integers by their ends and their members, whatever keeps them.
use Rattle.std.specs.Prelude.{◌≡◌, ℕ, zero, suc, ◌+◌, List, [], ◌∷◌, map, Bool, true, false, ◌&&◌, if◌then◌else◌, ℤ, pos, negsuc, ◌+ℤ◌, ◌-ℤ◌, ◌≤ℤ◌, int_le}
use Rattle.ms_num.specs.Span.{Span, point}
use Rattle.ms_num.specs.Ranges.{is_member}

-- the numbers that pass, all of which lie from lo to hi
pub record Set : Type 0 where
  pub lo : ℤ
  pub hi : ℤ
  pub has : ℤ → Bool

-- both ends are numbers of the set, and no other number lies outside them; so the set is not empty
pub record IsSet (s : Set) : Type 0 where
  pub low : s.has s.lo ≡ true
  pub high : s.has s.hi ≡ true
  pub from : (z : ℤ) → s.has z ≡ true → s.lo ≤ℤ z
  pub to : (z : ℤ) → s.has z ≡ true → z ≤ℤ s.hi

-- the set without numbers
abbrev pub empty_set : Set
empty_set = record { lo = pos 0; hi = negsuc 0; has = λ z. false }

-- how many of the n numbers from z on pass
abbrev pub count_from : (ℤ → Bool) → ℤ → ℕ → ℕ
count_from p z zero = 0
count_from p z (suc n) = (if p z then 1 else 0) + count_from p (z +ℤ pos 1) n

-- how many numbers there are from one to another, by how far the second is above the first
abbrev pub width : ℤ → ℕ
width (pos n) = suc n
width (negsuc n) = 0

-- how many numbers a set has
abbrev pub set_size : Set → ℕ
set_size s = count_from s.has s.lo (width (s.hi -ℤ s.lo))

-- each number of the first set is one of the second
abbrev pub Among : Set → Set → Type 0
Among s t = (z : ℤ) → s.has z ≡ true → t.has z ≡ true

-- t has the numbers of s that pass, and there is one
pub record IsCut (keep : ℤ → Bool) (s t : Set) : Type 0 where
  pub members : (z : ℤ) → t.has z ≡ (s.has z && keep z)
  pub proper : IsSet t

-- ---- the cut of a set, computed

-- the first of the numbers from z up to n above it that passes, or the last of them
abbrev pub first_from : (ℤ → Bool) → ℤ → ℕ → ℤ
first_from p z zero = z
first_from p z (suc n) = if p z then z else first_from p (z +ℤ pos 1) n

-- the first of the numbers from z down to n below it that passes, or the last of them
abbrev pub last_from : (ℤ → Bool) → ℤ → ℕ → ℤ
last_from p z zero = z
last_from p z (suc n) = if p z then z else last_from p (z -ℤ pos 1) n

-- the number is one of the set, and passes
abbrev pub kept : (ℤ → Bool) → Set → ℤ → Bool
kept keep s z = s.has z && keep z

-- the numbers of the set that pass, with the first and the last of them where there is one
abbrev pub cut_set : (ℤ → Bool) → Set → Set
cut_set keep s = record {
  lo = first_from (kept keep s) s.lo (width (s.hi -ℤ s.lo));
  hi = last_from (kept keep s) s.hi (width (s.hi -ℤ s.lo));
  has = kept keep s;
}

-- ---- the set of a list of ranges

abbrev pub lo_of : List Span → ℤ
lo_of [] = pos 0
lo_of (s ∷ ss) = s.lo

abbrev pub hi_of : List Span → ℤ
hi_of [] = negsuc 0
hi_of (s ∷ []) = s.hi
hi_of (s ∷ t ∷ ss) = hi_of (t ∷ ss)

abbrev pub set_of : List Span → Set
set_of ss = record { lo = lo_of ss; hi = hi_of ss; has = is_member ss }

-- ---- the intervals of sets

-- from the least number to the greatest
abbrev pub span_of : Set → Span
span_of s = record { lo = s.lo; hi = s.hi }

abbrev pub spans_of : List Set → List Span
spans_of b = map span_of b

-- the same for a declared set, with 0..0 for an empty one
abbrev pub declared_span : Set → Span
declared_span s = if int_le s.lo s.hi then span_of s else point (pos 0)

abbrev pub declared_spans : List Set → List Span
declared_spans sets = map declared_span sets

-- m is half of the sum of two numbers, rounded down
pub record IsMiddle (lo hi m : ℤ) : Type 0 where
  pub under : (m +ℤ m) ≤ℤ (lo +ℤ hi)
  pub over : (lo +ℤ hi) ≤ℤ ((m +ℤ m) +ℤ pos 1)
