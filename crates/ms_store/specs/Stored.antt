-- The sets of variables, and the lists that were saved of them.
use Rattle.std.specs.Prelude.{◌≡◌, ◌≢◌, ℕ, ◌<◌, List, [], map, Bool, true, false, not, ℤ, int_le, slice_index_or, slice_set}
use Rattle.ms_num.specs.Numbers.{int_eq}
use Rattle.ms_num.specs.Span.{Span}
use Rattle.ms_num.specs.Sets.{Set, IsSet, IsCut, empty_set, set_size, cut_set}
use Rattle.ms_cells.specs.Cells.{Lists}

-- the current set of a variable
abbrev pub set_at : Lists Set → ℕ → Set
set_at l v = slice_index_or l.current v empty_set

-- the same lists, of what is seen of each element
abbrev pub lists_of : {A B : Type 0} → (A → B) → Lists A → Lists B
lists_of f l = record { current = map f l.current; saved = map (λ s. map f s) l.saved }

-- ---- cuts: which numbers stay

abbrev pub at_most : ℤ → ℤ → Bool
at_most n z = int_le z n

abbrev pub at_least : ℤ → ℤ → Bool
at_least n z = int_le n z

abbrev pub other_than : ℤ → ℤ → Bool
other_than n z = not (int_eq z n)

-- every number of the set passes
abbrev pub AllStay : (ℤ → Bool) → Set → Type 0
AllStay keep s = (z : ℤ) → s.has z ≡ true → keep z ≡ true

-- none does
abbrev pub NoneStays : (ℤ → Bool) → Set → Type 0
NoneStays keep s = (z : ℤ) → s.has z ≡ true → keep z ≡ false

-- the variable has those numbers of its set that pass; there is one, and they are fewer than before
pub record Cuts (keep : ℤ → Bool) (v : ℕ) (old new : Lists Set) : Type 0 where
  pub written : new ≡ record old { current = slice_set old.current v (cut_set keep (set_at old v)) }
  pub is_cut : IsCut keep (set_at old v) (cut_set keep (set_at old v))
  pub smaller : set_size (cut_set keep (set_at old v)) < set_size (set_at old v)

-- the set has a number, as each variable's has
abbrev pub IsFilled : List Span → Type 0
IsFilled ranges = ranges ≢ []
