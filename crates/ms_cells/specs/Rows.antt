-- Cells that have a row of words each.
use Rattle.std.specs.Prelude.{◌≡◌, ℕ, ◌+◌, ◌<◌, ◌≤◌, List, [], ◌∷◌, length, take, drop, map, slice_index_or, replicate}
use Rattle.std.specs.List.{All}
use Rattle.ms_cells.specs.Cells.{Lists}
use Rattle.ms_cells.specs.declared.rows.Place.{Place}

-- the elements of two lists, place by place
abbrev pub pairs : {A B : Type 0} → List A → List B → List (A × B)
pairs [] ys = []
pairs (a ∷ xs) [] = []
pairs (a ∷ xs) (b ∷ ys) = (a, b) ∷ pairs xs ys

-- the words of a place
abbrev pub row_at : List ℕ → Place → List ℕ
row_at words p = take p.len (drop p.start words)

abbrev pub rows_at : List Place → List ℕ → List (List ℕ)
rows_at places words = map (row_at words) places

abbrev pub saved_rows : {T : Type 0} → List Place → List (List T) → List (List ℕ) → List (List (T × List ℕ))
saved_rows places [] ws = []
saved_rows places (v ∷ vs) [] = []
saved_rows places (v ∷ vs) (w ∷ ws) = pairs v (rows_at places w) ∷ saved_rows places vs ws

-- the values with their rows, in every list
abbrev pub with_rows : {T : Type 0} → List Place → Lists T → Lists ℕ → Lists (T × List ℕ)
with_rows places values words = record { current = pairs values.current (rows_at places words.current); saved = saved_rows places values.saved words.saved }

abbrev pub place_of : List Place → ℕ → Place
place_of places v = slice_index_or places v (record { start = 0; len = 0 })

-- the places lie within so many words, and one behind the other
pub record IsLayout (places : List Place) (total : ℕ) : Type 0 where
  pub within : (v : ℕ) → v < length places → (place_of places v).start + (place_of places v).len ≤ total
  pub apart : (u v : ℕ) → u < v → v < length places → (place_of places u).start + (place_of places u).len ≤ (place_of places v).start

-- as many values as places, in every list; as many marks on both sides; as many words in every list
pub record IsRowed {T : Type 0} (places : List Place) (values : Lists T) (words : Lists ℕ) : Type 0 where
  pub count : length values.current ≡ length places
  pub lists : All (λ v. length v ≡ length places) values.saved
  pub rows : All (λ w. length w ≡ length words.current) words.saved
  pub marks : length values.saved ≡ length words.saved
  pub layout : IsLayout places (length words.current)

-- new rows, in which every number is
abbrev pub full_rows : List ℕ → List (List ℕ)
full_rows lengths = map (λ n. replicate n 18446744073709551615) lengths

-- places of these lengths, one behind the other from a word on
abbrev pub places_from : ℕ → List ℕ → List Place
places_from start [] = []
places_from start (n ∷ ns) = record { start = start; len = n } ∷ places_from (start + n) ns
