-- A list, and the lists that were saved of it.
use Rattle.std.specs.Prelude.{◌≡◌, ℕ, ◌<◌, ◌≤◌, List, [], ◌∷◌, ◌++◌, length, take, drop, map, All, slice_set, slice_index, nat_le, if◌then◌else◌}

pub record Lists (T : Type 0) : Type 0 where
  pub current : List T
  pub saved : List (List T)

abbrev pub no_lists : {T : Type 0} → Lists T
no_lists = record { current = []; saved = [] }

-- the same new elements, now and in every saved list
abbrev pub grown : {T : Type 0} → Lists T → List T → Lists T
grown c xs = record { current = c.current ++ xs; saved = map (λ s. s ++ xs) c.saved }

-- the first n elements alone, now and in every saved list
abbrev pub shrunk : {T : Type 0} → Lists T → ℕ → Lists T
shrunk c n = record { current = take n c.current; saved = map (λ s. take n s) c.saved }

-- what the old values give back, the last first
abbrev pub undone : {T : Type 0} → List T → List (ℕ × T) → List T
undone now [] = now
undone now (e ∷ es) = slice_set (undone now es) e.0 e.1

abbrev pub kept_place_of : ℕ → ℕ → ℕ
kept_place_of n i = if nat_le n i then 4294967295 else i

-- an old value of a place from n on is of none ever
abbrev pub forgotten : {T : Type 0} → ℕ → (ℕ × T) → ℕ × T
forgotten n e = (kept_place_of n e.0, e.1)

-- what the marks stand for
abbrev pub saved_at : {T : Type 0} → List T → List (ℕ × T) → List ℕ → List (List T)
saved_at now old marks = map (λ m. undone now (drop m old)) marks

abbrev pub IsKnown : {T : Type 0} → ℕ → (ℕ × T) → Type 0
IsKnown n e = n ≤ e.0 → e.0 ≡ 4294967295

-- the marks rise, and an old value is of a place that is there, or of none ever
pub record IsTrail {T : Type 0} (now : List T) (old : List (ℕ × T)) (marks : List ℕ) : Type 0 where
  pub within : (k : ℕ) → k < length marks → slice_index marks k ≤ length old
  pub rising : (j k : ℕ) → j ≤ k → k < length marks → slice_index marks j ≤ slice_index marks k
  pub known : All (IsKnown (length now)) old
  pub few : length now < 4294967296

-- an old value of a place from `reach` on is of none ever, and so it was when each mark was made
pub record IsReach {T : Type 0} (old : List (ℕ × T)) (marks reaches : List ℕ) (reach : ℕ) : Type 0 where
  pub known : All (IsKnown reach) old
  pub count : length reaches ≡ length marks
  pub before : (k : ℕ) → k < length marks → All (IsKnown (slice_index reaches k)) (take (slice_index marks k) old)

abbrev pub seen : {T : Type 0} → List T → List (List T) → Lists T
seen current saved = record { current = current; saved = saved }

abbrev pub lists : {T : Type 0} → List T → List (ℕ × T) → List ℕ → Lists T
lists now old marks = seen now (saved_at now old marks)

-- further writes, each with its old value behind the others: so each mark means the same as before
pub record Continues {T : Type 0} (now : List T) (old : List (ℕ × T)) (next : List T) (new : List (ℕ × T)) : Type 0 where
  pub count : length next ≡ length now
  pub front : take (length old) new ≡ old
  pub same : (m : ℕ) → m ≤ length old → undone next (drop m new) ≡ undone now (drop m old)
  pub known : (r : ℕ) → All (IsKnown r) old → All (IsKnown r) new
