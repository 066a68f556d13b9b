-- The places of tokens.
use Rattle.std.specs.Prelude.{◌≡◌, ℕ, ◌-◌, List, length, take, slice_get, Option, Some, None}
use Rattle.ms_syntax.specs.declared.token.Place.{Place}
use Rattle.ms_syntax.specs.declared.token.Spanned.{Spanned}
use Rattle.ms_syntax.specs.Cut.{place_behind}

-- where the k-th token begins, or the last one ends where there is no k-th
abbrev pub begin_or_end : Option Spanned → Option Spanned → ℕ
begin_or_end (Some y) last = y.start
begin_or_end None (Some z) = z.end
begin_or_end None None = 0

abbrev pub byte_of : List Spanned → ℕ → ℕ
byte_of ts k = begin_or_end (slice_get ts k) (slice_get ts (length ts - 1))

-- the place of the k-th token of a file, or the one behind the last token where there is no k-th
abbrev pub IsTokenPlace : ℕ → List ℕ → List Spanned → ℕ → Place → Type 0
IsTokenPlace file bytes ts k place = place ≡ place_behind file (take (byte_of ts k) bytes)
