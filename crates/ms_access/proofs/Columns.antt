-- A column, as far as it has been copied.
use Rattle.std.proofs.Common.{◌≡◌, ℕ, ◌+◌, ◌-◌, ◌<◌, suc, List, ◌++◌, drop, slice_get, option_to_list, length, ◌≤◌, sym, append-nil, append_assoc, arith}
use Rattle.std.proofs.lemmas.Option.{slice_get_past}
use Rattle.ms_rules.specs.Access.{column}

-- a row that is too short
pub nothing_more : {X : Type 0} → (xs es : List X) (i : ℕ) → length es ≤ i → xs ≡ xs ++ option_to_list (slice_get es i)
nothing_more xs es i h = rw (slice_get_past es i h) (sym (append-nil xs))

-- one row more
pub one_more : {X : Type 0} → (width at rows i : ℕ) (all rest copied rest' copied' : List X) → i < rows →
    copied' ≡ copied ++ option_to_list (slice_get rest at) → rest' ≡ drop width rest →
    (copied ++ column width at (rows - i) rest) ≡ all → (copied' ++ column width at (rows - (i + 1)) rest') ≡ all
one_more width at rows i all rest copied rest' copied' below grows goes h =
    let k : rows - i ≡ suc (rows - (i + 1)) = omega arith in
    rw (grows, goes, append_assoc) (rw k at h)
