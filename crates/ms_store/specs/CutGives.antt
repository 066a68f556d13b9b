-- What a cut came to.
use Rattle.std.specs.Prelude.{◌≡◌, ℕ, ℤ, Bool}
use Rattle.ms_num.specs.Sets.{Set}
use Rattle.ms_cells.specs.Cells.{Lists}
use Rattle.ms_store.specs.Stored.{set_at, Cuts, NoneStays, AllStay}
use Rattle.ms_store.specs.declared.store.Cut.{Cut}
use Rattle.ms_store.specs.declared.store.Cut.TheVariants.{Kept, Changed, Emptied}

-- kept: no number goes; emptied: none would stay; changed: some go and some stay. The first two change nothing
abbrev pub CutGives : Cut → (ℤ → Bool) → ℕ → Lists Set → Lists Set → Type 0
CutGives Kept keep v old new = (new ≡ old) × AllStay keep (set_at old v)
CutGives Changed keep v old new = Cuts keep v old new
CutGives Emptied keep v old new = (new ≡ old) × NoneStays keep (set_at old v)
