-- What a cut leaves of a set, by how many numbers it has.
use Rattle.std.proofs.Common.{◌≡◌, ℕ, ◌+◌, ◌<◌, ◌≤◌, refl, sym, ap, ◌∙◌, subst, arith, Bool, true, false, not, ◌&&◌}
use Rattle.std.specs.Prelude.{ℤ, slice_set}
use Rattle.ms_num.specs.Sets.{Set, IsSet, IsCut, set_size, cut_set}
use Rattle.ms_num.specs.Laws.{CutsAreOne, CutIsCut}
use Rattle.ms_num.proofs.SharedCounts.{size_some, size_parts, cut_among, cut_passes}
use Rattle.ms_cells.specs.Cells.{Lists}
use Rattle.ms_store.specs.Stored.{set_at, AllStay, Cuts}

both : (a b : Bool) → a ≡ true → b ≡ true → (a && b) ≡ true
both a b e f = ap (λ x. x && b) e ∙ f

-- where a number goes, fewer stay
pub smaller : CutIsCut → (keep : ℤ → Bool) (s t : Set) → IsSet s → IsCut keep s t → (z : ℤ) → s.has z ≡ true → keep z ≡ false → set_size t < set_size s
smaller law keep s t i c z h k =
    let gone = law (λ z. not (keep z)) s z i (both (s.has z) (not (keep z)) h (ap not k)) in
    let parts = size_parts keep s t (cut_set (λ z. not (keep z)) s) i c gone in
    let some = size_some (cut_set (λ z. not (keep z)) s) gone.proper in
    omega (arith, parts, some)

-- where as many stay, all do
pub all_stay : CutIsCut → (keep : ℤ → Bool) (s t : Set) → IsSet s → IsCut keep s t → set_size t ≡ set_size s → AllStay keep s
all_stay law keep s t i c e z h = by_value (keep z) refl
  where
    by_value : (b : Bool) → keep z ≡ b → keep z ≡ true
    by_value true f = f
    by_value false f = absurd (let l = smaller law keep s t i c z h f in omega (arith, l, e))

-- a set that is a cut is the one that is computed
pub cut_is : CutsAreOne → CutIsCut → (keep : ℤ → Bool) (s t : Set) → IsSet s → IsCut keep s t → t ≡ cut_set keep s
cut_is one law keep s t i c = one keep s t (cut_set keep s) c (law keep s t.lo i (both (s.has t.lo) (keep t.lo) (cut_among keep s t c t.lo c.proper.low) (cut_passes keep s t c t.lo c.proper.low)))

-- what a write of the numbers that stay is
pub cuts_written : CutsAreOne → CutIsCut → (keep : ℤ → Bool) (v : ℕ) (old new : Lists Set) (s t : Set) → set_at old v ≡ s → IsSet s → IsCut keep s t → set_size t < set_size s → new ≡ record old { current = slice_set old.current v t } → Cuts keep v old new
cuts_written one law keep v old new s t at i c l w =
    let i2 : IsSet (set_at old v) = subst (λ (x : Set). IsSet x) (sym at) i in
    let c2 : IsCut keep (set_at old v) t = subst (λ (x : Set). IsCut keep x t) (sym at) c in
    let same = cut_is one law keep (set_at old v) t i2 c2 in record {
      written = w ∙ ap (λ (x : Set). record old { current = slice_set old.current v x }) same;
      is_cut = subst (λ (x : Set). IsCut keep (set_at old v) x) same c2;
      smaller = subst (λ (x : Set). set_size x < set_size (set_at old v)) same (subst (λ (x : Set). set_size t < set_size x) (sym at) l);
    }
