-- What is kept of the first parts of a list.
use Rattle.std.proofs.Common.{◌≡◌, ℕ, ◌+◌, ◌<◌, List, ◌∷◌, ◌⊎◌, inl, inr, length, drop, get_or, set, ap, sym, ◌∙◌, arith}
use Rattle.std.proofs.lemmas.List.{get_or-set_other}
use Rattle.std.proofs.lemmas.Grind.{get_or-set_at}
use Rattle.std.proofs.Math.Nat.{eq-or-lt_of_le}
use Rattle.ms_trees.specs.Kept.{part}
use Rattle.ms_trees.specs.declared.tree.Ground.{Ground}
use Rattle.ms_trees.specs.declared.tree.Ground.TheVariants as g
use Rattle.ms_trees.proofs.Fits.{drop_here, read_default}

-- the part at a place, with the later ones
pub part_here : (xs : List Ground) (k : ℕ) → k < length xs → drop k xs ≡ part xs k ∷ drop (k + 1) xs
part_here xs k lt = drop_here xs k (part xs k) lt (read_default xs k g.Undef (part xs k) lt)

-- what is read at a place is the part at it
pub part_read : (xs : List Ground) (k : ℕ) (x : Ground) → k < length xs → x ≡ get_or xs k x → x ≡ part xs k
part_read xs k x lt e = e ∙ read_default xs k x g.Undef lt

-- one more is kept
pub kept_next : {X : Type 0} (xs : List X) (d x : X) (f : ℕ → X) (n : ℕ) → n < length xs → x ≡ f n → ((k : ℕ) → k < n → get_or xs k d ≡ f k) → (k : ℕ) → k < n + 1 → get_or (set xs n x) k d ≡ f k
kept_next xs d x f n lt e before k h = one (eq-or-lt_of_le (omega (arith, h)))
  where
    one : (k ≡ n) ⊎ (k < n) → get_or (set xs n x) k d ≡ f k
    one (inl same) = get_or-set_at xs n k x d same lt ∙ e ∙ ap f (sym same)
    one (inr below) = get_or-set_other xs n k x d (λ same. absurd (omega (arith, same, below))) ∙ before k below
