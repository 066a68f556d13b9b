-- One turn of a sum over what parts may mean.
use Rattle.std.proofs.Common.{◌≡◌, List, [], ◌∷◌, Bool, true, false, ◌&&◌, ◌||◌, Option, Some, None, refl, sym, ap, ◌∙◌}
use Rattle.ms_num.specs.Span.{add_span}
use Rattle.ms_trees.specs.Enclosure.{numeric_enclosure, operation, folded_intervals, any_may_be_undefined}
use Rattle.ms_trees.specs.WellFormed.{sums_fit, fits}
use Rattle.ms_trees.specs.declared.tree.Enclosure.{Enclosure}
use Rattle.ms_trees.proofs.Bools.{or_none}
use Rattle.ms_ground.specs.Known.{known, within_limits}

-- the sum of the rest after a sum so far
abbrev pub total_after : Enclosure → List Enclosure → Option Enclosure
total_after t ps = known (sums_fit t.interval ps) (numeric_enclosure (folded_intervals add_span t.interval ps) (t.may_be_undefined || any_may_be_undefined ps))

or_assoc : (a c d : Bool) → ((a || c) || d) ≡ (a || (c || d))
or_assoc true c d = refl
or_assoc false c d = refl

module _ (t p : Enclosure) (ps rest : List Enclosure) (e : ps ≡ p ∷ rest) where
  here : total_after t ps ≡ known (fits (operation add_span t p).interval && sums_fit (operation add_span t p).interval rest) (numeric_enclosure (folded_intervals add_span (operation add_span t p).interval rest) ((operation add_span t p).may_be_undefined || any_may_be_undefined rest))
  here =
      ap (total_after t) e
      ∙ ap (λ u. known (fits (operation add_span t p).interval && sums_fit (operation add_span t p).interval rest) (numeric_enclosure (folded_intervals add_span (operation add_span t p).interval rest) u)) (sym (or_assoc t.may_be_undefined p.may_be_undefined (any_may_be_undefined rest)))

  leaves : (f s : Bool) (q z : Enclosure) → None ≡ known f z → None ≡ known (f && s) q
  leaves true s q z n = absurd (cc)
  leaves false s q z n = refl

  -- the sum with the part leaves the limits
  pub total_leaves : None ≡ within_limits (operation add_span t p) → None ≡ total_after t ps
  total_leaves n = leaves (fits (operation add_span t p).interval) _ _ (operation add_span t p) n ∙ sym here

  goes : (f s : Bool) (q r z : Enclosure) → Some z ≡ known f r → known s q ≡ known (f && s) q
  goes true s q r z n = refl
  goes false s q r z n = absurd (cc)

  same : (f : Bool) (r z : Enclosure) → Some z ≡ known f r → z ≡ r
  same true r z n = cc
  same false r z n = absurd (cc)

  -- the sum with the part goes on
  pub total_goes : (z : Enclosure) → Some z ≡ within_limits (operation add_span t p) → total_after z rest ≡ total_after t ps
  total_goes z n =
      ap (λ y. total_after y rest) (same (fits (operation add_span t p).interval) (operation add_span t p) z n)
      ∙ goes (fits (operation add_span t p).interval) (sums_fit (operation add_span t p).interval rest) _ (operation add_span t p) z n
      ∙ sym here

-- the sum of all parts
pub total_ends : (t : Enclosure) (ps : List Enclosure) → ps ≡ [] → t ≡ numeric_enclosure t.interval t.may_be_undefined → Some t ≡ total_after t ps
total_ends t ps e plain = ap (λ q. Some q) plain ∙ ap (λ u. Some (numeric_enclosure t.interval u)) (sym (or_none t.may_be_undefined)) ∙ ap (total_after t) (sym e)
