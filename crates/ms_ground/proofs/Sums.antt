-- One turn of a sum over parts.
use Rattle.std.proofs.Common.{◌≡◌, List, [], ◌∷◌, Bool, true, false, ◌&&◌, ◌||◌, Option, Some, None, map, refl, ap, ◌∙◌, sym}
use Rattle.ms_num.specs.Span.{Span, add_span}
use Rattle.ms_trees.specs.Enclosure.{enclosure, numeric_enclosure, operation, both_intervals, folded_intervals, any_may_be_undefined}
use Rattle.ms_trees.specs.WellFormed.{checked, is_number, are_numbers, sums_fit, fits}
use Rattle.ms_trees.specs.declared.tree.Enclosure.{Enclosure}
use Rattle.ms_trees.specs.declared.tree.Ground.{Ground}
use Rattle.ms_trees.proofs.Bools.{ap2}
use Rattle.ms_ground.specs.Known.{known, within_limits, number_on, numbers_of}
use Rattle.ms_ground.proofs.Known.{some_number, no_number, some_is}

-- the rest of the parts after a sum so far
abbrev pub sum_onward : List Span → Enclosure → List Ground → Option Enclosure
sum_onward b t xs = known (are_numbers (map (checked b) xs) && sums_fit t.interval (map (enclosure b) xs)) (numeric_enclosure (folded_intervals add_span t.interval (map (enclosure b) xs)) (t.may_be_undefined || any_may_be_undefined (map (enclosure b) xs)))

module _ (b : List Span) (ys rest : List Ground) (x : Ground) (t : Enclosure) (e : ys ≡ x ∷ rest) where
  -- a part that is no well formed integer tree
  pub sum_stops : None ≡ number_on b x → None ≡ sum_onward b t ys
  sum_stops n =
      let s = sums_fit t.interval (map (enclosure b) (x ∷ rest)) in
      let q = numeric_enclosure (folded_intervals add_span t.interval (map (enclosure b) (x ∷ rest))) (t.may_be_undefined || any_may_be_undefined (map (enclosure b) (x ∷ rest))) in
      ap (λ k. known ((k && are_numbers (map (checked b) rest)) && s) q) (sym (no_number b x n)) ∙ ap (sum_onward b t) (sym e)

  or_assoc : (a c d : Bool) → ((a || c) || d) ≡ (a || (c || d))
  or_assoc true c d = refl
  or_assoc false c d = refl

  module _ (p : Enclosure) (k : Some p ≡ number_on b x) where
    here : sum_onward b t ys ≡ known ((true && are_numbers (map (checked b) rest)) && (fits (operation add_span t p).interval && sums_fit (operation add_span t p).interval (map (enclosure b) rest)))
        (numeric_enclosure (folded_intervals add_span (operation add_span t p).interval (map (enclosure b) rest)) ((operation add_span t p).may_be_undefined || any_may_be_undefined (map (enclosure b) rest)))
    here =
        let n = some_number b x p k in
        ap (sum_onward b t) e
        ∙ ap (λ u. known ((u && are_numbers (map (checked b) rest)) && (fits (both_intervals add_span t.interval (enclosure b x).interval) && sums_fit (both_intervals add_span t.interval (enclosure b x).interval) (map (enclosure b) rest)))
        (numeric_enclosure (folded_intervals add_span (both_intervals add_span t.interval (enclosure b x).interval) (map (enclosure b) rest)) (t.may_be_undefined || ((enclosure b x).may_be_undefined || any_may_be_undefined (map (enclosure b) rest))))) n.number
        ∙ ap (λ u. known ((true && are_numbers (map (checked b) rest)) && (fits (both_intervals add_span t.interval (enclosure b x).interval) && sums_fit (both_intervals add_span t.interval (enclosure b x).interval) (map (enclosure b) rest)))
        (numeric_enclosure (folded_intervals add_span (both_intervals add_span t.interval (enclosure b x).interval) (map (enclosure b) rest)) u)) (sym (or_assoc t.may_be_undefined (enclosure b x).may_be_undefined (any_may_be_undefined (map (enclosure b) rest))))
        ∙ ap (λ (q : Enclosure). known ((true && are_numbers (map (checked b) rest)) && (fits (operation add_span t q).interval && sums_fit (operation add_span t q).interval (map (enclosure b) rest)))
        (numeric_enclosure (folded_intervals add_span (operation add_span t q).interval (map (enclosure b) rest)) ((operation add_span t q).may_be_undefined || any_may_be_undefined (map (enclosure b) rest)))) (sym n.is)

    absurdly : {X : Type 0} (y : X) → Some y ≡ None → {A : Type 0} → A
    absurdly y e = cc

    drops : (m f s : Bool) (q r : Enclosure) → None ≡ known f r → None ≡ known ((true && m) && (f && s)) q
    drops m true s q r n = absurdly r (sym n)
    drops true false s q r n = refl
    drops false false s q r n = refl

    -- the sum with the part leaves the limits
    pub sum_leaves : None ≡ within_limits (operation add_span t p) → None ≡ sum_onward b t ys
    sum_leaves n = drops (are_numbers (map (checked b) rest)) (fits (operation add_span t p).interval) _ _ _ n ∙ sym here

    goes : (m f s : Bool) (q r : Enclosure) (z : Enclosure) → Some z ≡ known f r → known ((true && m) && (f && s)) q ≡ known (m && s) q
    goes true true s q r z n = refl
    goes false true s q r z n = refl
    goes m false s q r z n = absurdly z n

    same : (f : Bool) (r z : Enclosure) → Some z ≡ known f r → z ≡ r
    same true r z n = some_is z r n
    same false r z n = absurdly z n

    -- the sum with the part goes on
    pub sum_goes : (z : Enclosure) → Some z ≡ within_limits (operation add_span t p) → sum_onward b z rest ≡ sum_onward b t ys
    sum_goes z n =
        ap (λ y. sum_onward b y rest) (same (fits (operation add_span t p).interval) (operation add_span t p) z n)
        ∙ sym (goes (are_numbers (map (checked b) rest)) (fits (operation add_span t p).interval) (sums_fit (operation add_span t p).interval (map (enclosure b) rest)) _ (operation add_span t p) z n)
        ∙ sym here

or_none : (a : Bool) → (a || false) ≡ a
or_none true = refl
or_none false = refl

-- the sum of all parts
pub sum_ends : (b : List Span) (t : Enclosure) (xs : List Ground) → xs ≡ [] → t ≡ numeric_enclosure t.interval t.may_be_undefined → Some t ≡ sum_onward b t xs
sum_ends b t xs e plain = ap (λ q. Some q) plain ∙ ap (λ u. Some (numeric_enclosure t.interval u)) (sym (or_none t.may_be_undefined)) ∙ ap (sum_onward b t) (sym e)
