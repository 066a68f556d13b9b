-- The least assignment that begins with given numbers, from those that begin with one number more.
use Rattle.std.proofs.Common.{◌≡◌, ℕ, suc, ◌+◌, ◌<◌, List, [], ◌∷◌, ◌++◌, length, take, Bool, true, false, refl, sym, ap, ◌∙◌, subst, append_assoc, arith, inl, inr, T}
use Rattle.std.specs.Prelude.{ℤ, pos, ◌+ℤ◌, ◌≤ℤ◌, ◌<ℤ◌, ◌⊎◌}
use Rattle.std.specs.Int.Signed.{lt_z}
use Rattle.std.specs.List.{list_all}
use Rattle.std.proofs.lemmas.Int.{ints}
use Rattle.std.proofs.lemmas.List.{append-nil, take_all, take_more_set, take-set, take-take}
use Rattle.std.proofs.Math.ListN.{set}
use Rattle.ms_trees.specs.Enclosure.{points}
use Rattle.ms_trees.specs.WellFormed.{is_well_formed}
use Rattle.ms_trees.specs.declared.tree.Ground.{Ground}
use Rattle.ms_top.specs.declared.domain.Domain.{Domain}
use Rattle.ms_top.specs.Solution.{Within, Precedes, meets}
use Rattle.ms_top.specs.Search.{FitBehind, LeastBehind, NoneBehind}

-- no assignment meets the trees whose next number is less than n
abbrev pub NoneBelow : List ℤ → Domain → List Domain → List Ground → ℤ → Type 0
NoneBelow front d ds trees n = (z : ℤ) (a : List ℤ) → d.lowest ≤ℤ z → z <ℤ n → Within ds a → meets trees (front ++ z ∷ a) ≡ true → ⊥

one_more : (front : List ℤ) (n : ℤ) (a : List ℤ) → (front ++ n ∷ []) ++ a ≡ front ++ n ∷ a
one_more front n a = append_assoc front (n ∷ []) a

same_number : (z n : ℤ) → lt_z z n ≡ false → lt_z n z ≡ false → z ≡ n
same_number z n e f = grind (arith, ints)

compared : (z n : ℤ) → (z <ℤ n) ⊎ ((z ≡ n) ⊎ (n <ℤ z))
compared z n = cases (lt_z z n) (lt_z n z) refl refl
  where
    cases : (p q : Bool) → lt_z z n ≡ p → lt_z n z ≡ q → (z <ℤ n) ⊎ ((z ≡ n) ⊎ (n <ℤ z))
    cases true q e f = inl (record { lt = subst T (sym e) tt })
    cases false true e f = inr (inr (record { lt = subst T (sym f) tt }))
    cases false false e f = inr (inl (same_number z n e f))

-- ---- the code's lists

pub empty_of : {A : Type 0} (xs : List A) → length xs < 1 → xs ≡ []
empty_of [] h = refl
empty_of (x ∷ xs) h = absurd (omega arith)

pub all_taken : (at : ℕ) (ds : List Domain) (point : List ℤ) → length ds < 1 → at + length ds ≡ length point → take at point ≡ point
all_taken at ds point h whole = take_all at point (omega arith)

pub next_front : (at : ℕ) (point front : List ℤ) (v : ℤ) → take at point ≡ front → at < length point → take (at + 1) (set point at v) ≡ front ++ v ∷ []
next_front at point front v kept h = take_more_set point at v h ∙ ap (λ q. q ++ v ∷ []) kept

-- the numbers in front stay where one more of them stayed
pub front_kept : (at : ℕ) (point new : List ℤ) (v : ℤ) → take (at + 1) new ≡ take (at + 1) (set point at v) → take at new ≡ take at point
front_kept at point new v h =
    sym (take-take at (at + 1) new (omega arith)) ∙ ap (take at) h ∙ take-take at (at + 1) (set point at v) (omega arith) ∙ take-set point at v

-- the trees may be asked where no number is left
pub fit_here : (front point : List ℤ) (ds : List Domain) (trees : List Ground) → ds ≡ [] → front ≡ point → FitBehind front ds trees → list_all (is_well_formed (points point)) trees ≡ true
fit_here front point ds trees none same fit =
    ap (λ q. list_all (is_well_formed (points q)) trees) (sym (append-nil front ∙ same)) ∙ fit [] (subst (λ (e : List Domain). Within e []) (sym none) tt)

-- where no number is left, it is the assignment itself
pub found_here : (front point : List ℤ) (ds : List Domain) (trees : List Ground) → ds ≡ [] → front ≡ point → meets trees point ≡ true → LeastBehind front ds trees point
found_here front point ds trees none same met = record {
  rest = [];
  whole = sym same ∙ sym (append-nil front);
  within = subst (λ (e : List Domain). Within e []) (sym none) tt;
  met = met;
  least = λ a within also. inl (only a (subst (λ (e : List Domain). Within e a) none within));
}
  where
    only : (a : List ℤ) → Within [] a → a ≡ []
    only [] w = refl
    only (z ∷ a) w = absurd w

pub none_here : (front point : List ℤ) (ds : List Domain) (trees : List Ground) → ds ≡ [] → front ≡ point → meets trees point ≡ false → NoneBehind front ds trees
none_here front point ds trees none same not_met a within met = at a (subst (λ (e : List Domain). Within e a) none within) met
  where
    at : (a : List ℤ) → Within [] a → meets trees (front ++ a) ≡ true → ⊥
    at [] w m = let here : meets trees point ≡ true = ap (meets trees) (sym (append-nil front ∙ same)) ∙ m in absurd (cc)
    at (z ∷ a) w m = absurd w

module _ (front : List ℤ) (d : Domain) (ds : List Domain) (trees : List Ground) where
  pub fit_more : (n : ℤ) → d.lowest ≤ℤ n → n ≤ℤ d.highest → FitBehind front (d ∷ ds) trees → FitBehind (front ++ n ∷ []) ds trees
  fit_more n low high fit a within = ap (λ q. list_all (is_well_formed (points q)) trees) (one_more front n a) ∙ fit (n ∷ a) (low, high, within)

  pub none_below : (n : ℤ) → n ≤ℤ d.lowest → NoneBelow front d ds trees n
  none_below n h z a low less within met = absurd (omega (arith, ints))

  pub found_more : (n : ℤ) (q : List ℤ) → d.lowest ≤ℤ n → n ≤ℤ d.highest → NoneBelow front d ds trees n → LeastBehind (front ++ n ∷ []) ds trees q → LeastBehind front (d ∷ ds) trees q
  found_more n q low high before found = record {
    rest = n ∷ found.rest;
    whole = found.whole ∙ one_more front n found.rest;
    within = (low, high, found.within);
    met = found.met;
    least = least;
  }
    where
      same_first : (z : ℤ) (a : List ℤ) → z ≡ n → (a ≡ found.rest) ⊎ Precedes found.rest a → ((z ∷ a) ≡ (n ∷ found.rest)) ⊎ Precedes (n ∷ found.rest) (z ∷ a)
      same_first z a e (inl same) = inl (ap (λ v. v ∷ a) e ∙ ap (λ v. n ∷ v) same)
      same_first z a e (inr later) = inr (inr (sym e, later))

      by_first : (z : ℤ) (a : List ℤ) → d.lowest ≤ℤ z → Within ds a → meets trees (front ++ z ∷ a) ≡ true → (z <ℤ n) ⊎ ((z ≡ n) ⊎ (n <ℤ z))
          → ((z ∷ a) ≡ (n ∷ found.rest)) ⊎ Precedes (n ∷ found.rest) (z ∷ a)
      by_first z a from within met (inl less) = absurd (before z a from less within met)
      by_first z a from within met (inr (inl e)) =
          same_first z a e (found.least a within (ap (meets trees) (one_more front n a ∙ ap (λ v. front ++ v ∷ a) (sym e)) ∙ met))
      by_first z a from within met (inr (inr more)) = inr (inl more)

      least : (a : List ℤ) → Within (d ∷ ds) a → meets trees (front ++ a) ≡ true → (a ≡ (n ∷ found.rest)) ⊎ Precedes (n ∷ found.rest) a
      least [] w m = absurd w
      least (z ∷ a) w m = by_first z a w.0 w.2 m (compared z n)

  pub none_more : (n m : ℤ) → m ≤ℤ (n +ℤ pos 1) → NoneBelow front d ds trees n → NoneBehind (front ++ n ∷ []) ds trees → NoneBelow front d ds trees m
  none_more n m h before none z a low less within met = by_first (compared z n)
    where
      by_first : (z <ℤ n) ⊎ ((z ≡ n) ⊎ (n <ℤ z)) → ⊥
      by_first (inl lower) = before z a low lower within met
      by_first (inr (inl e)) = none a within (ap (meets trees) (one_more front n a ∙ ap (λ v. front ++ v ∷ a) (sym e)) ∙ met)
      by_first (inr (inr more)) = absurd (omega (arith, ints))

  pub none_all : (n : ℤ) → d.highest <ℤ n → NoneBelow front d ds trees n → NoneBehind front (d ∷ ds) trees
  none_all n h before [] within met = absurd within
  none_all n h before (z ∷ a) within met = let high = within.1 in before z a within.0 (omega (arith, ints)) within.2 met

-- an assignment has a number for each domain
pub within_length : (ds : List Domain) (a : List ℤ) → Within ds a → length ds ≡ length a
within_length [] [] w = refl
within_length [] (z ∷ a) w = absurd w
within_length (d ∷ ds) [] w = absurd w
within_length (d ∷ ds) (z ∷ a) w = ap (λ n. suc n) (within_length ds a w.2)
