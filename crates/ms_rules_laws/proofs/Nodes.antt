-- Each node is fit where its parts are.
use Rattle.std.proofs.Common.{◌≡◌, ◌∙◌, ℕ, ◌||◌, List, [], ◌∷◌, Bool, true, false, not, Option, Some, None, length, map, option_map, refl, sym}
use Rattle.std.specs.Prelude.{◌-◌, ◌^◌, ◌/◌, ℤ, pos, negsuc, ◌≤ℤ◌, int_le}
use Rattle.std.specs.List.{AllByRecursion}
use Rattle.std.proofs.Common.{◌<◌}
use Rattle.ms_tree_nodes.specs.Kept.{kept_of}
use Rattle.ms_num.specs.Span.{IsInterval, Span, point, is_narrow, join, join_some, add_span, sub_span, mul_span, div_span, mod_span, neg_span, abs_span, min_span, max_span}
use Rattle.std.specs.Int.{int_min, int_max}
use Rattle.std.proofs.lemmas.Int.{ints, int_max_is, int_min_is}
use Rattle.std.proofs.Common.{arith}
use Rattle.ms_trees.specs.Enclosure as r
use Rattle.ms_trees.specs.Enclosure.{enclosure}
use Rattle.ms_trees.specs.WellFormed.{checked, is_well_formed, is_numeric, is_number, is_truth, are_numbers, are_truths, fits, sums_fit}
use Rattle.ms_trees.specs.declared.extreme.Extreme.{Extreme}
use Rattle.ms_trees.specs.declared.extreme.Extreme.TheVariants.{Least, Greatest}
use Rattle.ms_trees.specs.declared.tree.Enclosure.{Enclosure}
use Rattle.ms_trees.specs.declared.tree.Ground.{Ground}
use Rattle.ms_trees.specs.declared.tree.Ground.TheVariants as g
use Rattle.ms_trees.specs.declared.tree.Ground.TheFolds.{the_lemmas}
use Rattle.ms_trees.proofs.Bools.{and_left, and_right, and_true, le_of, of_le, true_not}
use Rattle.ms_trees.proofs.Fits.{fit_narrow}
use Rattle.ms_ground.specs.Known.{known}
use Rattle.ms_ground.proofs.Known.{truth_of_some}
use Rattle.ms_tree_nodes.specs.Nodes as n
use Rattle.ms_kept.specs.Laws.{AreKept, IsKeptIfAny}
use Rattle.ms_kept.proofs.Joined.{meant, all_meant}
use Rattle.ms_kept.proofs.Nodes as k
use Rattle.ms_kept.proofs.Listed as ks
use Rattle.ms_values.specs.declared.operand.Placed.{Placed}
use Rattle.ms_rules_laws.specs.Fit.{IsInteger, IsCondition, IsWithinIfAny}
use Rattle.ms_rules_laws.specs.Laws.{IsIntegerIfAny}
use Rattle.ms_rules_laws.proofs.Trees as t

module _ (sets : List Span) where
  abbrev Integers : List Placed → Type 0
  Integers xs = AllByRecursion (IsInteger sets) xs

  abbrev Conditions : List Placed → Type 0
  Conditions xs = AllByRecursion (IsCondition sets) xs

  -- ---- what is asked of parts

  is_one : (x : Placed) → IsInteger sets x → is_number (checked sets x.tree) ≡ true
  is_one x h = and_true (is_well_formed sets x.tree) (is_numeric x.tree) h.well_formed h.numeric

  is_other : (x : Placed) → IsCondition sets x → is_truth (checked sets x.tree) ≡ true
  is_other x h = and_true (is_well_formed sets x.tree) (not (is_numeric x.tree)) h.well_formed (true_not (is_numeric x.tree) h.boolean)

  are_ones : (xs : List Placed) → Integers xs → are_numbers (map (checked sets) (n.trees_of xs)) ≡ true
  are_ones [] h = refl
  are_ones (x ∷ xs) h = and_true (is_number (checked sets x.tree)) (are_numbers (map (checked sets) (n.trees_of xs))) (is_one x h.0) (are_ones xs h.1)

  are_others : (xs : List Placed) → Conditions xs → are_truths (map (checked sets) (n.trees_of xs)) ≡ true
  are_others [] h = refl
  are_others (x ∷ xs) h = and_true (is_truth (checked sets x.tree)) (are_truths (map (checked sets) (n.trees_of xs))) (is_other x h.0) (are_others xs h.1)

  integers_kept : (xs : List Placed) → Integers xs → AreKept sets xs
  integers_kept [] h = tt
  integers_kept (x ∷ xs) h = (h.0.kept, integers_kept xs h.1)

  conditions_kept : (xs : List Placed) → Conditions xs → AreKept sets xs
  conditions_kept [] h = tt
  conditions_kept (x ∷ xs) h = (h.0.kept, conditions_kept xs h.1)

  -- what stands beside trees is their own
  own : (x : Placed) → IsInteger sets x → x.enclosure ≡ enclosure sets x.tree
  own x h = meant sets x h.kept

  owns : (xs : List Placed) → Integers xs → n.enclosures_of xs ≡ map (enclosure sets) (n.trees_of xs)
  owns xs h = all_meant sets xs (integers_kept xs h)

  -- none, or a fit node
  if_known : (f : Enclosure → Placed) (b : Bool) (q : Enclosure) → IsKeptIfAny sets (option_map f (known b q)) → (b ≡ true → is_well_formed sets (f q).tree ≡ true)
      → is_numeric (f q).tree ≡ true → IsIntegerIfAny sets (option_map f (known b q))
  if_known f true q kept asked numeric = record { well_formed = asked refl; numeric = numeric; kept = kept }
  if_known f false q kept asked numeric = tt

  -- ---- leaves

  pub number_leaf : (m : Option ℤ) → IsWithinIfAny m → IsInteger sets (n.number_leaf m)
  number_leaf (Some z) h = record { well_formed = t.number sets z (t.narrow_point z h); numeric = search the_lemmas; kept = k.numbers sets (Some z) }
  number_leaf None h = record { well_formed = t.undefined sets; numeric = search the_lemmas; kept = k.numbers sets None }

  pub truth_leaf : (b : Bool) → IsCondition sets (n.truth_leaf b)
  truth_leaf true = record { well_formed = t.yes sets; boolean = search the_lemmas; kept = k.truths sets true }
  truth_leaf false = record { well_formed = t.no sets; boolean = search the_lemmas; kept = k.truths sets false }

  pub integer_tree : (x : Ground) → is_well_formed sets x ≡ true → is_numeric x ≡ true → IsInteger sets (kept_of sets x)
  integer_tree x h i = record { well_formed = h; numeric = i; kept = refl }

  pub boolean_tree : (x : Ground) → is_well_formed sets x ≡ true → is_numeric x ≡ false → IsCondition sets (kept_of sets x)
  boolean_tree x h i = record { well_formed = h; boolean = i; kept = refl }

  pub variable : (v : ℕ) → v < length sets → IsInterval (r.span_at sets v) → IsInteger sets (n.variable v (r.span_at sets v))
  variable v h i = record { well_formed = t.variable sets v h i; numeric = search the_lemmas; kept = k.variables sets v }

  pub bit_variable : (v : ℕ) → v < length sets → IsInterval (r.span_at sets v) → pos 0 ≤ℤ (r.span_at sets v).lo → (r.span_at sets v).hi ≤ℤ pos 1 → IsCondition sets (n.bit_variable v (r.span_at sets v))
  bit_variable v h i low high = record { well_formed = t.bit_variable sets v h i low high; boolean = search the_lemmas; kept = k.bit_variables sets v }

  -- ---- operations on numbers

  abbrev TwoKeep : (Placed → Placed → Option Placed) → Type 0
  TwoKeep f = (x y : Placed) → IsInteger sets x → IsInteger sets y → IsIntegerIfAny sets (f x y)

  two : (f : Ground → Ground → Ground) (m : Enclosure → Enclosure → Enclosure)
      → ((x y : Ground) → is_number (checked sets x) ≡ true → is_number (checked sets y) ≡ true → fits (m (enclosure sets x) (enclosure sets y)).interval ≡ true → is_well_formed sets (f x y) ≡ true)
      → ((x y : Ground) → is_numeric (f x y) ≡ true) → (x y : Placed) → IsInteger sets x → IsInteger sets y → IsKeptIfAny sets (n.narrow_two f m x y) → IsIntegerIfAny sets (n.narrow_two f m x y)
  two f m asked numeric x y h k kept =
      if_known (n.over_two f x y) (fits (m x.enclosure y.enclosure).interval) (m x.enclosure y.enclosure) kept
      (λ e. asked x.tree y.tree (is_one x h) (is_one y k) ((λ i. fits (m (sym (own x h) i) (sym (own y k) i)).interval) ∙ e)) (numeric x.tree y.tree)

  pub sum : TwoKeep n.sum
  sum x y h i = two g.Add (r.operation add_span) (t.sum sets) (λ x y. search the_lemmas) x y h i (k.sum sets x y h.kept i.kept)

  pub difference : TwoKeep n.difference
  difference x y h i = two g.Sub (r.operation sub_span) (t.difference sets) (λ x y. search the_lemmas) x y h i (k.difference sets x y h.kept i.kept)

  pub product : TwoKeep n.product
  product x y h i = two g.Mul (r.operation mul_span) (t.product sets) (λ x y. search the_lemmas) x y h i (k.product sets x y h.kept i.kept)

  pub quotient : TwoKeep n.quotient
  quotient x y h i = two g.Div (r.division div_span) (t.quotient sets) (λ x y. search the_lemmas) x y h i (k.quotient sets x y h.kept i.kept)

  pub remainder : TwoKeep n.remainder
  remainder x y h i = two g.Mod (r.division mod_span) (t.remainder sets) (λ x y. search the_lemmas) x y h i (k.remainder sets x y h.kept i.kept)

  one : (f : Ground → Ground) (m : Enclosure → Enclosure)
      → ((x : Ground) → is_number (checked sets x) ≡ true → fits (m (enclosure sets x)).interval ≡ true → is_well_formed sets (f x) ≡ true)
      → ((x : Ground) → is_numeric (f x) ≡ true) → (x : Placed) → IsInteger sets x → IsKeptIfAny sets (n.narrow_one f m x) → IsIntegerIfAny sets (n.narrow_one f m x)
  one f m asked numeric x h kept =
      if_known (n.over_one f x) (fits (m x.enclosure).interval) (m x.enclosure) kept (λ e. asked x.tree (is_one x h) ((λ i. fits (m (sym (own x h) i)).interval) ∙ e)) (numeric x.tree)

  pub negation : (x : Placed) → IsInteger sets x → IsIntegerIfAny sets (n.negation x)
  negation x h = one g.Neg (r.image_enclosure neg_span) (t.negation sets) (λ x. search the_lemmas) x h (k.negation sets x h.kept)

  pub magnitude : (x : Placed) → IsInteger sets x → IsIntegerIfAny sets (n.magnitude x)
  magnitude x h = one g.Abs (r.image_enclosure abs_span) (t.magnitude sets) (λ x. search the_lemmas) x h (k.magnitude sets x h.kept)

  -- ---- over lists

  pub total : (xs : List Placed) → Integers xs → IsIntegerIfAny sets (n.total xs)
  total xs h =
      if_known (n.over_list g.Sum xs) (sums_fit (Some (point (pos 0))) (n.enclosures_of xs)) _ (ks.total sets xs (integers_kept xs h))
      (λ e. t.total sets (n.trees_of xs) (are_ones xs h) ((λ i. sums_fit (Some (point (pos 0))) (sym (owns xs h) i)) ∙ e)) (search the_lemmas)

  pub extreme : (which : Extreme) (xs : List Placed) → Integers xs → IsIntegerIfAny sets (n.extreme which xs)
  extreme Least xs h =
      if_known (n.over_list g.Least xs) (fits (r.extreme_enclosure min_span (n.enclosures_of xs)).interval) (r.extreme_enclosure min_span (n.enclosures_of xs)) (ks.extreme Least sets xs (integers_kept xs h))
      (λ e. t.least sets (n.trees_of xs) (are_ones xs h) ((λ i. fits (r.extreme_enclosure min_span (sym (owns xs h) i)).interval) ∙ e)) (search the_lemmas)
  extreme Greatest xs h =
      if_known (n.over_list g.Greatest xs) (fits (r.extreme_enclosure max_span (n.enclosures_of xs)).interval) (r.extreme_enclosure max_span (n.enclosures_of xs)) (ks.extreme Greatest sets xs (integers_kept xs h))
      (λ e. t.greatest sets (n.trees_of xs) (are_ones xs h) ((λ i. fits (r.extreme_enclosure max_span (sym (owns xs h) i)).interval) ∙ e)) (search the_lemmas)

  pub count : (xs : List Placed) (y : Placed) → Integers xs → IsInteger sets y → IsIntegerIfAny sets (n.count xs y)
  count xs y h i =
      if_known _ (fits (r.counted_enclosure (n.enclosures_of xs) y.enclosure).interval) (r.counted_enclosure (n.enclosures_of xs) y.enclosure) (ks.count sets xs y (integers_kept xs h) i.kept)
      (λ e. t.count sets (n.trees_of xs) y.tree (are_ones xs h) (is_one y i) ((λ j. fits (r.counted_enclosure (sym (owns xs h) j) (sym (own y i) j)).interval) ∙ e)) (search the_lemmas)

  element_enclosure : ℤ → List Enclosure → Enclosure → Enclosure
  element_enclosure low ps i = r.selected_enclosure (r.is_reached low i.interval) (i.may_be_undefined || r.leaves low (length ps) i.interval) ps

  pub element : (low : ℤ) (xs : List Placed) (i : Placed) → Integers xs → IsInteger sets i → IsIntegerIfAny sets (n.element low xs i)
  unfolding element_enclosure
  element low xs i h m =
      if_known _ (fits (element_enclosure low (n.enclosures_of xs) i.enclosure).interval) (element_enclosure low (n.enclosures_of xs) i.enclosure) (ks.element low sets xs i (integers_kept xs h) m.kept)
      (λ e. t.element sets low (n.trees_of xs) i.tree (are_ones xs h) (is_one i m) ((λ j. fits (element_enclosure low (sym (owns xs h) j) (sym (own i m) j)).interval) ∙ e)) (search the_lemmas)

  element_at : ℤ → ℤ → ℕ → List Enclosure → Enclosure → Enclosure → Enclosure
  element_at low left width ps i j =
      r.selected_enclosure (r.is_reached2 low left width (length ps) i.interval j.interval)
      (i.may_be_undefined || j.may_be_undefined || r.leaves low (length ps / width) i.interval || r.leaves left width j.interval) ps

  pub element_of_grid : (low left : ℤ) (width : ℕ) (xs : List Placed) (i j : Placed) → Integers xs → IsInteger sets i → IsInteger sets j → IsIntegerIfAny sets (n.element_of_grid low left width xs i j)
  unfolding element_at
  element_of_grid low left width xs i j h m p =
      if_known _ (fits (element_at low left width (n.enclosures_of xs) i.enclosure j.enclosure).interval) (element_at low left width (n.enclosures_of xs) i.enclosure j.enclosure)
      (ks.element_of_grid low left width sets xs i j (integers_kept xs h) m.kept p.kept)
      (λ e. t.element_of_grid sets low left width (n.trees_of xs) i.tree j.tree (are_ones xs h) (is_one i m) (is_one j p)
      ((λ v. fits (element_at low left width (sym (owns xs h) v) (sym (own i m) v) (sym (own j p) v)).interval) ∙ e)) (search the_lemmas)

  -- ---- the number of a truth value, and the taken branch of two

  own_truth : (x : Placed) → IsCondition sets x → x.enclosure ≡ enclosure sets x.tree
  own_truth x h = meant sets x h.kept

  -- it may be true or false
  is_some_truth : (x : Placed) → IsCondition sets x → (x.enclosure.may_be_true || x.enclosure.may_be_false) ≡ true
  is_some_truth x h = (λ i. (own_truth x h i).may_be_true || (own_truth x h i).may_be_false) ∙ truth_of_some sets x.tree (is_other x h)

  pub bit : (x : Placed) → IsCondition sets x → IsInteger sets (n.bit x)
  bit x h = record {
    well_formed = t.bit sets x.tree (is_other x h) (t.narrow_bits (enclosure sets x.tree).may_be_true (enclosure sets x.tree).may_be_false);
    numeric = search the_lemmas;
    kept = k.bits sets x (is_some_truth x h) h.kept;
  }

  least_above : (a b c : ℤ) → c ≤ℤ a → c ≤ℤ b → c ≤ℤ int_min a b
  least_above a b c h i = omega (arith, ints, int_min_is a b, h, i)

  greatest_below : (a b c : ℤ) → a ≤ℤ c → b ≤ℤ c → int_max a b ≤ℤ c
  greatest_below a b c h i = omega (arith, ints, int_max_is a b, h, i)

  -- the interval over two that are narrow is narrow
  narrow_join : (s p : Span) → is_narrow s ≡ true → is_narrow p ≡ true → is_narrow (join s p) ≡ true
  narrow_join s p h i =
      and_true (int_le (negsuc (2 ^ 50 - 1)) (int_min s.lo p.lo)) (int_le (int_max s.hi p.hi) (pos (2 ^ 50)))
      (of_le _ _ (least_above s.lo p.lo (negsuc (2 ^ 50 - 1)) (le_of _ _ (and_left _ _ h)) (le_of _ _ (and_left _ _ i))))
      (of_le _ _ (greatest_below s.hi p.hi (pos (2 ^ 50)) (le_of _ _ (and_right (int_le (negsuc (2 ^ 50 - 1)) s.lo) _ h)) (le_of _ _ (and_right (int_le (negsuc (2 ^ 50 - 1)) p.lo) _ i))))

  narrow_either : (o p : Option Span) → fits o ≡ true → fits p ≡ true → fits (join_some o p) ≡ true
  narrow_either None p h i = i
  narrow_either (Some s) None h i = h
  narrow_either (Some s) (Some p) h i = narrow_join s p h i

  narrow_admitted : (b : Bool) (o : Option Span) → fits o ≡ true → fits (r.admitted b o) ≡ true
  narrow_admitted true o h = h
  narrow_admitted false o h = refl

  pub choice : (c x y : Placed) → IsCondition sets c → IsInteger sets x → IsInteger sets y → IsInteger sets (n.choice c x y)
  choice c x y f h i = record {
    well_formed = t.choice sets c.tree x.tree y.tree (is_other c f) (is_one x h) (is_one y i)
        (narrow_either (r.admitted (enclosure sets c.tree).may_be_true (enclosure sets x.tree).interval) (r.admitted (enclosure sets c.tree).may_be_false (enclosure sets y.tree).interval)
        (narrow_admitted (enclosure sets c.tree).may_be_true (enclosure sets x.tree).interval (fit_narrow sets x.tree h.well_formed))
        (narrow_admitted (enclosure sets c.tree).may_be_false (enclosure sets y.tree).interval (fit_narrow sets y.tree i.well_formed)));
    numeric = search the_lemmas;
    kept = k.choice sets c x y f.kept h.kept i.kept;
  }

  pub choice_of_truths : (c x y : Placed) → IsCondition sets c → IsCondition sets x → IsCondition sets y → IsCondition sets (n.choice_of_truths c x y)
  choice_of_truths c x y f h i = record {
    well_formed = t.choice_of_truths sets c.tree x.tree y.tree (is_other c f) (is_other x h) (is_other y i);
    boolean = search the_lemmas;
    kept = k.choice_of_truths sets c x y f.kept h.kept i.kept;
  }

  -- ---- truth values

  pub all : (xs : List Placed) → Conditions xs → IsCondition sets (n.all xs)
  all xs h = record { well_formed = t.all sets (n.trees_of xs) (are_others xs h); boolean = search the_lemmas; kept = ks.all sets xs (conditions_kept xs h) }

  pub some : (xs : List Placed) → Conditions xs → IsCondition sets (n.some xs)
  some xs h = record { well_formed = t.some sets (n.trees_of xs) (are_others xs h); boolean = search the_lemmas; kept = ks.some sets xs (conditions_kept xs h) }

  pub denial : (x : Placed) → IsCondition sets x → IsCondition sets (n.denial x)
  denial x h = record { well_formed = t.denial sets x.tree (is_other x h); boolean = search the_lemmas; kept = k.denial sets x h.kept }

  pub equivalence : (x y : Placed) → IsCondition sets x → IsCondition sets y → IsCondition sets (n.equivalence x y)
  equivalence x y h i = record { well_formed = t.equivalence sets x.tree y.tree (is_other x h) (is_other y i); boolean = search the_lemmas; kept = k.equivalence sets x y h.kept i.kept }

  pub implication : (x y : Placed) → IsCondition sets x → IsCondition sets y → IsCondition sets (n.implication x y)
  implication x y h i = record { well_formed = t.implication sets x.tree y.tree (is_other x h) (is_other y i); boolean = search the_lemmas; kept = k.implication sets x y h.kept i.kept }

  pub exclusive : (x y : Placed) → IsCondition sets x → IsCondition sets y → IsCondition sets (n.exclusive x y)
  exclusive x y h i = record { well_formed = t.exclusive sets x.tree y.tree (is_other x h) (is_other y i); boolean = search the_lemmas; kept = k.exclusive sets x y h.kept i.kept }

  -- ---- comparisons

  pub equal : (x y : Placed) → IsInteger sets x → IsInteger sets y → IsCondition sets (n.equal x y)
  equal x y h i = record { well_formed = t.equal sets x.tree y.tree (is_one x h) (is_one y i); boolean = search the_lemmas; kept = k.equal sets x y h.kept i.kept }

  pub unequal : (x y : Placed) → IsInteger sets x → IsInteger sets y → IsCondition sets (n.unequal x y)
  unequal x y h i = record { well_formed = t.unequal sets x.tree y.tree (is_one x h) (is_one y i); boolean = search the_lemmas; kept = k.unequal sets x y h.kept i.kept }

  pub less : (x y : Placed) → IsInteger sets x → IsInteger sets y → IsCondition sets (n.less x y)
  less x y h i = record { well_formed = t.less sets x.tree y.tree (is_one x h) (is_one y i); boolean = search the_lemmas; kept = k.less sets x y h.kept i.kept }

  pub at_most : (x y : Placed) → IsInteger sets x → IsInteger sets y → IsCondition sets (n.at_most x y)
  at_most x y h i = record { well_formed = t.at_most sets x.tree y.tree (is_one x h) (is_one y i); boolean = search the_lemmas; kept = k.at_most sets x y h.kept i.kept }

  pub member : (rs : List Span) (x : Placed) → IsInteger sets x → IsCondition sets (n.member rs x)
  member rs x h = record { well_formed = t.member sets rs x.tree (is_one x h); boolean = search the_lemmas; kept = k.member rs sets x h.kept }

  pub distinct : (xs : List Placed) → Integers xs → IsCondition sets (n.distinct xs)
  distinct xs h = record { well_formed = t.distinct sets (n.trees_of xs) (are_ones xs h); boolean = search the_lemmas; kept = ks.distinct sets xs (integers_kept xs h) }

  pub rowed : (rows : List (List ℤ)) (xs : List Placed) → Integers xs → IsCondition sets (n.rowed rows xs)
  rowed rows xs h = record { well_formed = t.rowed sets rows (n.trees_of xs) (are_ones xs h); boolean = search the_lemmas; kept = ks.rowed rows sets xs (integers_kept xs h) }
