-- What a fit tree says of its parts.
use Rattle.std.proofs.Common.{◌≡◌, ℕ, ◌<◌, List, [], ◌∷◌, Bool, true, false, not, ◌&&◌, ◌||◌, Option, Some, None, map, length, refl, sym, ap, ◌∙◌, arith, drop, get_or, drop-cons, add-one, suc, zero, ◌+◌}
use Rattle.std.proofs.lemmas.Bool.Decides.{nat_tests}
use Rattle.std.specs.Prelude.{ℤ, pos, negsuc, ◌+ℤ◌, ◌-ℤ◌, ◌*ℤ◌, int_le, nat_lt, ◌^◌, ◌-◌}
use Rattle.ms_num.specs.Span.{IsWithin, Span, point, is_narrow, add_span, mul_span, sub_span}
use Rattle.ms_trees.specs.WellFormed.{Checked, well_formed_rule, is_well_formed, is_numeric, is_number, is_truth, are_numbers, are_truths, has_variable, fits, sums_fit, narrow_step, sorted_step, enclosure_of, IsTruth}
use Rattle.ms_trees.proofs.Parts.{AreNumbers, AreTruths, IsNumber, ListAnd, ListAndTwo, NumberBranches, TruthBranches}
use Rattle.ms_trees.specs.WellFormed.{checked}
use Rattle.ms_trees.specs.Laws.{HasVariable}
use Rattle.ms_trees.specs.Enclosure.{enclosure, enclosure_step, points, span_at}
use Rattle.ms_trees.specs.declared.tree.Enclosure.{Enclosure}
use Rattle.ms_trees.specs.declared.tree.Ground.{Ground, map-Ground, out-Ground, fold_out-Ground}
use Rattle.ms_trees.specs.declared.tree.Ground.TheVariants as g
use Rattle.ms_trees.specs.declared.tree.Ground.TheOpen as F
use Rattle.ms_trees.proofs.Bools.{and_left, and_right, le_of}
use Rattle.ms_trees.proofs.Layers.{fit_out, list_twice, twice}
use Rattle.ms_trees.proofs.Exact.{reach_on_point}
use Rattle.ms_trees.specs.Laws.{exact, of_number}
use Rattle.ms_trees.specs.Value.{Meaning, value}
use Rattle.ms_trees.specs.Value as v
use Rattle.ms_num.specs.Numbers.{add_at, sub_at, mul_at}
use Rattle.ms_trees.specs.declared.tree.Ground.TheFolds.{the_lemmas}
use Rattle.ms_trees.specs.Enclosure as r

two : (b : List Span) (x y : Ground) (n : Bool) → (is_number (checked b x) && is_number (checked b y) && n) ≡ true → AreNumbers b x y
two b x y n h =
    let both = and_left (is_number (checked b x) && is_number (checked b y)) n h in
    let l = and_left (is_number (checked b x)) (is_number (checked b y)) both in
    let r = and_right (is_number (checked b x)) (is_number (checked b y)) both in
    record { left = and_left _ (is_numeric x) l; right = and_left _ (is_numeric y) r; left_numeric = and_right (is_well_formed b x) _ l; right_numeric = and_right (is_well_formed b y) _ r }

flip : (b : Bool) → not b ≡ true → b ≡ false
flip true e = sym e
flip false e = refl

two_truths : (b : List Span) (x y : Ground) (n : Bool) → (is_truth (checked b x) && is_truth (checked b y) && n) ≡ true → AreTruths b x y
two_truths b x y n h =
    let both = and_left (is_truth (checked b x) && is_truth (checked b y)) n h in
    let l = and_left (is_truth (checked b x)) (is_truth (checked b y)) both in
    let r = and_right (is_truth (checked b x)) (is_truth (checked b y)) both in
    record { left = and_left _ (not (is_numeric x)) l; right = and_left _ (not (is_numeric y)) r; left_boolean = flip (is_numeric x) (and_right (is_well_formed b x) _ l); right_boolean = flip (is_numeric y) (and_right (is_well_formed b y) _ r) }

one : (b : List Span) (x : Ground) → is_truth (checked b x) ≡ true → IsTruth b x
one b x h = record { fit = and_left _ (not (is_numeric x)) h; boolean = flip (is_numeric x) (and_right (is_well_formed b x) _ h) }

one_number : (b : List Span) (x : Ground) → is_number (checked b x) ≡ true → IsNumber b x
one_number b x h = record { fit = and_left _ (is_numeric x) h; numeric = and_right (is_well_formed b x) _ h }

list_and : (b : List Span) (xs : List Ground) (y : Ground) (n : Bool) → (are_numbers (map (checked b) xs) && is_number (checked b y) && n) ≡ true → ListAnd b xs y
list_and b xs y n h =
    let both = and_left (are_numbers (map (checked b) xs) && is_number (checked b y)) n h in
    record { list = and_left (are_numbers (map (checked b) xs)) (is_number (checked b y)) both; beside = one_number b y (and_right (are_numbers (map (checked b) xs)) (is_number (checked b y)) both) }

list_and_two : (b : List Span) (xs : List Ground) (y z : Ground) (n : Bool) → (are_numbers (map (checked b) xs) && is_number (checked b y) && is_number (checked b z) && n) ≡ true → ListAndTwo b xs y z
list_and_two b xs y z n h =
    let all = and_left (are_numbers (map (checked b) xs) && is_number (checked b y) && is_number (checked b z)) n h in
    let both = and_left (are_numbers (map (checked b) xs) && is_number (checked b y)) (is_number (checked b z)) all in
    record {
      list = and_left (are_numbers (map (checked b) xs)) (is_number (checked b y)) both;
      first = one_number b y (and_right (are_numbers (map (checked b) xs)) (is_number (checked b y)) both);
      second = one_number b z (and_right (are_numbers (map (checked b) xs) && is_number (checked b y)) (is_number (checked b z)) all);
    }

number_branches : (b : List Span) (c x y : Ground) (n : Bool) → (is_truth (checked b c) && is_number (checked b x) && is_number (checked b y) && n) ≡ true → NumberBranches b c x y
number_branches b c x y n h =
    let all = and_left (is_truth (checked b c) && is_number (checked b x) && is_number (checked b y)) n h in
    let both = and_left (is_truth (checked b c) && is_number (checked b x)) (is_number (checked b y)) all in
    record { condition = one b c (and_left (is_truth (checked b c)) (is_number (checked b x)) both); first = one_number b x (and_right (is_truth (checked b c)) (is_number (checked b x)) both); second = one_number b y (and_right (is_truth (checked b c) && is_number (checked b x)) (is_number (checked b y)) all) }

truth_branches : (b : List Span) (c x y : Ground) (n : Bool) → (is_truth (checked b c) && is_truth (checked b x) && is_truth (checked b y) && n) ≡ true → TruthBranches b c x y
truth_branches b c x y n h =
    let all = and_left (is_truth (checked b c) && is_truth (checked b x) && is_truth (checked b y)) n h in
    let both = and_left (is_truth (checked b c) && is_truth (checked b x)) (is_truth (checked b y)) all in
    record { condition = one b c (and_left (is_truth (checked b c)) (is_truth (checked b x)) both); first = one b x (and_right (is_truth (checked b c)) (is_truth (checked b x)) both); second = one b y (and_right (is_truth (checked b c) && is_truth (checked b x)) (is_truth (checked b y)) all) }

pub variable : (b : List Span) (v : ℕ) → has_variable b v ≡ true → HasVariable b v
variable b v h =
    let t : nat_lt v (length b) ≡ true = and_left (nat_lt v (length b)) (int_le (span_at b v).lo (span_at b v).hi) h in
    record { within = grind (arith, nat_tests); proper = le_of _ _ (and_right (nat_lt v (length b)) (int_le (span_at b v).lo (span_at b v).hi) h) }

module _ (b : List Span) where
  at_layer : (g : Ground) (d : F.Ground-F Ground) → is_well_formed b g ≡ true → out-Ground g ≡ d → well_formed_rule b (map-Ground Ground Checked (checked b) d) ≡ true
  at_layer g d h e = ap (λ z. well_formed_rule b (map-Ground Ground Checked (checked b) z)) (sym e) ∙ sym (fit_out b g) ∙ h

  pub fit-Add : (x : Ground) (y : Ground) → is_well_formed b (g.Add x y) ≡ true → AreNumbers b x y
  fit-Add x y h = two b x y _ (at_layer _ (F.Add x y) h (g.outs-Add x y))

  pub fit-Sub : (x : Ground) (y : Ground) → is_well_formed b (g.Sub x y) ≡ true → AreNumbers b x y
  fit-Sub x y h = two b x y _ (at_layer _ (F.Sub x y) h (g.outs-Sub x y))

  pub fit-Mul : (x : Ground) (y : Ground) → is_well_formed b (g.Mul x y) ≡ true → AreNumbers b x y
  fit-Mul x y h = two b x y _ (at_layer _ (F.Mul x y) h (g.outs-Mul x y))

  pub fit-Div : (x : Ground) (y : Ground) → is_well_formed b (g.Div x y) ≡ true → AreNumbers b x y
  fit-Div x y h = two b x y _ (at_layer _ (F.Div x y) h (g.outs-Div x y))

  pub fit-Mod : (x : Ground) (y : Ground) → is_well_formed b (g.Mod x y) ≡ true → AreNumbers b x y
  fit-Mod x y h = two b x y _ (at_layer _ (F.Mod x y) h (g.outs-Mod x y))

  pub fit-Neg : (x : Ground) → is_well_formed b (g.Neg x) ≡ true → IsNumber b x
  fit-Neg x h = one_number b x (and_left (is_number (checked b x)) _ (at_layer _ (F.Neg x) h (g.outs-Neg x)))

  pub fit-Abs : (x : Ground) → is_well_formed b (g.Abs x) ≡ true → IsNumber b x
  fit-Abs x h = one_number b x (and_left (is_number (checked b x)) _ (at_layer _ (F.Abs x) h (g.outs-Abs x)))

  pub fit-Sum : (xs : List Ground) → is_well_formed b (g.Sum xs) ≡ true → are_numbers (map (checked b) xs) ≡ true
  fit-Sum xs h = and_left (are_numbers (map (checked b) xs)) _ (at_layer _ (F.Sum xs) h (g.outs-Sum xs))

  pub fit-Least : (xs : List Ground) → is_well_formed b (g.Least xs) ≡ true → are_numbers (map (checked b) xs) ≡ true
  fit-Least xs h = and_left (are_numbers (map (checked b) xs)) _ (at_layer _ (F.Least xs) h (g.outs-Least xs))

  pub fit-Greatest : (xs : List Ground) → is_well_formed b (g.Greatest xs) ≡ true → are_numbers (map (checked b) xs) ≡ true
  fit-Greatest xs h = and_left (are_numbers (map (checked b) xs)) _ (at_layer _ (F.Greatest xs) h (g.outs-Greatest xs))

  pub fit-ToInt : (x : Ground) → is_well_formed b (g.ToInt x) ≡ true → IsTruth b x
  fit-ToInt x h = one b x (and_left (is_truth (checked b x)) _ (at_layer _ (F.ToInt x) h (g.outs-ToInt x)))

  pub fit-Elem : (low : ℤ) (xs : List Ground) (i : Ground) → is_well_formed b (g.Elem low xs i) ≡ true → ListAnd b xs i
  fit-Elem low xs i h = list_and b xs i _ (at_layer _ (F.Elem low xs i) h (g.outs-Elem low xs i))

  pub fit-Elem2 : (k : ℤ) (l : ℤ) (w : ℕ) (xs : List Ground) (i : Ground) (j : Ground) → is_well_formed b (g.Elem2 k l w xs i j) ≡ true → ListAndTwo b xs i j
  fit-Elem2 k l w xs i j h = list_and_two b xs i j _ (at_layer _ (F.Elem2 k l w xs i j) h (g.outs-Elem2 k l w xs i j))

  pub fit-Count : (xs : List Ground) (y : Ground) → is_well_formed b (g.Count xs y) ≡ true → ListAnd b xs y
  fit-Count xs y h = list_and b xs y _ (at_layer _ (F.Count xs y) h (g.outs-Count xs y))

  pub fit-IteI : (c : Ground) (x : Ground) (y : Ground) → is_well_formed b (g.IteI c x y) ≡ true → NumberBranches b c x y
  fit-IteI c x y h = number_branches b c x y _ (at_layer _ (F.IteI c x y) h (g.outs-IteI c x y))

  pub fit-And : (xs : List Ground) → is_well_formed b (g.And xs) ≡ true → are_truths (map (checked b) xs) ≡ true
  fit-And xs h = and_left (are_truths (map (checked b) xs)) _ (at_layer _ (F.And xs) h (g.outs-And xs))

  pub fit-Or : (xs : List Ground) → is_well_formed b (g.Or xs) ≡ true → are_truths (map (checked b) xs) ≡ true
  fit-Or xs h = and_left (are_truths (map (checked b) xs)) _ (at_layer _ (F.Or xs) h (g.outs-Or xs))

  pub fit-Not : (x : Ground) → is_well_formed b (g.Not x) ≡ true → IsTruth b x
  fit-Not x h = one b x (and_left (is_truth (checked b x)) _ (at_layer _ (F.Not x) h (g.outs-Not x)))

  pub fit-Iff : (x : Ground) (y : Ground) → is_well_formed b (g.Iff x y) ≡ true → AreTruths b x y
  fit-Iff x y h = two_truths b x y _ (at_layer _ (F.Iff x y) h (g.outs-Iff x y))

  pub fit-Imp : (x : Ground) (y : Ground) → is_well_formed b (g.Imp x y) ≡ true → AreTruths b x y
  fit-Imp x y h = two_truths b x y _ (at_layer _ (F.Imp x y) h (g.outs-Imp x y))

  pub fit-Xor : (x : Ground) (y : Ground) → is_well_formed b (g.Xor x y) ≡ true → AreTruths b x y
  fit-Xor x y h = two_truths b x y _ (at_layer _ (F.Xor x y) h (g.outs-Xor x y))

  pub fit-Eq : (x : Ground) (y : Ground) → is_well_formed b (g.Eq x y) ≡ true → AreNumbers b x y
  fit-Eq x y h = two b x y _ (at_layer _ (F.Eq x y) h (g.outs-Eq x y))

  pub fit-Ne : (x : Ground) (y : Ground) → is_well_formed b (g.Ne x y) ≡ true → AreNumbers b x y
  fit-Ne x y h = two b x y _ (at_layer _ (F.Ne x y) h (g.outs-Ne x y))

  pub fit-Lt : (x : Ground) (y : Ground) → is_well_formed b (g.Lt x y) ≡ true → AreNumbers b x y
  fit-Lt x y h = two b x y _ (at_layer _ (F.Lt x y) h (g.outs-Lt x y))

  pub fit-Le : (x : Ground) (y : Ground) → is_well_formed b (g.Le x y) ≡ true → AreNumbers b x y
  fit-Le x y h = two b x y _ (at_layer _ (F.Le x y) h (g.outs-Le x y))

  pub fit-IteB : (c : Ground) (x : Ground) (y : Ground) → is_well_formed b (g.IteB c x y) ≡ true → TruthBranches b c x y
  fit-IteB c x y h = truth_branches b c x y _ (at_layer _ (F.IteB c x y) h (g.outs-IteB c x y))

  pub fit-In : (x : Ground) (rs : List Span) → is_well_formed b (g.In x rs) ≡ true → IsNumber b x
  fit-In x rs h = one_number b x (and_left (is_number (checked b x)) _ (at_layer _ (F.In x rs) h (g.outs-In x rs)))

  pub fit-AllDiff : (xs : List Ground) → is_well_formed b (g.AllDiff xs) ≡ true → are_numbers (map (checked b) xs) ≡ true
  fit-AllDiff xs h = and_left (are_numbers (map (checked b) xs)) _ (at_layer _ (F.AllDiff xs) h (g.outs-AllDiff xs))

  pub fit-Table : (xs : List Ground) (rows : List (List ℤ)) → is_well_formed b (g.Table xs rows) ≡ true → are_numbers (map (checked b) xs) ≡ true
  fit-Table xs rows h = and_left (are_numbers (map (checked b) xs)) _ (at_layer _ (F.Table xs rows) h (g.outs-Table xs rows))

  pub fit-Var : (v : ℕ) → is_well_formed b (g.Var v) ≡ true → HasVariable b v
  fit-Var v h = variable b v (and_left (has_variable b v) _ (at_layer _ (F.Var v) h (g.outs-Var v)))

  pub fit-BVar : (v : ℕ) → is_well_formed b (g.BVar v) ≡ true → HasVariable b v
  fit-BVar v h = variable b v (and_left (has_variable b v) (int_le (pos 0) (span_at b v).lo) (and_left (has_variable b v && int_le (pos 0) (span_at b v).lo) (int_le (span_at b v).hi (pos 1)) (and_left (has_variable b v && int_le (pos 0) (span_at b v).lo && int_le (span_at b v).hi (pos 1)) true (at_layer _ (F.BVar v) h (g.outs-BVar v)))))

  pub fits-Num : (n : ℤ) → is_well_formed b (g.Num n) ≡ true → is_narrow (point n) ≡ true
  fits-Num n h = at_layer _ (F.Num n) h (g.outs-Num n)

  pub fits-Add : (x y : Ground) → is_well_formed b (g.Add x y) ≡ true → fits (r.both_intervals add_span (enclosure b x).interval (enclosure b y).interval) ≡ true
  fits-Add x y h = and_right (is_number (checked b x) && is_number (checked b y)) _ (at_layer _ (F.Add x y) h (g.outs-Add x y))

  pub fits-Sub : (x y : Ground) → is_well_formed b (g.Sub x y) ≡ true → fits (r.both_intervals sub_span (enclosure b x).interval (enclosure b y).interval) ≡ true
  fits-Sub x y h = and_right (is_number (checked b x) && is_number (checked b y)) _ (at_layer _ (F.Sub x y) h (g.outs-Sub x y))

  pub fits-Mul : (x y : Ground) → is_well_formed b (g.Mul x y) ≡ true → fits (r.both_intervals mul_span (enclosure b x).interval (enclosure b y).interval) ≡ true
  fits-Mul x y h = and_right (is_number (checked b x) && is_number (checked b y)) _ (at_layer _ (F.Mul x y) h (g.outs-Mul x y))

  pub fit-sums : (xs : List Ground) → is_well_formed b (g.Sum xs) ≡ true → sums_fit (Some (point (pos 0))) (map (enclosure b) xs) ≡ true
  fit-sums xs h =
      ap (sums_fit (Some (point (pos 0)))) (sym (list_twice (checked b) enclosure_of xs))
      ∙ and_right (are_numbers (map (checked b) xs)) _ (at_layer _ (F.Sum xs) h (g.outs-Sum xs))

  sums_total : (o : Option Span) (rs : List Enclosure) → fits o ≡ true → sums_fit o rs ≡ true → fits (r.folded_intervals add_span o rs) ≡ true
  sums_total o [] f h = f
  sums_total o (q ∷ rs) f h =
      sums_total (r.both_intervals add_span o q.interval) rs (and_left (fits (r.both_intervals add_span o q.interval)) (sums_fit (r.both_intervals add_span o q.interval) rs) h)
      (and_right (fits (r.both_intervals add_span o q.interval)) (sums_fit (r.both_intervals add_span o q.interval) rs) h)

  narrow_fits : (x : F.Ground-F Enclosure) → narrow_step b x ≡ true → fits (enclosure_step b x).interval ≡ true
  narrow_fits (F.Sum xs) h = sums_total (Some (point (pos 0))) xs refl h
  narrow_fits (F.Num n) h = h
  narrow_fits F.Undef h = h
  narrow_fits (F.Var v) h = h
  narrow_fits (F.Add x y) h = h
  narrow_fits (F.Sub x y) h = h
  narrow_fits (F.Mul x y) h = h
  narrow_fits (F.Div x y) h = h
  narrow_fits (F.Mod x y) h = h
  narrow_fits (F.Neg x) h = h
  narrow_fits (F.Abs x) h = h
  narrow_fits (F.Least xs) h = h
  narrow_fits (F.Greatest xs) h = h
  narrow_fits (F.ToInt x) h = h
  narrow_fits (F.Elem low xs i) h = h
  narrow_fits (F.Elem2 k l w xs i j) h = h
  narrow_fits (F.Count xs y) h = h
  narrow_fits (F.IteI c x y) h = h
  narrow_fits F.True h = h
  narrow_fits F.False h = h
  narrow_fits (F.BVar v) h = h
  narrow_fits (F.And xs) h = h
  narrow_fits (F.Or xs) h = h
  narrow_fits (F.Not x) h = h
  narrow_fits (F.Iff x y) h = h
  narrow_fits (F.Imp x y) h = h
  narrow_fits (F.Xor x y) h = h
  narrow_fits (F.Eq x y) h = h
  narrow_fits (F.Ne x y) h = h
  narrow_fits (F.Lt x y) h = h
  narrow_fits (F.Le x y) h = h
  narrow_fits (F.IteB c x y) h = h
  narrow_fits (F.In x rs) h = h
  narrow_fits (F.AllDiff xs) h = h
  narrow_fits (F.Table xs rows) h = h

  -- the interval of a fit tree is narrow
  pub fit_narrow : (g : Ground) → is_well_formed b g ≡ true → fits (enclosure b g).interval ≡ true
  fit_narrow g h =
      let d = out-Ground g in
      let n = and_right (sorted_step b (map-Ground Ground Checked (checked b) d)) _ (at_layer g d h refl) in
      ap (λ q. fits q.interval) (fold_out-Ground Enclosure (enclosure_step b) g) ∙ narrow_fits (map-Ground Ground Enclosure (enclosure b) d) (ap (narrow_step b) (sym (twice (checked b) enclosure_of d)) ∙ n)

pub within_point : (z : ℤ) → is_narrow (point z) ≡ true → IsWithin z
within_point z f = record { low = le_of _ _ (and_left (int_le (negsuc (2 ^ 50 - 1)) z) _ f); high = le_of _ _ (and_right (int_le (negsuc (2 ^ 50 - 1)) z) _ f) }

-- a fit tree's number on the point is within the limits
pub value_within : (a : List ℤ) (g : Ground) (z : ℤ) → is_well_formed (points a) g ≡ true → is_numeric g ≡ true → (value a g).number ≡ Some z → IsWithin z
value_within a g z h n e =
    let same : enclosure (points a) g ≡ of_number (Some z) = reach_on_point a g h ∙ ap (λ k. exact k (value a g)) n ∙ ap of_number e in
    let f : is_narrow (point z) ≡ true = ap (λ q. fits q.interval) (sym same) ∙ fit_narrow (points a) g h in
    within_point z f

-- a sum on the way
pub sum_head : (a : List ℤ) (z : ℤ) (q : Enclosure) (m : Option ℤ) (rs : List Enclosure) → q ≡ of_number m → sums_fit (Some (point z)) (q ∷ rs) ≡ true → (x : ℤ) → m ≡ Some x → IsWithin (z +ℤ x)
sum_head a z q m rs e h x k =
    let f : is_narrow (point (z +ℤ x)) ≡ true = ap (λ (p : Enclosure). fits (r.both_intervals add_span (Some (point z)) p.interval)) (sym (e ∙ ap of_number k)) ∙ and_left (fits (r.both_intervals add_span (Some (point z)) q.interval)) (sums_fit (r.both_intervals add_span (Some (point z)) q.interval) rs) h in
    within_point (z +ℤ x) f

pub sum_tail : (z : ℤ) (q : Enclosure) (m : Option ℤ) (rs : List Enclosure) → q ≡ of_number m → sums_fit (Some (point z)) (q ∷ rs) ≡ true → (x : ℤ) → m ≡ Some x → sums_fit (Some (point (z +ℤ x))) rs ≡ true
sum_tail z q m rs e h x k =
    ap (λ (p : Enclosure). sums_fit (r.both_intervals add_span (Some (point z)) p.interval) rs) (sym (e ∙ ap of_number k)) ∙ and_right (fits (r.both_intervals add_span (Some (point z)) q.interval)) (sums_fit (r.both_intervals add_span (Some (point z)) q.interval) rs) h

total_none : (ms : List Meaning) → v.folded add_at None ms ≡ None
total_none [] = refl
total_none (m ∷ ms) = total_none ms

module _ (a : List ℤ) (x y : Ground) where
  -- a number within the limits that an operation gives
  within_op : (g : Ground) (f : ℤ → ℤ → Option ℤ) (p q z : ℤ) → is_well_formed (points a) g ≡ true → is_numeric g ≡ true → (value a g).number ≡ v.both f (value a x).number (value a y).number →
      Some (p, q) ≡ v.pair (value a x).number (value a y).number → f p q ≡ Some z → IsWithin z
  within_op g f p q z h n e k r = value_within a g z h n (e ∙ ap (v.apply f) (sym k) ∙ r)

  pub within-Add : (p q : ℤ) → is_well_formed (points a) (g.Add x y) ≡ true → Some (p, q) ≡ v.pair (value a x).number (value a y).number → IsWithin (p +ℤ q)
  within-Add p q h k = within_op (g.Add x y) add_at p q (p +ℤ q) h (search the_lemmas) (search the_lemmas) k refl

  pub within-Sub : (p q : ℤ) → is_well_formed (points a) (g.Sub x y) ≡ true → Some (p, q) ≡ v.pair (value a x).number (value a y).number → IsWithin (p -ℤ q)
  within-Sub p q h k = within_op (g.Sub x y) sub_at p q (p -ℤ q) h (search the_lemmas) (search the_lemmas) k refl

  pub within-Mul : (p q : ℤ) → is_well_formed (points a) (g.Mul x y) ≡ true → Some (p, q) ≡ v.pair (value a x).number (value a y).number → IsWithin (p *ℤ q)
  within-Mul p q h k = within_op (g.Mul x y) mul_at p q (p *ℤ q) h (search the_lemmas) (search the_lemmas) k refl

-- the rest of a list from a place on
pub drop_here : {A : Type 0} (xs : List A) (i : ℕ) (x : A) → i < length xs → x ≡ get_or xs i x → drop i xs ≡ x ∷ drop (i + 1) xs
drop_here xs i x lt e = drop-cons xs i x lt ∙ ap (λ y. y ∷ drop (suc i) xs) (sym e) ∙ ap (λ n. x ∷ drop n xs) (sym (add-one i))

-- one turn of a sum of intervals over its parts
pub record SpansOn (b : List Span) (ys rest : List Ground) (o : Option Span) (q : Enclosure) : Type 0 where
  pub fits_here : fits (r.both_intervals add_span o q.interval) ≡ true
  pub fit : are_numbers (map (checked b) rest) ≡ true
  pub narrow : sums_fit (r.both_intervals add_span o q.interval) (map (enclosure b) rest) ≡ true
  pub total : r.folded_intervals add_span o (map (enclosure b) ys) ≡ r.folded_intervals add_span (r.both_intervals add_span o q.interval) (map (enclosure b) rest)
  pub may_be_undefined : (u : Bool) → (u || r.any_may_be_undefined (map (enclosure b) ys)) ≡ ((u || q.may_be_undefined) || r.any_may_be_undefined (map (enclosure b) rest))

pub spans_on : (b : List Span) (ys rest : List Ground) (x : Ground) (o : Option Span) (q : Enclosure) → ys ≡ x ∷ rest → q ≡ r.numeric_enclosure (enclosure b x).interval (enclosure b x).may_be_undefined → are_numbers (map (checked b) ys) ≡ true → sums_fit o (map (enclosure b) ys) ≡ true → SpansOn b ys rest o q
spans_on b ys rest x o q e is fit narrow =
    let f : are_numbers (map (checked b) (x ∷ rest)) ≡ true = ap (λ zs. are_numbers (map (checked b) zs)) (sym e) ∙ fit in
    let n : sums_fit o (q ∷ map (enclosure b) rest) ≡ true = ap (λ p. sums_fit o (p ∷ map (enclosure b) rest)) is ∙ ap (λ zs. sums_fit o (map (enclosure b) zs)) (sym e) ∙ narrow in
    record {
      fits_here = and_left (fits (r.both_intervals add_span o q.interval)) (sums_fit (r.both_intervals add_span o q.interval) (map (enclosure b) rest)) n;
      fit = and_right (is_number (checked b x)) (are_numbers (map (checked b) rest)) f;
      narrow = and_right (fits (r.both_intervals add_span o q.interval)) (sums_fit (r.both_intervals add_span o q.interval) (map (enclosure b) rest)) n;
      total = ap (λ zs. r.folded_intervals add_span o (map (enclosure b) zs)) e ∙ ap (λ (p : Enclosure). r.folded_intervals add_span (r.both_intervals add_span o p.interval) (map (enclosure b) rest)) (sym is);
      may_be_undefined = λ u. ap (λ zs. u || r.any_may_be_undefined (map (enclosure b) zs)) e ∙ ap (λ (p : Enclosure). u || (p.may_be_undefined || r.any_may_be_undefined (map (enclosure b) rest))) (sym is) ∙ sym (or_assoc u q.may_be_undefined (r.any_may_be_undefined (map (enclosure b) rest)));
    }
  where
    or_assoc : (a b c : Bool) → ((a || b) || c) ≡ (a || (b || c))
    or_assoc true b c = refl
    or_assoc false b c = refl

-- one turn over Boolean parts
pub record TruthsOn (b : List Span) (ys rest : List Ground) (q : Enclosure) : Type 0 where
  pub fit : are_truths (map (checked b) rest) ≡ true
  pub all_yes : (u : Bool) → (u && r.all_may_be_true (map (enclosure b) ys)) ≡ ((u && q.may_be_true) && r.all_may_be_true (map (enclosure b) rest))
  pub any_no : (u : Bool) → (u || r.any_may_be_false (map (enclosure b) ys)) ≡ ((u || q.may_be_false) || r.any_may_be_false (map (enclosure b) rest))
  pub any_yes : (u : Bool) → (u || r.any_may_be_true (map (enclosure b) ys)) ≡ ((u || q.may_be_true) || r.any_may_be_true (map (enclosure b) rest))
  pub all_no : (u : Bool) → (u && r.all_may_be_false (map (enclosure b) ys)) ≡ ((u && q.may_be_false) && r.all_may_be_false (map (enclosure b) rest))

or_assoc : (a b c : Bool) → (a || (b || c)) ≡ ((a || b) || c)
or_assoc true b c = refl
or_assoc false b c = refl

and_assoc : (a b c : Bool) → (a && (b && c)) ≡ ((a && b) && c)
and_assoc true b c = refl
and_assoc false b c = refl

pub truths_on : (b : List Span) (ys rest : List Ground) (x : Ground) (q : Enclosure) → ys ≡ x ∷ rest → q ≡ r.boolean_enclosure (enclosure b x).may_be_true (enclosure b x).may_be_false → are_truths (map (checked b) ys) ≡ true → TruthsOn b ys rest q
truths_on b ys rest x q e is fit =
    let f : are_truths (map (checked b) (x ∷ rest)) ≡ true = ap (λ zs. are_truths (map (checked b) zs)) (sym e) ∙ fit in
    record {
      fit = and_right (is_truth (checked b x)) (are_truths (map (checked b) rest)) f;
      all_yes = λ u. ap (λ zs. u && r.all_may_be_true (map (enclosure b) zs)) e ∙ ap (λ (p : Enclosure). u && (p.may_be_true && r.all_may_be_true (map (enclosure b) rest))) (sym is) ∙ and_assoc u q.may_be_true (r.all_may_be_true (map (enclosure b) rest));
      any_no = λ u. ap (λ zs. u || r.any_may_be_false (map (enclosure b) zs)) e ∙ ap (λ (p : Enclosure). u || (p.may_be_false || r.any_may_be_false (map (enclosure b) rest))) (sym is) ∙ or_assoc u q.may_be_false (r.any_may_be_false (map (enclosure b) rest));
      any_yes = λ u. ap (λ zs. u || r.any_may_be_true (map (enclosure b) zs)) e ∙ ap (λ (p : Enclosure). u || (p.may_be_true || r.any_may_be_true (map (enclosure b) rest))) (sym is) ∙ or_assoc u q.may_be_true (r.any_may_be_true (map (enclosure b) rest));
      all_no = λ u. ap (λ zs. u && r.all_may_be_false (map (enclosure b) zs)) e ∙ ap (λ (p : Enclosure). u && (p.may_be_false && r.all_may_be_false (map (enclosure b) rest))) (sym is) ∙ and_assoc u q.may_be_false (r.all_may_be_false (map (enclosure b) rest));
    }

-- one turn over Boolean parts on an assignment
pub record HoldsOn (a : List ℤ) (ys rest : List Ground) (x : Ground) : Type 0 where
  pub fit : are_truths (map (checked (points a)) rest) ≡ true
  pub all : v.all_true (map (value a) ys) ≡ ((value a x).truth && v.all_true (map (value a) rest))
  pub any : v.any_true (map (value a) ys) ≡ ((value a x).truth || v.any_true (map (value a) rest))

pub holds_on : (a : List ℤ) (ys rest : List Ground) (x : Ground) → ys ≡ x ∷ rest → are_truths (map (checked (points a)) ys) ≡ true → HoldsOn a ys rest x
holds_on a ys rest x e fit = record {
  fit = and_right (is_truth (checked (points a) x)) (are_truths (map (checked (points a)) rest)) (ap (λ zs. are_truths (map (checked (points a)) zs)) (sym e) ∙ fit);
  all = ap (λ zs. v.all_true (map (value a) zs)) e;
  any = ap (λ zs. v.any_true (map (value a) zs)) e;
}

-- one turn of a sum over its parts
pub record SumsOn (a : List ℤ) (ys rest : List Ground) (z y : ℤ) : Type 0 where
  pub within : IsWithin (z +ℤ y)
  pub fit : are_numbers (map (checked (points a)) rest) ≡ true
  pub narrow : sums_fit (Some (point (z +ℤ y))) (map (enclosure (points a)) rest) ≡ true
  pub sum : v.folded add_at (Some z) (map (value a) ys) ≡ v.folded add_at (Some (z +ℤ y)) (map (value a) rest)

pub sums_on : (a : List ℤ) (ys rest : List Ground) (x : Ground) (z y : ℤ) → ys ≡ x ∷ rest → are_numbers (map (checked (points a)) ys) ≡ true → sums_fit (Some (point z)) (map (enclosure (points a)) ys) ≡ true → Some y ≡ (value a x).number → SumsOn a ys rest z y
sums_on a ys rest x z y e fit narrow k =
    let f : are_numbers (map (checked (points a)) (x ∷ rest)) ≡ true = ap (λ zs. are_numbers (map (checked (points a)) zs)) (sym e) ∙ fit in
    let n : sums_fit (Some (point z)) (map (enclosure (points a)) (x ∷ rest)) ≡ true = ap (λ zs. sums_fit (Some (point z)) (map (enclosure (points a)) zs)) (sym e) ∙ narrow in
    let here = and_left (is_number (checked (points a) x)) (are_numbers (map (checked (points a)) rest)) f in
    let same : enclosure (points a) x ≡ of_number (value a x).number = reach_on_point a x (and_left _ (is_numeric x) here) ∙ ap (λ b. exact b (value a x)) (and_right (is_well_formed (points a) x) _ here) in
    record {
      within = sum_head a z (enclosure (points a) x) (value a x).number (map (enclosure (points a)) rest) same n y (sym k);
      fit = and_right (is_number (checked (points a) x)) (are_numbers (map (checked (points a)) rest)) f;
      narrow = sum_tail z (enclosure (points a) x) (value a x).number (map (enclosure (points a)) rest) same n y (sym k);
      sum = ap (λ zs. v.folded add_at (Some z) (map (value a) zs)) e ∙ ap (λ o. v.folded add_at (v.both add_at (Some z) o) (map (value a) rest)) (sym k);
    }

-- an undefined part
pub sum_none : (a : List ℤ) (ys rest : List Ground) (x : Ground) (z : ℤ) → ys ≡ x ∷ rest → None ≡ (value a x).number → None ≡ v.folded add_at (Some z) (map (value a) ys)
sum_none a ys rest x z e k =
    sym (total_none (map (value a) rest)) ∙ ap (λ o. v.folded add_at (v.both add_at (Some z) o) (map (value a) rest)) k ∙ ap (λ zs. v.folded add_at (Some z) (map (value a) zs)) (sym e)

-- an element that is there, whatever the default
pub read_default : {A : Type 0} (xs : List A) (i : ℕ) (d e : A) → i < length xs → get_or xs i d ≡ get_or xs i e
read_default [] i d e h = absurd (omega arith)
read_default (x ∷ xs) zero d e h = refl
read_default (x ∷ xs) (suc i) d e h = read_default xs i d e (omega arith)
