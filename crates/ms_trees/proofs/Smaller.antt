-- On a smaller box a tree may mean less.
use Rattle.std.proofs.Common.{◌≡◌, List, [], ◌∷◌, Bool, true, false, not, ◌&&◌, ◌||◌, Some, map, refl, sym, ap, ◌∙◌, subst, arith}
use Rattle.std.specs.Prelude.{pos, ◌≤ℤ◌, ◌<ℤ◌, int_le}
use Rattle.std.specs.Int.Signed.{≤ℤ_refl}
use Rattle.std.proofs.lemmas.Int.{ints, by_lt_z}
use Rattle.ms_num.specs.Numbers.{div_at, mod_at}
use Rattle.ms_num.specs.Span.{Span, Inside, point, has, neg_span, abs_span, add_span, sub_span, mul_span, min_span, max_span, div_span, mod_span}
use Rattle.ms_trees.specs.Laws.{MeansFewerNumbers, MeansFewerTruths, MeansLess, IsSmaller, Part, small_of, large_of, NodesMeanLess, SmallerBoxesMeanLess, SmallerBoxesMeanLessOfSorted}
use Rattle.ms_trees.specs.Value as v
use Rattle.ms_trees.specs.Enclosure as r
use Rattle.ms_trees.specs.Enclosure.{enclosure, enclosure_step, span_at}
use Rattle.ms_trees.specs.WellFormed.{Checked, is_well_formed, is_sorted, sorted_step, narrow_step, enclosure_of, is_numeric, numeric_layer, is_number, is_truth, are_numbers, are_truths, has_variable, IsTruth}
use Rattle.ms_trees.specs.WellFormed.{checked}
use Rattle.ms_trees.specs.declared.tree.Enclosure.{Enclosure}
use Rattle.ms_trees.specs.declared.tree.Ground.{Ground, roll-Ground, map-Ground}
use Rattle.ms_trees.specs.declared.tree.Ground.TheOpen.{Ground-F, Num, Undef, Var, Add, Sub, Mul, Div, Mod, Neg, Abs, Sum, Least, Greatest, ToInt, Elem, Elem2, Count, IteI, True, False, BVar, And, Or, Not, Iff, Imp, Xor, Eq, Ne, Lt, Le, IteB, In, AllDiff, Table}
use Rattle.ms_trees.proofs.Layers.{induct, twice, fit_roll, sorted_roll, fold_at, layer_map, is_numeric_roll}
use Rattle.ms_trees.proofs.Bools.{and_left, and_right, and_true, and_less, or_left, or_right, or_split, or_swap, or_less, le_of, of_le}
use Rattle.ms_trees.proofs.Fits.{variable}
use Rattle.ms_trees.proofs.Lists.{AllLess, has_grows}
use Rattle.ms_trees.proofs.Places.{elem_less, elem2_less}
use Rattle.ms_trees.proofs.Apart.{distinct_less}
use Rattle.ms_trees.proofs.Divisions.{div_shares, mod_shares, division_less}
use Rattle.ms_trees.proofs.Operations.{Shrinks, add_shrinks, sub_shrinks, min_shrinks, max_shrinks, neg_narrows, abs_narrows, mul_shrinks, both_fewer, image_less, point_inside, both_some, folded_less, extreme_less}
use Rattle.ms_trees.proofs.Comparisons.{compare_less, AreTests, less_tests, at_most_tests, eq_tests, ne_tests, compare_some, bits_inside}
use Rattle.ms_trees.proofs.Counts.{counted_less}
use Rattle.ms_trees.proofs.Choices.{either_less, either_truer, admits_less, admits_some}
use Rattle.ms_trees.proofs.Memberships.{in_less, rowed_less}

-- a part, with the claim for it
record Child : Type 0 where
  numeric : Bool
  fit : Bool
  small : Enclosure
  large : Enclosure
  less : fit ≡ true → MeansLess numeric small large

abbrev check : Child → Checked
check c = record { fit = c.fit; numeric = c.numeric; enclosure = c.large }

abbrev smalls : Child → Enclosure
smalls c = c.small

abbrev larges : Child → Enclosure
larges c = c.large

number_child : (c : Child) → is_number (check c) ≡ true → MeansFewerNumbers c.small c.large
number_child c h = subst (λ b. MeansLess b c.small c.large) (and_right c.fit c.numeric h) (c.less (and_left c.fit c.numeric h))

truth_child : (c : Child) → is_truth (check c) ≡ true → MeansFewerTruths c.small c.large
truth_child c h = subst (λ b. MeansLess b c.small c.large) (flip c.numeric (and_right c.fit (not c.numeric) h)) (c.less (and_left c.fit (not c.numeric) h))
  where
    flip : (b : Bool) → not b ≡ true → b ≡ false
    flip true e = sym e
    flip false e = refl

number_children : (cs : List Child) → are_numbers (map check cs) ≡ true → AllLess (map smalls cs) (map larges cs)
number_children [] h = tt
number_children (c ∷ cs) h = (number_child c (and_left (is_number (check c)) (are_numbers (map check cs)) h), number_children cs (and_right (is_number (check c)) (are_numbers (map check cs)) h))

-- ---- lists of Boolean parts

all_some : (cs : List Child) → are_truths (map check cs) ≡ true → (r.all_may_be_true (map smalls cs) || r.any_may_be_false (map smalls cs)) ≡ true
all_some [] h = refl
all_some (c ∷ cs) h =
    let t = truth_child c (and_left (is_truth (check c)) (are_truths (map check cs)) h) in
    let k = all_some cs (and_right (is_truth (check c)) (are_truths (map check cs)) h) in
    join c.small.may_be_true c.small.may_be_false (r.all_may_be_true (map smalls cs)) (r.any_may_be_false (map smalls cs)) t.some k
  where
    join : (y n ys ns : Bool) → (y || n) ≡ true → (ys || ns) ≡ true → ((y && ys) || (n || ns)) ≡ true
    join true n ys ns h k = or_split ys ns k (λ e. or_left ys (n || ns) e) (λ e. or_right ys (n || ns) (or_right n ns e))
    join false n ys ns h k = or_left n ns h

all_yes_less : (cs : List Child) → are_truths (map check cs) ≡ true → r.all_may_be_true (map smalls cs) ≡ true → r.all_may_be_true (map larges cs) ≡ true
all_yes_less [] h e = e
all_yes_less (c ∷ cs) h e =
    let t = truth_child c (and_left (is_truth (check c)) (are_truths (map check cs)) h) in
    let y = t.may_be_true (and_left c.small.may_be_true (r.all_may_be_true (map smalls cs)) e) in
    let k = all_yes_less cs (and_right (is_truth (check c)) (are_truths (map check cs)) h) (and_right c.small.may_be_true (r.all_may_be_true (map smalls cs)) e) in
    rw y k

any_no_less : (cs : List Child) → are_truths (map check cs) ≡ true → r.any_may_be_false (map smalls cs) ≡ true → r.any_may_be_false (map larges cs) ≡ true
any_no_less [] h e = e
any_no_less (c ∷ cs) h e =
    let t = truth_child c (and_left (is_truth (check c)) (are_truths (map check cs)) h) in
    or_less c.small.may_be_false (r.any_may_be_false (map smalls cs)) c.large.may_be_false (r.any_may_be_false (map larges cs)) t.may_be_false (any_no_less cs (and_right (is_truth (check c)) (are_truths (map check cs)) h)) e

bit_some : (s t : Span) → Inside s t → pos 0 ≤ℤ t.lo → t.hi ≤ℤ pos 1 → (has s (pos 1) || has s (pos 0)) ≡ true
bit_some s t i l h =
    by_lt_z s.lo (pos 1) (λ k. or_right (has s (pos 1)) (has s (pos 0)) (zero_in k)) (λ k. or_left (has s (pos 1)) (has s (pos 0)) (one_in k))
  where
    zero_in : s.lo <ℤ pos 1 → has s (pos 0) ≡ true
    zero_in k = let a : int_le s.lo (pos 0) ≡ true = of_le s.lo (pos 0) (omega (arith, ints)) in let b : int_le (pos 0) s.hi ≡ true = of_le (pos 0) s.hi (omega (arith, ints)) in rw (a, b) refl

    one_in : pos 1 ≤ℤ s.lo → has s (pos 1) ≡ true
    one_in k = let a : int_le s.lo (pos 1) ≡ true = of_le s.lo (pos 1) (omega (arith, ints)) in let b : int_le (pos 1) s.hi ≡ true = of_le (pos 1) s.hi (omega (arith, ints)) in rw (a, b) refl

-- two integer parts
record Two (x y : Child) : Type 0 where
  left : MeansFewerNumbers x.small x.large
  right : MeansFewerNumbers y.small y.large

two : (x y : Child) (n : Bool) → (is_number (check x) && is_number (check y) && n) ≡ true → Two x y
two x y n h =
    let both = and_left (is_number (check x) && is_number (check y)) n h in
    record { left = number_child x (and_left (is_number (check x)) (is_number (check y)) both); right = number_child y (and_right (is_number (check x)) (is_number (check y)) both) }

binary : (f : Span → Span → Span) → Shrinks f → (x y : Child) → Two x y → MeansFewerNumbers (r.operation f x.small y.small) (r.operation f x.large y.large)
binary f s x y t = record {
  some = both_some f x.small.interval y.small.interval x.small.may_be_undefined y.small.may_be_undefined t.left.some t.right.some;
  interval = both_fewer f s x.small.interval y.small.interval x.large.interval y.large.interval t.left.interval t.right.interval;
  may_be_undefined = or_less x.small.may_be_undefined y.small.may_be_undefined x.large.may_be_undefined y.large.may_be_undefined t.left.may_be_undefined t.right.may_be_undefined;
}

-- two Boolean parts
record TwoTruths (x y : Child) : Type 0 where
  left : MeansFewerTruths x.small x.large
  right : MeansFewerTruths y.small y.large

two_truths : (x y : Child) (n : Bool) → (is_truth (check x) && is_truth (check y) && n) ≡ true → TwoTruths x y
two_truths x y n h =
    let both = and_left (is_truth (check x) && is_truth (check y)) n h in
    record { left = truth_child x (and_left (is_truth (check x)) (is_truth (check y)) both); right = truth_child y (and_right (is_truth (check x)) (is_truth (check y)) both) }

compared : (may may_not : Span → Span → Bool) → AreTests may may_not → (x y : Child) → Two x y → MeansFewerTruths (r.comparison may may_not x.small y.small) (r.comparison may may_not x.large y.large)
compared may may_not tests x y t =
    let l = t.left in
    let k = t.right in
    record {
      some = compare_some may may_not tests x.small.interval y.small.interval x.large.interval y.large.interval x.small.may_be_undefined y.small.may_be_undefined l.some k.some l.interval k.interval;
      may_be_true = compare_less may tests.yes_grows x.small.interval y.small.interval x.large.interval y.large.interval l.interval k.interval;
      may_be_false = or_less (x.small.may_be_undefined || y.small.may_be_undefined) _ (x.large.may_be_undefined || y.large.may_be_undefined) _
          (or_less x.small.may_be_undefined y.small.may_be_undefined x.large.may_be_undefined y.large.may_be_undefined l.may_be_undefined k.may_be_undefined)
          (compare_less may_not tests.no_grows x.small.interval y.small.interval x.large.interval y.large.interval l.interval k.interval);
    }

combines : (f : Bool → Bool → Bool) (x y : Child) → TwoTruths x y → MeansFewerTruths (r.combined f x.small y.small) (r.combined f x.large y.large)
combines f x y t = record {
  some = admits_some (f true true) (f true false) (f false true) (f false false) x.small y.small t.left.some t.right.some;
  may_be_true = admits_less (f true true) (f true false) (f false true) (f false false) x.small y.small x.large y.large t.left t.right;
  may_be_false = admits_less (not (f true true)) (not (f true false)) (not (f false true)) (not (f false false)) x.small y.small x.large y.large t.left t.right;
}

any_some : (cs : List Child) → are_truths (map check cs) ≡ true → (r.any_may_be_true (map smalls cs) || r.all_may_be_false (map smalls cs)) ≡ true
any_some [] h = refl
any_some (c ∷ cs) h =
    let t = truth_child c (and_left (is_truth (check c)) (are_truths (map check cs)) h) in
    let k = any_some cs (and_right (is_truth (check c)) (are_truths (map check cs)) h) in
    join c.small.may_be_true c.small.may_be_false (r.any_may_be_true (map smalls cs)) (r.all_may_be_false (map smalls cs)) t.some k
  where
    join : (y n ys ns : Bool) → (y || n) ≡ true → (ys || ns) ≡ true → ((y || ys) || (n && ns)) ≡ true
    join true n ys ns h k = refl
    join false n ys ns h k = or_split ys ns k (λ e. or_left ys (n && ns) e) (λ e. or_right ys (n && ns) (and_true n ns h e))

any_yes_less : (cs : List Child) → are_truths (map check cs) ≡ true → r.any_may_be_true (map smalls cs) ≡ true → r.any_may_be_true (map larges cs) ≡ true
any_yes_less [] h e = e
any_yes_less (c ∷ cs) h e =
    let t = truth_child c (and_left (is_truth (check c)) (are_truths (map check cs)) h) in
    or_less c.small.may_be_true (r.any_may_be_true (map smalls cs)) c.large.may_be_true (r.any_may_be_true (map larges cs)) t.may_be_true (any_yes_less cs (and_right (is_truth (check c)) (are_truths (map check cs)) h)) e

all_no_less : (cs : List Child) → are_truths (map check cs) ≡ true → r.all_may_be_false (map smalls cs) ≡ true → r.all_may_be_false (map larges cs) ≡ true
all_no_less [] h e = e
all_no_less (c ∷ cs) h e =
    let t = truth_child c (and_left (is_truth (check c)) (are_truths (map check cs)) h) in
    and_less c.small.may_be_false (r.all_may_be_false (map smalls cs)) c.large.may_be_false (r.all_may_be_false (map larges cs)) t.may_be_false (all_no_less cs (and_right (is_truth (check c)) (are_truths (map check cs)) h)) e

-- a list of integer parts and one more
record ListAnd (xs : List Child) (y : Child) : Type 0 where
  list : AllLess (map smalls xs) (map larges xs)
  beside : MeansFewerNumbers y.small y.large

list_and : (xs : List Child) (y : Child) (n : Bool) → (are_numbers (map check xs) && is_number (check y) && n) ≡ true → ListAnd xs y
list_and xs y n h =
    let both = and_left (are_numbers (map check xs) && is_number (check y)) n h in
    record { list = number_children xs (and_left (are_numbers (map check xs)) (is_number (check y)) both); beside = number_child y (and_right (are_numbers (map check xs)) (is_number (check y)) both) }

-- a condition and two branches
record Branches (c : Child) (p q : Bool) : Type 0 where
  condition : MeansFewerTruths c.small c.large
  then_part : p ≡ true
  else_part : q ≡ true

branches : (c : Child) (p q n : Bool) → (is_truth (check c) && p && q && n) ≡ true → Branches c p q
branches c p q n h =
    let all = and_left (is_truth (check c) && p && q) n h in
    let two = and_left (is_truth (check c) && p) q all in
    record { condition = truth_child c (and_left (is_truth (check c)) p two); then_part = and_right (is_truth (check c)) p two; else_part = and_right (is_truth (check c) && p) q all }

-- the limits are not looked at
less_step : (b b' : List Span) → IsSmaller b b' → (t : Ground-F Child) → (sorted_step b' (map-Ground Child Checked check t) && true) ≡ true →
    MeansLess (numeric_layer t) (enclosure_step b (map-Ground Child Enclosure smalls t)) (enclosure_step b' (map-Ground Child Enclosure larges t))
less_step b b' sm (Num n) h = record { some = refl; interval = point_inside n; may_be_undefined = λ e. e }
less_step b b' sm Undef h = record { some = refl; interval = tt; may_be_undefined = λ e. e }
less_step b b' sm (Var u) h = record { some = refl; interval = sm.inside u (variable b' u (and_left (has_variable b' u) _ h)); may_be_undefined = λ e. e }
less_step b b' sm (Add x y) h = binary add_span add_shrinks x y (two x y _ h)
less_step b b' sm (Sub x y) h = binary sub_span sub_shrinks x y (two x y _ h)
less_step b b' sm (Mul x y) h = binary mul_span mul_shrinks x y (two x y _ h)
less_step b b' sm (Div x y) h = let t = two x y _ h in division_less div_at div_span div_shares x.small y.small x.large y.large t.left t.right
less_step b b' sm (Mod x y) h = let t = two x y _ h in division_less mod_at mod_span mod_shares x.small y.small x.large y.large t.left t.right
less_step b b' sm (Neg x) h = image_less neg_span neg_narrows x.small x.large (number_child x (and_left (is_number (check x)) _ h))
less_step b b' sm (Abs x) h = image_less abs_span abs_narrows x.small x.large (number_child x (and_left (is_number (check x)) _ h))
less_step b b' sm (Sum xs) h =
    folded_less add_span add_shrinks (Some (point (pos 0))) (Some (point (pos 0))) false false (map smalls xs) (map larges xs) refl (point_inside (pos 0)) (λ e. e) (number_children xs (and_left (are_numbers (map check xs)) _ h))
less_step b b' sm (Least xs) h = extreme_less min_span min_shrinks (map smalls xs) (map larges xs) (number_children xs (and_left (are_numbers (map check xs)) _ h))
less_step b b' sm (Greatest xs) h = extreme_less max_span max_shrinks (map smalls xs) (map larges xs) (number_children xs (and_left (are_numbers (map check xs)) _ h))
less_step b b' sm (ToInt x) h =
    let t = truth_child x (and_left (is_truth (check x)) _ h) in
    record { some = refl; interval = bits_inside x.small.may_be_true x.small.may_be_false x.large.may_be_true x.large.may_be_false t.some t.may_be_true t.may_be_false; may_be_undefined = λ e. e }
less_step b b' sm (Elem low xs i) h = let t = list_and xs i _ h in elem_less low (map smalls xs) (map larges xs) i.small i.large t.list t.beside
less_step b b' sm (Elem2 k l w xs i j) h =
    let ij = and_left (are_numbers (map check xs) && is_number (check i) && is_number (check j)) _ h in
    let t = list_and xs i (is_number (check j)) ij in
    elem2_less k l w (map smalls xs) (map larges xs) i.small i.large j.small j.large t.list t.beside (number_child j (and_right (are_numbers (map check xs) && is_number (check i)) (is_number (check j)) ij))
less_step b b' sm (Count xs y) h = let t = list_and xs y _ h in counted_less (map smalls xs) (map larges xs) y.small y.large t.list t.beside
less_step b b' sm (IteI c x y) h =
    let t = branches c (is_number (check x)) (is_number (check y)) _ h in
    either_less c.small c.large x.small x.large y.small y.large t.condition (number_child x t.then_part) (number_child y t.else_part)
less_step b b' sm True h = record { some = refl; may_be_true = λ e. e; may_be_false = λ e. e }
less_step b b' sm False h = record { some = refl; may_be_true = λ e. e; may_be_false = λ e. e }
less_step b b' sm (BVar u) h = bit (span_at b u) (span_at b' u) (has_variable b' u) _ (λ k. sm.inside u (variable b' u k)) h
  where
    bit : (s t : Span) (v k : Bool) → (v ≡ true → Inside s t) → ((v && int_le (pos 0) t.lo && int_le t.hi (pos 1)) && k) ≡ true →
        MeansFewerTruths (r.boolean_enclosure (has s (pos 1)) (has s (pos 0))) (r.boolean_enclosure (has t (pos 1)) (has t (pos 0)))
    bit s t v k f h =
        let all = and_left (v && int_le (pos 0) t.lo && int_le t.hi (pos 1)) k h in
        let first = and_left (v && int_le (pos 0) t.lo) (int_le t.hi (pos 1)) all in
        let i = f (and_left v (int_le (pos 0) t.lo) first) in
        let low = le_of (pos 0) t.lo (and_right v (int_le (pos 0) t.lo) first) in
        let high = le_of t.hi (pos 1) (and_right (v && int_le (pos 0) t.lo) (int_le t.hi (pos 1)) all) in
        record { some = bit_some s t i low high; may_be_true = has_grows s t (pos 1) i; may_be_false = has_grows s t (pos 0) i }
less_step b b' sm (And xs) h =
    let n = and_left (are_truths (map check xs)) _ h in
    record { some = all_some xs n; may_be_true = all_yes_less xs n; may_be_false = any_no_less xs n }
less_step b b' sm (Or xs) h =
    let n = and_left (are_truths (map check xs)) _ h in
    record { some = any_some xs n; may_be_true = any_yes_less xs n; may_be_false = all_no_less xs n }
less_step b b' sm (Not x) h =
    let t = truth_child x (and_left (is_truth (check x)) _ h) in
    record { some = or_swap x.small.may_be_true x.small.may_be_false t.some; may_be_true = t.may_be_false; may_be_false = t.may_be_true }
less_step b b' sm (Iff x y) h = combines v.iff x y (two_truths x y _ h)
less_step b b' sm (Imp x y) h = combines v.imp x y (two_truths x y _ h)
less_step b b' sm (Xor x y) h = combines v.xor x y (two_truths x y _ h)
less_step b b' sm (Eq x y) h = compared r.meets r.may_differ eq_tests x y (two x y _ h)
less_step b b' sm (Ne x y) h = compared r.may_differ r.meets ne_tests x y (two x y _ h)
less_step b b' sm (Lt x y) h = compared r.may_be_less r.may_be_at_least less_tests x y (two x y _ h)
less_step b b' sm (Le x y) h = compared r.may_be_at_most r.may_be_greater at_most_tests x y (two x y _ h)
less_step b b' sm (IteB c x y) h =
    let t = branches c (is_truth (check x)) (is_truth (check y)) _ h in
    either_truer c.small c.large x.small x.large y.small y.large t.condition (truth_child x t.then_part) (truth_child y t.else_part)
less_step b b' sm (In x rs) h = in_less rs x.small x.large (number_child x (and_left (is_number (check x)) _ h))
less_step b b' sm (AllDiff xs) h = distinct_less (map smalls xs) (map larges xs) (number_children xs (and_left (are_numbers (map check xs)) _ h))
less_step b b' sm (Table xs rows) h = rowed_less rows (map smalls xs) (map larges xs) (number_children xs (and_left (are_numbers (map check xs)) _ h))

-- ---- one node

abbrev child_of : Part → Child
child_of p = record { numeric = p.numeric; fit = true; small = p.small; large = p.large; less = λ e. p.less }

-- where the parts mean less, a node means less
pub node_less : NodesMeanLess
node_less b b' sm t h =
    let u = map-Ground Part Child child_of t in
    let s : sorted_step b' (map-Ground Child Checked check u) ≡ true = ap (sorted_step b') (twice child_of check t) ∙ h in
    let n : numeric_layer u ≡ numeric_layer t = layer_map child_of t in
    let small : enclosure_step b (map-Ground Child Enclosure smalls u) ≡ enclosure_step b (map-Ground Part Enclosure small_of t) = ap (enclosure_step b) (twice child_of smalls t) in
    let large : enclosure_step b' (map-Ground Child Enclosure larges u) ≡ enclosure_step b' (map-Ground Part Enclosure large_of t) = ap (enclosure_step b') (twice child_of larges t) in
    moved n small large (less_step b b' sm u (and_true (sorted_step b' (map-Ground Child Checked check u)) true s refl))
  where
    moved : {k l : Bool} {p q x y : Enclosure} → k ≡ l → p ≡ q → x ≡ y → MeansLess k p x → MeansLess l q y
    moved {k} {l} {p} {q} {x} {y} e f g m = subst (λ z. MeansLess l q z) g (subst (λ z. MeansLess l z x) f (subst (λ z. MeansLess z p x) e m))

-- ---- trees

abbrev pub IsLess : (Ground → Bool) → List Span → List Span → Ground → Type 0
IsLess ok b b' g = ok g ≡ true → MeansLess (is_numeric g) (enclosure b g) (enclosure b' g)

module _ (ok : Ground → Bool) (b b' : List Span) where
  abbrev child : ((g : Ground) × IsLess ok b b' g) → Child
  child e = record { numeric = is_numeric e.0; fit = ok e.0; small = enclosure b e.0; large = enclosure b' e.0; less = e.1 }

  abbrev look : Ground → Checked
  look g = record { fit = ok g; numeric = is_numeric g; enclosure = enclosure b' g }

  -- of each test of trees that looks at least at the sorts
  on_smaller : IsSmaller b b' → ((d : Ground-F Ground) → ok (roll-Ground d) ≡ true → sorted_step b' (map-Ground Ground Checked look d) ≡ true) → (g : Ground) → IsLess ok b b' g
  on_smaller sm sorts = induct (IsLess ok b b') (λ y h.
      let E : Type 0 = (g : Ground) × IsLess ok b b' g in
      let d = map-Ground E Ground (λ e. e.0) y in
      let t = map-Ground E Child child y in
      let sorted : sorted_step b' (map-Ground Child Checked check t) ≡ true = ap (sorted_step b') (twice child check y ∙ sym (twice (λ (e : E). e.0) look y)) ∙ sorts d h in
      let s : enclosure_step b (map-Ground Child Enclosure smalls t) ≡ enclosure b (roll-Ground d) = ap (enclosure_step b) (twice child smalls y) ∙ sym (fold_at Enclosure (enclosure_step b) (λ (e : E). e.0) y) in
      let l : enclosure_step b' (map-Ground Child Enclosure larges t) ≡ enclosure b' (roll-Ground d) = ap (enclosure_step b') (twice child larges y) ∙ sym (fold_at Enclosure (enclosure_step b') (λ (e : E). e.0) y) in
      let n : numeric_layer t ≡ is_numeric (roll-Ground d) = layer_map child y ∙ sym (is_numeric_roll (λ (e : E). e.0) y) in
      subst (λ q. MeansLess (is_numeric (roll-Ground d)) (enclosure b (roll-Ground d)) q) l (subst (λ q. MeansLess (is_numeric (roll-Ground d)) q (enclosure_step b' (map-Ground Child Enclosure larges t))) s (subst (λ q. MeansLess q (enclosure_step b (map-Ground Child Enclosure smalls t)) (enclosure_step b' (map-Ground Child Enclosure larges t))) n (less_step b b' sm t (and_true (sorted_step b' (map-Ground Child Checked check t)) true sorted refl)))))

-- on a smaller box, where the tree is well formed
pub reach_on_smaller : SmallerBoxesMeanLess
reach_on_smaller b b' sm = on_smaller (is_well_formed b') b b' sm (λ d h.
    and_left (sorted_step b' (map-Ground Ground Checked (checked b') d)) (narrow_step b' (map-Ground Checked Enclosure enclosure_of (map-Ground Ground Checked (checked b') d))) (sym (fit_roll b' d) ∙ h))

-- on a smaller box, where the tree is well sorted
pub sorted_on_smaller : SmallerBoxesMeanLessOfSorted
sorted_on_smaller b b' sm = on_smaller (is_sorted b') b b' sm (λ d h. sym (sorted_roll b' d) ∙ h)

-- a well formed tree means something
pub reach_proper : (b : List Span) (g : Ground) → is_well_formed b g ≡ true → MeansLess (is_numeric g) (enclosure b g) (enclosure b g)
reach_proper b = reach_on_smaller b b (record { inside = λ v h. record { lo = ≤ℤ_refl (span_at b v).lo; proper = h.proper; hi = ≤ℤ_refl (span_at b v).hi } })

pub truth_some : (b : List Span) (g : Ground) → IsTruth b g → ((enclosure b g).may_be_true || (enclosure b g).may_be_false) ≡ true
truth_some b g t = (subst (λ n. MeansLess n (enclosure b g) (enclosure b g)) t.boolean (reach_proper b g t.fit)).some
