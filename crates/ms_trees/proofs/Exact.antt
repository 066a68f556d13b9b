-- On a box of one assignment, what a tree may mean is what it means.
use Rattle.std.proofs.Common.{◌≡◌, ℕ, List, [], ◌∷◌, Bool, true, false, not, ◌&&◌, ◌||◌, Some, map, get_or, length, zero, suc, refl, sym, ap, ◌∙◌, subst, arith}
use Rattle.std.proofs.lemmas.Bool.{false≢true}
use Rattle.std.proofs.lemmas.Bool.Decides.{nat_tests}
use Rattle.std.specs.Prelude.{ℤ, pos, negsuc, int_le, int_lt, ◌/◌}
use Rattle.ms_num.specs.Numbers.{int_eq, add_at, sub_at, mul_at, min_at, max_at, div_at, mod_at}
use Rattle.ms_num.specs.Span.{Span, point, has, neg_span, abs_span, add_span, sub_span, mul_span, min_span, max_span, div_span, mod_span}
use Rattle.ms_trees.specs.Value as v
use Rattle.ms_trees.specs.Value.{Meaning, value, value_step, bit}
use Rattle.ms_trees.specs.Enclosure as r
use Rattle.ms_trees.specs.Enclosure.{enclosure, enclosure_step, points, span_at}
use Rattle.ms_trees.specs.WellFormed.{Checked, is_well_formed, is_sorted, sorted_step, narrow_step, enclosure_of, is_numeric, numeric_layer, is_number, is_truth, are_numbers, are_truths}
use Rattle.ms_trees.specs.declared.tree.Enclosure.{Enclosure}
use Rattle.ms_trees.specs.declared.tree.Ground.{Ground, roll-Ground, map-Ground}
use Rattle.ms_trees.specs.declared.tree.Ground.TheOpen.{Ground-F, Num, Undef, Var, Add, Sub, Mul, Div, Mod, Neg, Abs, Sum, Least, Greatest, ToInt, Elem, Elem2, Count, IteI, True, False, BVar, And, Or, Not, Iff, Imp, Xor, Eq, Ne, Lt, Le, IteB, In, AllDiff, Table}
use Rattle.ms_trees.specs.WellFormed.{checked}
use Rattle.ms_trees.specs.Laws.{of_number, exact, MeantPart, NodesMeanThemselves, PointsMeanThemselves, PointsMeanThemselvesOfSorted}
use Rattle.ms_trees.proofs.Layers.{induct, twice, fit_roll, sorted_roll, fold_at, layer_map, is_numeric_roll}
use Rattle.ms_trees.proofs.Bools.{and_left, and_right, and_true, ap2, twice_not, lt_flip, le_flip}
use Rattle.ms_trees.proofs.Points.{spans, add_points, sub_points, mul_points, min_points, max_points, single, exact_operation, exact_neg, exact_abs, exact_folded, exact_extreme, exact_comparison, exact_counted, exact_either, exact_either_truth, exact_in, exact_rowed}
use Rattle.ms_trees.proofs.Places.{exact_elem, exact_elem2}
use Rattle.ms_trees.proofs.Apart.{exact_distinct}
use Rattle.ms_trees.proofs.Divisions.{exact_division, div_shares, mod_shares}

-- a part, with the claim for it
record Child : Type 0 where
  numeric : Bool
  fit : Bool
  meaning : Meaning
  enclosure : Enclosure
  same : fit ≡ true → enclosure ≡ exact numeric meaning

abbrev check : Child → Checked
check c = record { fit = c.fit; numeric = c.numeric; enclosure = c.enclosure }

abbrev means : Child → Meaning
means c = c.meaning

abbrev reaches : Child → Enclosure
reaches c = c.enclosure

number_child : (c : Child) → is_number (check c) ≡ true → c.enclosure ≡ of_number c.meaning.number
number_child c h = c.same (and_left c.fit c.numeric h) ∙ ap (λ b. exact b c.meaning) (and_right c.fit c.numeric h)

truth_child : (c : Child) → is_truth (check c) ≡ true → c.enclosure ≡ r.boolean_enclosure c.meaning.truth (not c.meaning.truth)
truth_child c h = c.same (and_left c.fit (not c.numeric) h) ∙ ap (λ b. exact b c.meaning) (flip c.numeric (and_right c.fit (not c.numeric) h))
  where
    flip : (b : Bool) → not b ≡ true → b ≡ false
    flip true e = sym e
    flip false e = refl

-- integer parts may mean what their numbers say
number_children : (cs : List Child) → are_numbers (map check cs) ≡ true → map reaches cs ≡ spans (map means cs)
number_children [] h = refl
number_children (c ∷ cs) h =
    ap2 (λ q qs. q ∷ qs) (number_child c (and_left (is_number (check c)) (are_numbers (map check cs)) h)) (number_children cs (and_right (is_number (check c)) (are_numbers (map check cs)) h))

exact_to_int : (b : Bool) → r.numeric_enclosure (Some (r.bits b (not b))) false ≡ of_number (Some (bit b))
exact_to_int true = refl
exact_to_int false = refl

exact_and : (cs : List Child) → are_truths (map check cs) ≡ true →
    r.boolean_enclosure (r.all_may_be_true (map reaches cs)) (r.any_may_be_false (map reaches cs)) ≡ r.boolean_enclosure (v.all_true (map means cs)) (not (v.all_true (map means cs)))
exact_and [] h = refl
exact_and (c ∷ cs) h =
    let e = truth_child c (and_left (is_truth (check c)) (are_truths (map check cs)) h) in
    let k = exact_and cs (and_right (is_truth (check c)) (are_truths (map check cs)) h) in
    one c.meaning.truth c.enclosure e _ _ _ k
  where
    step : (b y n t : Bool) → r.boolean_enclosure y n ≡ r.boolean_enclosure t (not t) → r.boolean_enclosure (b && y) (not b || n) ≡ r.boolean_enclosure (b && t) (not (b && t))
    step true y n t k = k
    step false y n t k = refl

    one : (b : Bool) (q : Enclosure) → q ≡ r.boolean_enclosure b (not b) → (y n t : Bool) → r.boolean_enclosure y n ≡ r.boolean_enclosure t (not t) → r.boolean_enclosure (q.may_be_true && y) (q.may_be_false || n) ≡ r.boolean_enclosure (b && t) (not (b && t))
    one b q e y n t k = rw e (step b y n t k)

exact_or : (cs : List Child) → are_truths (map check cs) ≡ true →
    r.boolean_enclosure (r.any_may_be_true (map reaches cs)) (r.all_may_be_false (map reaches cs)) ≡ r.boolean_enclosure (v.any_true (map means cs)) (not (v.any_true (map means cs)))
exact_or [] h = refl
exact_or (c ∷ cs) h =
    let e = truth_child c (and_left (is_truth (check c)) (are_truths (map check cs)) h) in
    let k = exact_or cs (and_right (is_truth (check c)) (are_truths (map check cs)) h) in
    one c.meaning.truth c.enclosure e _ _ _ k
  where
    step : (b y n t : Bool) → r.boolean_enclosure y n ≡ r.boolean_enclosure t (not t) → r.boolean_enclosure (b || y) (not b && n) ≡ r.boolean_enclosure (b || t) (not (b || t))
    step true y n t k = refl
    step false y n t k = k

    one : (b : Bool) (q : Enclosure) → q ≡ r.boolean_enclosure b (not b) → (y n t : Bool) → r.boolean_enclosure y n ≡ r.boolean_enclosure t (not t) → r.boolean_enclosure (q.may_be_true || y) (q.may_be_false && n) ≡ r.boolean_enclosure (b || t) (not (b || t))
    one b q e y n t k = rw e (step b y n t k)

-- a combination of two truth values
exact_combined : (f : Bool → Bool → Bool) (b c : Bool) → r.combined f (r.boolean_enclosure b (not b)) (r.boolean_enclosure c (not c)) ≡ r.boolean_enclosure (f b c) (not (f b c))
exact_combined f true true = last (f true true)
  where
    last : (a : Bool) → r.boolean_enclosure (a || false || false || false) (not a || false || false || false) ≡ r.boolean_enclosure a (not a)
    last true = refl
    last false = refl
exact_combined f true false = last (f true false)
  where
    last : (a : Bool) → r.boolean_enclosure (a || false || false) (not a || false || false) ≡ r.boolean_enclosure a (not a)
    last true = refl
    last false = refl
exact_combined f false true = last (f false true)
  where
    last : (a : Bool) → r.boolean_enclosure (a || false) (not a || false) ≡ r.boolean_enclosure a (not a)
    last true = refl
    last false = refl
exact_combined f false false = refl

-- two integer parts
module _ (x y : Child) (n : Bool) (h : (is_number (check x) && is_number (check y) && n) ≡ true) where
  left : x.enclosure ≡ of_number x.meaning.number
  left = number_child x (and_left _ _ (and_left _ n h))

  right : y.enclosure ≡ of_number y.meaning.number
  right = number_child y (and_right (is_number (check x)) _ (and_left _ n h))

-- two Boolean parts
module _ (x y : Child) (n : Bool) (h : (is_truth (check x) && is_truth (check y) && n) ≡ true) where
  first : x.enclosure ≡ r.boolean_enclosure x.meaning.truth (not x.meaning.truth)
  first = truth_child x (and_left _ _ (and_left _ n h))

  second : y.enclosure ≡ r.boolean_enclosure y.meaning.truth (not y.meaning.truth)
  second = truth_child y (and_right (is_truth (check x)) _ (and_left _ n h))

-- a list of integer parts and one more, or two
module _ (xs : List Child) (y : Child) (n : Bool) (h : (are_numbers (map check xs) && is_number (check y) && n) ≡ true) where
  list : map reaches xs ≡ spans (map means xs)
  list = number_children xs (and_left (are_numbers (map check xs)) (is_number (check y)) (and_left _ n h))

  beside : y.enclosure ≡ of_number y.meaning.number
  beside = number_child y (and_right (are_numbers (map check xs)) (is_number (check y)) (and_left _ n h))

-- a condition and two branches of either sort
module _ (c x y : Child) (p q n : Bool) (h : (is_truth (check c) && p && q && n) ≡ true) where
  condition : c.enclosure ≡ r.boolean_enclosure c.meaning.truth (not c.meaning.truth)
  condition = truth_child c (and_left (is_truth (check c)) p (and_left (is_truth (check c) && p) q (and_left (is_truth (check c) && p && q) n h)))

  then_part : p ≡ true
  then_part = and_right (is_truth (check c)) p (and_left (is_truth (check c) && p) q (and_left (is_truth (check c) && p && q) n h))

  else_part : q ≡ true
  else_part = and_right (is_truth (check c) && p) q (and_left (is_truth (check c) && p && q) n h)

ap3 : {X Y Z W : Type 0} (f : X → Y → Z → W) {p p' : X} {q q' : Y} {s s' : Z} → p ≡ p' → q ≡ q' → s ≡ s' → f p q s ≡ f p' q' s'
ap3 f {p'} {q} {s} e k l = ap (λ x. f x q s) e ∙ ap2 (f p') k l

read_map : {X Y : Type 0} (f : X → Y) (xs : List X) (i : ℕ) (d : X) → get_or (map f xs) i (f d) ≡ f (get_or xs i d)
read_map f [] i d = refl
read_map f (x ∷ xs) zero d = refl
read_map f (x ∷ xs) (suc i) d = read_map f xs i d

exact_bit : (z : ℤ) → (int_le (pos 0) z && int_le z (pos 1)) ≡ true → r.boolean_enclosure (has (point z) (pos 1)) (has (point z) (pos 0)) ≡ r.boolean_enclosure (int_eq z (pos 1)) (not (int_eq z (pos 1)))
exact_bit (pos zero) h = refl
exact_bit (pos (suc zero)) h = refl
exact_bit (pos (suc (suc n))) h = absurd (grind (arith, nat_tests))
exact_bit (negsuc n) h = absurd (false≢true h)

exact_bit_at : (k n : Bool) (s : Span) (z : ℤ) → s ≡ point z → ((k && int_le (pos 0) s.lo && int_le s.hi (pos 1)) && n) ≡ true → r.boolean_enclosure (has s (pos 1)) (has s (pos 0)) ≡ r.boolean_enclosure (int_eq z (pos 1)) (not (int_eq z (pos 1)))
exact_bit_at k n s z e h =
    let bits = and_left (k && int_le (pos 0) s.lo && int_le s.hi (pos 1)) n h in
    let low = and_right k (int_le (pos 0) s.lo) (and_left (k && int_le (pos 0) s.lo) (int_le s.hi (pos 1)) bits) in
    let high = and_right (k && int_le (pos 0) s.lo) (int_le s.hi (pos 1)) bits in
    let both = and_true (int_le (pos 0) s.lo) (int_le s.hi (pos 1)) low high in
    ap (λ s. r.boolean_enclosure (has s (pos 1)) (has s (pos 0))) e ∙ exact_bit z (subst (λ (s : Span). (int_le (pos 0) s.lo && int_le s.hi (pos 1)) ≡ true) e both)

-- the limits are not looked at
exact_step : (a : List ℤ) (t : Ground-F Child) → (sorted_step (points a) (map-Ground Child Checked check t) && true) ≡ true →
    enclosure_step (points a) (map-Ground Child Enclosure reaches t) ≡ exact (numeric_layer t) (value_step a (map-Ground Child Meaning means t))
exact_step a (Num n) h = refl
exact_step a Undef h = refl
exact_step a (Var u) h = ap (λ s. r.numeric_enclosure (Some s) false) (read_map point a u (pos 0))
exact_step a (Add x y) h = ap2 (r.operation add_span) (left x y _ h) (right x y _ h) ∙ exact_operation add_at add_span add_points x.meaning.number y.meaning.number
exact_step a (Sub x y) h = ap2 (r.operation sub_span) (left x y _ h) (right x y _ h) ∙ exact_operation sub_at sub_span sub_points x.meaning.number y.meaning.number
exact_step a (Mul x y) h = ap2 (r.operation mul_span) (left x y _ h) (right x y _ h) ∙ exact_operation mul_at mul_span mul_points x.meaning.number y.meaning.number
exact_step a (Div x y) h = ap2 (r.division div_span) (left x y _ h) (right x y _ h) ∙ exact_division div_at div_span div_shares x.meaning.number y.meaning.number
exact_step a (Mod x y) h = ap2 (r.division mod_span) (left x y _ h) (right x y _ h) ∙ exact_division mod_at mod_span mod_shares x.meaning.number y.meaning.number
exact_step a (Neg x) h = ap (r.image_enclosure neg_span) (number_child x (and_left (is_number (check x)) _ h)) ∙ exact_neg x.meaning.number
exact_step a (Abs x) h = ap (r.image_enclosure abs_span) (number_child x (and_left (is_number (check x)) _ h)) ∙ exact_abs x.meaning.number
exact_step a (Sum xs) h =
    ap (λ rs. r.numeric_enclosure (r.folded_intervals add_span (Some (point (pos 0))) rs) (r.any_may_be_undefined rs)) (number_children xs (and_left (are_numbers (map check xs)) _ h))
    ∙ exact_folded add_at add_span add_points (Some (pos 0)) (map means xs)
exact_step a (Least xs) h = ap (r.extreme_enclosure min_span) (number_children xs (and_left (are_numbers (map check xs)) _ h)) ∙ exact_extreme min_at min_span min_points (map means xs)
exact_step a (Greatest xs) h = ap (r.extreme_enclosure max_span) (number_children xs (and_left (are_numbers (map check xs)) _ h)) ∙ exact_extreme max_at max_span max_points (map means xs)
exact_step a (ToInt x) h = ap (λ p. enclosure_step (points a) (ToInt p)) (truth_child x (and_left _ _ h)) ∙ exact_to_int x.meaning.truth
exact_step a (Elem low xs i) h =
    ap2 (λ rs (q : Enclosure). r.selected_enclosure (r.is_reached low q.interval) (q.may_be_undefined || r.leaves low (length rs) q.interval) rs) (list xs i _ h) (beside xs i _ h) ∙ exact_elem low (map means xs) i.meaning.number
exact_step a (Elem2 k l w xs i j) h =
    ap3 (λ rs (p q : Enclosure). r.selected_enclosure (r.is_reached2 k l w (length rs) p.interval q.interval) (p.may_be_undefined || q.may_be_undefined || r.leaves k (length rs / w) p.interval || r.leaves l w q.interval) rs) (list xs i _ (and_left (are_numbers (map check xs) && is_number (check i) && is_number (check j)) _ h)) (beside xs i _ (and_left (are_numbers (map check xs) && is_number (check i) && is_number (check j)) _ h)) (number_child j (and_right (are_numbers (map check xs) && is_number (check i)) (is_number (check j)) (and_left (are_numbers (map check xs) && is_number (check i) && is_number (check j)) _ h)))
    ∙ exact_elem2 k l w (map means xs) i.meaning.number j.meaning.number
exact_step a (Count xs y) h = ap2 r.counted_enclosure (list xs y _ h) (beside xs y _ h) ∙ exact_counted (map means xs) y.meaning.number
exact_step a (IteI c x y) h =
    ap3 r.either_number (condition c x y _ _ _ h) (number_child x (then_part c x y _ _ _ h)) (number_child y (else_part c x y _ _ _ h)) ∙ exact_either c.meaning.truth x.meaning.number y.meaning.number
exact_step a True h = refl
exact_step a False h = refl
exact_step a (BVar u) h = exact_bit_at _ _ (span_at (points a) u) (get_or a u (pos 0)) (read_map point a u (pos 0)) h
exact_step a (And xs) h = exact_and xs (and_left (are_truths (map check xs)) _ h)
exact_step a (Or xs) h = exact_or xs (and_left (are_truths (map check xs)) _ h)
exact_step a (Not x) h = ap (λ p. enclosure_step (points a) (Not p)) (truth_child x (and_left _ _ h)) ∙ ap (r.boolean_enclosure (not x.meaning.truth)) (twice_not x.meaning.truth)
exact_step a (Iff x y) h = ap2 (r.combined v.iff) (first x y _ h) (second x y _ h) ∙ exact_combined v.iff x.meaning.truth y.meaning.truth
exact_step a (Imp x y) h = ap2 (r.combined v.imp) (first x y _ h) (second x y _ h) ∙ exact_combined v.imp x.meaning.truth y.meaning.truth
exact_step a (Xor x y) h = ap2 (r.combined v.xor) (first x y _ h) (second x y _ h) ∙ exact_combined v.xor x.meaning.truth y.meaning.truth
exact_step a (Eq x y) h =
    ap2 (r.comparison r.meets r.may_differ) (left x y _ h) (right x y _ h)
    ∙ exact_comparison r.meets r.may_differ int_eq (λ p q. refl) (λ p q. ap not (single p q)) x.meaning.number y.meaning.number
exact_step a (Ne x y) h =
    ap2 (r.comparison r.may_differ r.meets) (left x y _ h) (right x y _ h)
    ∙ exact_comparison r.may_differ r.meets v.int_ne (λ p q. ap not (single p q)) (λ p q. twice_not (int_eq p q)) x.meaning.number y.meaning.number
exact_step a (Lt x y) h =
    ap2 (r.comparison r.may_be_less r.may_be_at_least) (left x y _ h) (right x y _ h)
    ∙ exact_comparison r.may_be_less r.may_be_at_least int_lt (λ p q. refl) lt_flip x.meaning.number y.meaning.number
exact_step a (Le x y) h =
    ap2 (r.comparison r.may_be_at_most r.may_be_greater) (left x y _ h) (right x y _ h)
    ∙ exact_comparison r.may_be_at_most r.may_be_greater int_le (λ p q. refl) le_flip x.meaning.number y.meaning.number
exact_step a (IteB c x y) h =
    ap3 r.either_truth (condition c x y _ _ _ h) (truth_child x (then_part c x y _ _ _ h)) (truth_child y (else_part c x y _ _ _ h)) ∙ exact_either_truth c.meaning.truth x.meaning.truth y.meaning.truth
exact_step a (In x rs) h =
    ap (λ (q : Enclosure). r.boolean_enclosure (r.test_interval (r.may_be_in rs) q.interval) (q.may_be_undefined || r.test_interval (λ s. not (r.is_inside rs s)) q.interval)) (number_child x (and_left (is_number (check x)) _ h)) ∙ exact_in rs x.meaning.number
exact_step a (AllDiff xs) h = ap r.distinct (number_children xs (and_left (are_numbers (map check xs)) _ h)) ∙ exact_distinct (map means xs)
exact_step a (Table xs rows) h = ap (r.rowed rows) (number_children xs (and_left (are_numbers (map check xs)) _ h)) ∙ exact_rowed rows (map means xs)

-- ---- one node

abbrev child_of : MeantPart → Child
child_of p = record { numeric = p.numeric; fit = true; meaning = p.meaning; enclosure = exact p.numeric p.meaning; same = λ e. refl }

-- where the parts mean just what they mean, a node does
pub node_exact : NodesMeanThemselves
node_exact a t h =
    let u = map-Ground MeantPart Child child_of t in
    let s : sorted_step (points a) (map-Ground Child Checked check u) ≡ true = ap (sorted_step (points a)) (twice child_of check t) ∙ h in
    ap (enclosure_step (points a)) (sym (twice child_of reaches t))
    ∙ exact_step a u (and_true (sorted_step (points a) (map-Ground Child Checked check u)) true s refl)
    ∙ ap2 exact (layer_map child_of t) (ap (value_step a) (twice child_of means t))

-- ---- trees

abbrev IsSame : (Ground → Bool) → List ℤ → Ground → Type 0
IsSame ok a g = ok g ≡ true → enclosure (points a) g ≡ exact (is_numeric g) (value a g)

module _ (ok : Ground → Bool) (a : List ℤ) where
  abbrev child : ((g : Ground) × IsSame ok a g) → Child
  child e = record { numeric = is_numeric e.0; fit = ok e.0; meaning = value a e.0; enclosure = enclosure (points a) e.0; same = e.1 }

  abbrev look : Ground → Checked
  look g = record { fit = ok g; numeric = is_numeric g; enclosure = enclosure (points a) g }

  -- of each test of trees that looks at least at the sorts
  on_point : ((d : Ground-F Ground) → ok (roll-Ground d) ≡ true → sorted_step (points a) (map-Ground Ground Checked look d) ≡ true) → (g : Ground) → IsSame ok a g
  on_point sorts = induct (IsSame ok a) (λ y h.
      let E : Type 0 = (g : Ground) × IsSame ok a g in
      let d = map-Ground E Ground (λ e. e.0) y in
      let t = map-Ground E Child child y in
      let sorted : sorted_step (points a) (map-Ground Child Checked check t) ≡ true = ap (sorted_step (points a)) (twice child check y ∙ sym (twice (λ (e : E). e.0) look y)) ∙ sorts d h in
      fold_at Enclosure (enclosure_step (points a)) (λ (e : E). e.0) y
      ∙ ap (enclosure_step (points a)) (sym (twice child reaches y))
      ∙ exact_step a t (and_true (sorted_step (points a) (map-Ground Child Checked check t)) true sorted refl)
      ∙ ap2 exact (layer_map child y ∙ sym (is_numeric_roll (λ (e : E). e.0) y))
      (ap (value_step a) (twice child means y) ∙ sym (fold_at Meaning (value_step a) (λ (e : E). e.0) y)))

-- on the box of one assignment, where the tree is well formed
pub reach_on_point : PointsMeanThemselves
reach_on_point a = on_point (is_well_formed (points a)) a (λ d h.
    and_left (sorted_step (points a) (map-Ground Ground Checked (checked (points a)) d)) (narrow_step (points a) (map-Ground Checked Enclosure enclosure_of (map-Ground Ground Checked (checked (points a)) d))) (sym (fit_roll (points a) d) ∙ h))

-- on the box of one assignment, where the tree is well sorted
pub sorted_on_point : PointsMeanThemselvesOfSorted
sorted_on_point a = on_point (is_sorted (points a)) a (λ d h. sym (sorted_roll (points a) d) ∙ h)
