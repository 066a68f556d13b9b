-- A fit tree is fit on each smaller box, and a refuted one is met nowhere in the box.
use Rattle.std.proofs.Common.{◌≡◌, ℕ, ◌<◌, List, [], ◌∷◌, Bool, true, not, ◌&&◌, Option, Some, None, map, length, zero, suc, refl, sym, ap, ◌∙◌, subst, arith}
use Rattle.std.proofs.lemmas.Bool.{false≢true}
use Rattle.std.proofs.lemmas.Bool.Decides.{nat_tests}
use Rattle.std.proofs.lemmas.Int.{ints}
use Rattle.std.proofs.Math.ListN.{length-map}
use Rattle.std.specs.Prelude.{ℤ, pos, negsuc, int_le, nat_lt, slice_index_or, ◌^◌, ◌-◌}
use Rattle.ms_num.specs.Span.{Span, Inside, point, add_span}
use Rattle.ms_trees.specs.Value.{value}
use Rattle.ms_trees.specs.Enclosure as r
use Rattle.ms_trees.specs.Enclosure.{enclosure, enclosure_step, points, span_at}
use Rattle.ms_trees.specs.Laws.{IsCoveredBy, MeansFewerNumbers, MeansLess, IsSmaller, LiesIn, SmallerBoxesStayWellFormed, RefutedMeansUnmet, exact}
use Rattle.ms_trees.specs.WellFormed.{Checked, well_formed_rule, sorted_step, narrow_step, sums_fit, fits, is_well_formed, is_numeric, numeric_layer, is_number, is_truth, are_numbers, are_truths, has_variable, checked, enclosure_of}
use Rattle.ms_trees.specs.declared.tree.Enclosure.{Enclosure}
use Rattle.ms_trees.specs.declared.tree.Ground.{Ground, roll-Ground, map-Ground}
use Rattle.ms_trees.specs.declared.tree.Ground.TheOpen.{Ground-F, Num, Undef, Var, Add, Sub, Mul, Div, Mod, Neg, Abs, Sum, Least, Greatest, ToInt, Elem, Elem2, Count, IteI, True, False, BVar, And, Or, Not, Iff, Imp, Xor, Eq, Ne, Lt, Le, IteB, In, AllDiff, Table}
use Rattle.ms_trees.proofs.Layers.{induct, twice, fit_roll, fold_at, layer_map, is_numeric_roll}
use Rattle.ms_trees.proofs.Bools.{and_left, and_right, and_true, and_less, is_false, le_of, of_le}
use Rattle.ms_trees.proofs.Exact.{reach_on_point}
use Rattle.ms_trees.proofs.Operations.{add_shrinks, both_fewer, point_inside}
use Rattle.ms_trees.proofs.Smaller.{reach_on_smaller}
use Rattle.ms_trees.proofs.Fits.{variable}

-- a part, with the claim for it
record Child : Type 0 where
  numeric : Bool
  fit_small : Bool
  fit_large : Bool
  small_reach : Enclosure
  large_reach : Enclosure
  keeps : fit_large ≡ true → fit_small ≡ true
  less : fit_large ≡ true → MeansLess numeric small_reach large_reach

abbrev small : Child → Checked
small c = record { fit = c.fit_small; numeric = c.numeric; enclosure = c.small_reach }

abbrev large : Child → Checked
large c = record { fit = c.fit_large; numeric = c.numeric; enclosure = c.large_reach }

abbrev smalls : Child → Enclosure
smalls c = c.small_reach

abbrev larges : Child → Enclosure
larges c = c.large_reach

number_keeps : (c : Child) → is_number (large c) ≡ true → is_number (small c) ≡ true
number_keeps c h = and_less c.fit_large c.numeric c.fit_small c.numeric c.keeps (λ e. e) h

truth_keeps : (c : Child) → is_truth (large c) ≡ true → is_truth (small c) ≡ true
truth_keeps c h = and_less c.fit_large (not c.numeric) c.fit_small (not c.numeric) c.keeps (λ e. e) h

numbers_keeps : (cs : List Child) → are_numbers (map large cs) ≡ true → are_numbers (map small cs) ≡ true
numbers_keeps [] h = refl
numbers_keeps (c ∷ cs) h = and_less (is_number (large c)) (are_numbers (map large cs)) (is_number (small c)) (are_numbers (map small cs)) (number_keeps c) (numbers_keeps cs) h

truths_keeps : (cs : List Child) → are_truths (map large cs) ≡ true → are_truths (map small cs) ≡ true
truths_keeps [] h = refl
truths_keeps (c ∷ cs) h = and_less (is_truth (large c)) (are_truths (map large cs)) (is_truth (small c)) (are_truths (map small cs)) (truth_keeps c) (truths_keeps cs) h

below_test : (a b : ℕ) → a < b → nat_lt a b ≡ true
below_test a b h = grind (arith, nat_tests)

variable_keeps : (b b' : List Span) → length b ≡ length b' → IsSmaller b b' → (v : ℕ) → has_variable b' v ≡ true → has_variable b v ≡ true
variable_keeps b b' len sm v h =
    let k = variable b' v h in
    let i = sm.inside v k in
    and_true (nat_lt v (length b)) (int_le (span_at b v).lo (span_at b v).hi) (below_test v (length b) (subst (λ n. v < n) (sym len) k.within)) (of_le (span_at b v).lo (span_at b v).hi i.proper)

bit_keeps : (b b' : List Span) → length b ≡ length b' → IsSmaller b b' → (v : ℕ) → (has_variable b' v && int_le (pos 0) (span_at b' v).lo && int_le (span_at b' v).hi (pos 1)) ≡ true → (has_variable b v && int_le (pos 0) (span_at b v).lo && int_le (span_at b v).hi (pos 1)) ≡ true
bit_keeps b b' len sm v h =
    let two = and_left (has_variable b' v && int_le (pos 0) (span_at b' v).lo) (int_le (span_at b' v).hi (pos 1)) h in
    let hi = le_of (span_at b' v).hi (pos 1) (and_right (has_variable b' v && int_le (pos 0) (span_at b' v).lo) (int_le (span_at b' v).hi (pos 1)) h) in
    let lo = le_of (pos 0) (span_at b' v).lo (and_right (has_variable b' v) (int_le (pos 0) (span_at b' v).lo) two) in
    let var = and_left (has_variable b' v) (int_le (pos 0) (span_at b' v).lo) two in
    let i = sm.inside v (variable b' v var) in
    and_true (has_variable b v && int_le (pos 0) (span_at b v).lo) (int_le (span_at b v).hi (pos 1))
    (and_true (has_variable b v) (int_le (pos 0) (span_at b v).lo) (variable_keeps b b' len sm v var) (of_le (pos 0) (span_at b v).lo (omega (arith, ints, lo, i.lo)))) (of_le (span_at b v).hi (pos 1) (omega (arith, ints, hi, i.hi)))

sorted_keeps : (b b' : List Span) → length b ≡ length b' → IsSmaller b b' → (t : Ground-F Child) → sorted_step b' (map-Ground Child Checked large t) ≡ true → sorted_step b (map-Ground Child Checked small t) ≡ true
sorted_keeps b b' len sm (Num n) h = refl
sorted_keeps b b' len sm Undef h = refl
sorted_keeps b b' len sm (Var v) h = variable_keeps b b' len sm v h
sorted_keeps b b' len sm (Add x y) h = (and_less (is_number (large x)) (is_number (large y)) (is_number (small x)) (is_number (small y)) (number_keeps x) (number_keeps y)) h
sorted_keeps b b' len sm (Sub x y) h = (and_less (is_number (large x)) (is_number (large y)) (is_number (small x)) (is_number (small y)) (number_keeps x) (number_keeps y)) h
sorted_keeps b b' len sm (Mul x y) h = (and_less (is_number (large x)) (is_number (large y)) (is_number (small x)) (is_number (small y)) (number_keeps x) (number_keeps y)) h
sorted_keeps b b' len sm (Div x y) h = (and_less (is_number (large x)) (is_number (large y)) (is_number (small x)) (is_number (small y)) (number_keeps x) (number_keeps y)) h
sorted_keeps b b' len sm (Mod x y) h = (and_less (is_number (large x)) (is_number (large y)) (is_number (small x)) (is_number (small y)) (number_keeps x) (number_keeps y)) h
sorted_keeps b b' len sm (Neg x) h = (number_keeps x) h
sorted_keeps b b' len sm (Abs x) h = (number_keeps x) h
sorted_keeps b b' len sm (Sum xs) h = (numbers_keeps xs) h
sorted_keeps b b' len sm (Least xs) h = (numbers_keeps xs) h
sorted_keeps b b' len sm (Greatest xs) h = (numbers_keeps xs) h
sorted_keeps b b' len sm (ToInt x) h = (truth_keeps x) h
sorted_keeps b b' len sm (Elem low xs i) h = (and_less (are_numbers (map large xs)) (is_number (large i)) (are_numbers (map small xs)) (is_number (small i)) (numbers_keeps xs) (number_keeps i)) h
sorted_keeps b b' len sm (Elem2 k l w xs i j) h = (and_less (are_numbers (map large xs) && is_number (large i)) (is_number (large j)) (are_numbers (map small xs) && is_number (small i)) (is_number (small j)) (and_less (are_numbers (map large xs)) (is_number (large i)) (are_numbers (map small xs)) (is_number (small i)) (numbers_keeps xs) (number_keeps i)) (number_keeps j)) h
sorted_keeps b b' len sm (Count xs y) h = (and_less (are_numbers (map large xs)) (is_number (large y)) (are_numbers (map small xs)) (is_number (small y)) (numbers_keeps xs) (number_keeps y)) h
sorted_keeps b b' len sm (IteI c x y) h = (and_less (is_truth (large c) && is_number (large x)) (is_number (large y)) (is_truth (small c) && is_number (small x)) (is_number (small y)) (and_less (is_truth (large c)) (is_number (large x)) (is_truth (small c)) (is_number (small x)) (truth_keeps c) (number_keeps x)) (number_keeps y)) h
sorted_keeps b b' len sm True h = refl
sorted_keeps b b' len sm False h = refl
sorted_keeps b b' len sm (BVar v) h = bit_keeps b b' len sm v h
sorted_keeps b b' len sm (And xs) h = (truths_keeps xs) h
sorted_keeps b b' len sm (Or xs) h = (truths_keeps xs) h
sorted_keeps b b' len sm (Not x) h = (truth_keeps x) h
sorted_keeps b b' len sm (Iff x y) h = (and_less (is_truth (large x)) (is_truth (large y)) (is_truth (small x)) (is_truth (small y)) (truth_keeps x) (truth_keeps y)) h
sorted_keeps b b' len sm (Imp x y) h = (and_less (is_truth (large x)) (is_truth (large y)) (is_truth (small x)) (is_truth (small y)) (truth_keeps x) (truth_keeps y)) h
sorted_keeps b b' len sm (Xor x y) h = (and_less (is_truth (large x)) (is_truth (large y)) (is_truth (small x)) (is_truth (small y)) (truth_keeps x) (truth_keeps y)) h
sorted_keeps b b' len sm (Eq x y) h = (and_less (is_number (large x)) (is_number (large y)) (is_number (small x)) (is_number (small y)) (number_keeps x) (number_keeps y)) h
sorted_keeps b b' len sm (Ne x y) h = (and_less (is_number (large x)) (is_number (large y)) (is_number (small x)) (is_number (small y)) (number_keeps x) (number_keeps y)) h
sorted_keeps b b' len sm (Lt x y) h = (and_less (is_number (large x)) (is_number (large y)) (is_number (small x)) (is_number (small y)) (number_keeps x) (number_keeps y)) h
sorted_keeps b b' len sm (Le x y) h = (and_less (is_number (large x)) (is_number (large y)) (is_number (small x)) (is_number (small y)) (number_keeps x) (number_keeps y)) h
sorted_keeps b b' len sm (IteB c x y) h = (and_less (is_truth (large c) && is_truth (large x)) (is_truth (large y)) (is_truth (small c) && is_truth (small x)) (is_truth (small y)) (and_less (is_truth (large c)) (is_truth (large x)) (is_truth (small c)) (is_truth (small x)) (truth_keeps c) (truth_keeps x)) (truth_keeps y)) h
sorted_keeps b b' len sm (In x rs) h = (number_keeps x) h
sorted_keeps b b' len sm (AllDiff xs) h = (numbers_keeps xs) h
sorted_keeps b b' len sm (Table xs rows) h = (numbers_keeps xs) h

fits_fewer : (o p : Option Span) → IsCoveredBy o p → fits p ≡ true → fits o ≡ true
fits_fewer None p f h = refl
fits_fewer (Some s) None f h = absurd f
fits_fewer (Some s) (Some t) f h =
    let a = le_of (negsuc (2 ^ 50 - 1)) t.lo (and_left (int_le (negsuc (2 ^ 50 - 1)) t.lo) (int_le t.hi (pos (2 ^ 50))) h) in
    let b = le_of t.hi (pos (2 ^ 50)) (and_right (int_le (negsuc (2 ^ 50 - 1)) t.lo) (int_le t.hi (pos (2 ^ 50))) h) in
    and_true (int_le (negsuc (2 ^ 50 - 1)) s.lo) (int_le s.hi (pos (2 ^ 50))) (of_le (negsuc (2 ^ 50 - 1)) s.lo (omega (arith, ints, a, f.lo))) (of_le s.hi (pos (2 ^ 50)) (omega (arith, ints, b, f.hi)))

number_child : (c : Child) → is_number (large c) ≡ true → MeansFewerNumbers c.small_reach c.large_reach
number_child c h = subst (λ k. MeansLess k c.small_reach c.large_reach) (and_right c.fit_large c.numeric h) (c.less (and_left c.fit_large c.numeric h))

sums_keep : (o p : Option Span) → IsCoveredBy o p → (cs : List Child) → are_numbers (map large cs) ≡ true → sums_fit p (map larges cs) ≡ true → sums_fit o (map smalls cs) ≡ true
sums_keep o p f [] n h = refl
sums_keep o p f (c ∷ cs) n h =
    let m = number_child c (and_left (is_number (large c)) (are_numbers (map large cs)) n) in
    let g = both_fewer add_span add_shrinks o c.small_reach.interval p c.large_reach.interval f m.interval in
    and_true (fits (r.both_intervals add_span o c.small_reach.interval)) (sums_fit (r.both_intervals add_span o c.small_reach.interval) (map smalls cs))
    (fits_fewer (r.both_intervals add_span o c.small_reach.interval) (r.both_intervals add_span p c.large_reach.interval) g (and_left (fits (r.both_intervals add_span p c.large_reach.interval)) (sums_fit (r.both_intervals add_span p c.large_reach.interval) (map larges cs)) h))
    (sums_keep (r.both_intervals add_span o c.small_reach.interval) (r.both_intervals add_span p c.large_reach.interval) g cs (and_right (is_number (large c)) (are_numbers (map large cs)) n) (and_right (fits (r.both_intervals add_span p c.large_reach.interval)) (sums_fit (r.both_intervals add_span p c.large_reach.interval) (map larges cs)) h))

narrow_keeps : (b b' : List Span) (t : Ground-F Child) → sorted_step b' (map-Ground Child Checked large t) ≡ true → MeansLess (numeric_layer t) (enclosure_step b (map-Ground Child Enclosure smalls t)) (enclosure_step b' (map-Ground Child Enclosure larges t)) →
    narrow_step b' (map-Ground Child Enclosure larges t) ≡ true → narrow_step b (map-Ground Child Enclosure smalls t) ≡ true
narrow_keeps b b' (Num n) s l h = fits_fewer (enclosure_step b (map-Ground Child Enclosure smalls (Num n))).interval (enclosure_step b' (map-Ground Child Enclosure larges (Num n))).interval l.interval h
narrow_keeps b b' Undef s l h = fits_fewer (enclosure_step b (map-Ground Child Enclosure smalls Undef)).interval (enclosure_step b' (map-Ground Child Enclosure larges Undef)).interval l.interval h
narrow_keeps b b' (Var v) s l h = fits_fewer (enclosure_step b (map-Ground Child Enclosure smalls (Var v))).interval (enclosure_step b' (map-Ground Child Enclosure larges (Var v))).interval l.interval h
narrow_keeps b b' (Add x y) s l h = fits_fewer (enclosure_step b (map-Ground Child Enclosure smalls (Add x y))).interval (enclosure_step b' (map-Ground Child Enclosure larges (Add x y))).interval l.interval h
narrow_keeps b b' (Sub x y) s l h = fits_fewer (enclosure_step b (map-Ground Child Enclosure smalls (Sub x y))).interval (enclosure_step b' (map-Ground Child Enclosure larges (Sub x y))).interval l.interval h
narrow_keeps b b' (Mul x y) s l h = fits_fewer (enclosure_step b (map-Ground Child Enclosure smalls (Mul x y))).interval (enclosure_step b' (map-Ground Child Enclosure larges (Mul x y))).interval l.interval h
narrow_keeps b b' (Div x y) s l h = fits_fewer (enclosure_step b (map-Ground Child Enclosure smalls (Div x y))).interval (enclosure_step b' (map-Ground Child Enclosure larges (Div x y))).interval l.interval h
narrow_keeps b b' (Mod x y) s l h = fits_fewer (enclosure_step b (map-Ground Child Enclosure smalls (Mod x y))).interval (enclosure_step b' (map-Ground Child Enclosure larges (Mod x y))).interval l.interval h
narrow_keeps b b' (Neg x) s l h = fits_fewer (enclosure_step b (map-Ground Child Enclosure smalls (Neg x))).interval (enclosure_step b' (map-Ground Child Enclosure larges (Neg x))).interval l.interval h
narrow_keeps b b' (Abs x) s l h = fits_fewer (enclosure_step b (map-Ground Child Enclosure smalls (Abs x))).interval (enclosure_step b' (map-Ground Child Enclosure larges (Abs x))).interval l.interval h
narrow_keeps b b' (Sum xs) s l h = sums_keep (Some (point (pos 0))) (Some (point (pos 0))) (point_inside (pos 0)) xs s h
narrow_keeps b b' (Least xs) s l h = fits_fewer (enclosure_step b (map-Ground Child Enclosure smalls (Least xs))).interval (enclosure_step b' (map-Ground Child Enclosure larges (Least xs))).interval l.interval h
narrow_keeps b b' (Greatest xs) s l h = fits_fewer (enclosure_step b (map-Ground Child Enclosure smalls (Greatest xs))).interval (enclosure_step b' (map-Ground Child Enclosure larges (Greatest xs))).interval l.interval h
narrow_keeps b b' (ToInt x) s l h = fits_fewer (enclosure_step b (map-Ground Child Enclosure smalls (ToInt x))).interval (enclosure_step b' (map-Ground Child Enclosure larges (ToInt x))).interval l.interval h
narrow_keeps b b' (Elem low xs i) s l h = fits_fewer (enclosure_step b (map-Ground Child Enclosure smalls (Elem low xs i))).interval (enclosure_step b' (map-Ground Child Enclosure larges (Elem low xs i))).interval l.interval h
narrow_keeps b b' (Elem2 k l w xs i j) s l' h = fits_fewer (enclosure_step b (map-Ground Child Enclosure smalls (Elem2 k l w xs i j))).interval (enclosure_step b' (map-Ground Child Enclosure larges (Elem2 k l w xs i j))).interval l'.interval h
narrow_keeps b b' (Count xs y) s l h = fits_fewer (enclosure_step b (map-Ground Child Enclosure smalls (Count xs y))).interval (enclosure_step b' (map-Ground Child Enclosure larges (Count xs y))).interval l.interval h
narrow_keeps b b' (IteI c x y) s l h = fits_fewer (enclosure_step b (map-Ground Child Enclosure smalls (IteI c x y))).interval (enclosure_step b' (map-Ground Child Enclosure larges (IteI c x y))).interval l.interval h
narrow_keeps b b' True s l h = refl
narrow_keeps b b' False s l h = refl
narrow_keeps b b' (BVar v) s l h = refl
narrow_keeps b b' (And xs) s l h = refl
narrow_keeps b b' (Or xs) s l h = refl
narrow_keeps b b' (Not x) s l h = refl
narrow_keeps b b' (Iff x y) s l h = refl
narrow_keeps b b' (Imp x y) s l h = refl
narrow_keeps b b' (Xor x y) s l h = refl
narrow_keeps b b' (Eq x y) s l h = refl
narrow_keeps b b' (Ne x y) s l h = refl
narrow_keeps b b' (Lt x y) s l h = refl
narrow_keeps b b' (Le x y) s l h = refl
narrow_keeps b b' (IteB c x y) s l h = refl
narrow_keeps b b' (In x rs) s l h = refl
narrow_keeps b b' (AllDiff xs) s l h = refl
narrow_keeps b b' (Table xs rows) s l h = refl

abbrev Claim : List Span → List Span → Ground → Type 0
Claim b b' g = is_well_formed b' g ≡ true → is_well_formed b g ≡ true

abbrev child : (b b' : List Span) → IsSmaller b b' → ((g : Ground) × Claim b b' g) → Child
child b b' sm e = record { numeric = is_numeric e.0; fit_small = is_well_formed b e.0; fit_large = is_well_formed b' e.0; small_reach = enclosure b e.0; large_reach = enclosure b' e.0; keeps = e.1; less = λ h. reach_on_smaller b b' sm e.0 h }

pub smaller_fits : SmallerBoxesStayWellFormed
smaller_fits b b' len sm = induct (Claim b b') (λ y h.
    let E : Type 0 = (g : Ground) × Claim b b' g in
    let d = map-Ground E Ground (λ e. e.0) y in
    let t = map-Ground E Child (child b b' sm) y in
    let large_same : map-Ground Child Checked large t ≡ map-Ground Ground Checked (checked b') d = twice (child b b' sm) large y ∙ sym (twice (λ (e : E). e.0) (checked b') y) in
    let small_same : map-Ground Child Checked small t ≡ map-Ground Ground Checked (checked b) d = twice (child b b' sm) small y ∙ sym (twice (λ (e : E). e.0) (checked b) y) in
    let rule : well_formed_rule b' (map-Ground Child Checked large t) ≡ true = ap (well_formed_rule b') large_same ∙ sym (fit_roll b' d) ∙ h in
    let sorted = and_left (sorted_step b' (map-Ground Child Checked large t)) (narrow_step b' (map-Ground Checked Enclosure enclosure_of (map-Ground Child Checked large t))) rule in
    let narrow : narrow_step b' (map-Ground Child Enclosure larges t) ≡ true = ap (narrow_step b') (sym (twice large enclosure_of t)) ∙ and_right (sorted_step b' (map-Ground Child Checked large t)) (narrow_step b' (map-Ground Checked Enclosure enclosure_of (map-Ground Child Checked large t))) rule in
    let s : enclosure b (roll-Ground d) ≡ enclosure_step b (map-Ground Child Enclosure smalls t) = fold_at Enclosure (enclosure_step b) (λ (e : E). e.0) y ∙ ap (enclosure_step b) (sym (twice (child b b' sm) smalls y)) in
    let l : enclosure b' (roll-Ground d) ≡ enclosure_step b' (map-Ground Child Enclosure larges t) = fold_at Enclosure (enclosure_step b') (λ (e : E). e.0) y ∙ ap (enclosure_step b') (sym (twice (child b b' sm) larges y)) in
    let n : is_numeric (roll-Ground d) ≡ numeric_layer t = is_numeric_roll (λ (e : E). e.0) y ∙ sym (layer_map (child b b' sm) y) in
    let less : MeansLess (numeric_layer t) (enclosure_step b (map-Ground Child Enclosure smalls t)) (enclosure_step b' (map-Ground Child Enclosure larges t)) =
    subst (λ q. MeansLess (numeric_layer t) (enclosure_step b (map-Ground Child Enclosure smalls t)) q) l (subst (λ q. MeansLess (numeric_layer t) q (enclosure b' (roll-Ground d))) s (subst (λ q. MeansLess q (enclosure b (roll-Ground d)) (enclosure b' (roll-Ground d))) n (reach_on_smaller b b' sm (roll-Ground d) h))) in
    fit_roll b d ∙ ap (well_formed_rule b) (sym small_same)
    ∙ and_true (sorted_step b (map-Ground Child Checked small t)) (narrow_step b (map-Ground Checked Enclosure enclosure_of (map-Ground Child Checked small t))) (sorted_keeps b b' len sm t sorted)
    (ap (narrow_step b) (twice small enclosure_of t) ∙ narrow_keeps b b' t sorted less narrow))

read_point : (a : List ℤ) (v : ℕ) → span_at (points a) v ≡ point (slice_index_or a v (pos 0))
read_point [] v = refl
read_point (z ∷ zs) zero = refl
read_point (z ∷ zs) (suc v) = read_point zs v

-- the box of an assignment is smaller than a box in which it lies
point_smaller : (a : List ℤ) (b : List Span) → LiesIn a b → IsSmaller (points a) b
point_smaller a b i = record { inside = λ v k. subst (λ s. Inside s (span_at b v)) (sym (read_point a v)) (record { lo = (i.within v k.within).from; proper = (point_inside (slice_index_or a v (pos 0))).proper; hi = (i.within v k.within).to }) }

pub refuted_unmet : RefutedMeansUnmet
refuted_unmet b a i g h n no_yes =
    let sm = point_smaller a b i in
    let fit = smaller_fits (points a) b (length-map a point ∙ i.same_length) sm g h in
    let less = subst (λ k. MeansLess k (enclosure (points a) g) (enclosure b g)) n (reach_on_smaller (points a) b sm g h) in
    let same : (enclosure (points a) g).may_be_true ≡ (value a g).truth = ap (λ (q : Enclosure). q.may_be_true) (reach_on_point a g fit ∙ ap (λ k. exact k (value a g)) n) in
    is_false (value a g).truth (λ e. false≢true (sym no_yes ∙ less.may_be_true (same ∙ e)))
