-- Primitives that may be asked mean well sorted trees, and may be asked on smaller intervals.
use Rattle.std.proofs.Common.{◌≡◌, ℕ, List, [], ◌∷◌, ◌++◌, Bool, true, false, not, ◌&&◌, map, length, if◌then◌else◌, refl, sym, ap, ◌∙◌, subst}
use Rattle.std.specs.Prelude.{ℤ, pos, int_le, nat_lt, nat_le, ◌≤ℤ◌}
use Rattle.std.specs.List.{list_all}
use Rattle.std.proofs.lemmas.Int.{ints}
use Rattle.std.proofs.Common.{arith}
use Rattle.ms_num.specs.Span.{Span, Inside, is_within}
use Rattle.ms_trees.specs.Enclosure.{span_at}
use Rattle.ms_trees.specs.WellFormed.{Checked, is_well_formed, is_sorted, sorted_step, sort_checked, is_numeric, numeric_layer, is_number, is_truth, are_numbers, are_truths, has_variable, checked, enclosure_of, narrow_step}
use Rattle.ms_trees.specs.declared.tree.Enclosure.{Enclosure}
use Rattle.ms_trees.specs.Laws.{HasVariable, IsSmaller, SmallerBoxesStayWellFormed}
use Rattle.ms_trees.specs.declared.tree.Ground.{Ground, map-Ground, out-Ground, roll-Ground, roll-out-Ground, fold_out-Ground}
use Rattle.ms_trees.specs.declared.tree.Ground.TheVariants as g
use Rattle.ms_trees.specs.declared.tree.Ground.TheOpen as F
use Rattle.ms_trees.proofs.Bools.{and_left, and_right, and_true, and_less, not_true, le_of, of_le}
use Rattle.ms_trees.proofs.Layers.{induct, twice, sorted_roll, fit_roll, layer_map}
use Rattle.ms_trees.proofs.Fits.{variable}
use Rattle.ms_prim.specs.declared.pieces.Part.{Part}
use Rattle.ms_prim.specs.declared.pieces.Part.TheVariants.{V, N}
use Rattle.ms_prim.specs.declared.pieces.Lit.{Lit}
use Rattle.ms_prim.specs.declared.pieces.Term.{Term}
use Rattle.ms_prim.specs.declared.pieces.Cmp.{Cmp}
use Rattle.ms_prim.specs.declared.pieces.Cmp.TheVariants.{Same, Other, AtMost, Less}
use Rattle.ms_prim.specs.declared.pieces.Tie.{Tie}
use Rattle.ms_prim.specs.declared.pieces.Tie.TheVariants.{Holds, Iff}
use Rattle.ms_prim.specs.declared.primitive.Primitive.{Primitive}
use Rattle.ms_prim.specs.declared.primitive.Primitive.TheVariants.{Sum, Product, Quotient, Remainder, Absolute, Least, Greatest, Count, Element, Element2, Total, Compare, Member, Clause, Table, Differ, Whole}
use Rattle.ms_prim.specs.Constraints.{part_tree, part_trees, term_tree, term_trees, lit_tree, related, operation, Binding, held, equal_to, equivalent_to, tie_binding, binding, bound, tree_of}
use Rattle.ms_prim.specs.Fitting.{bit_fits, part_fits, parts_fit, term_fits, most_terms, terms_fit, lit_fits, lits_fit, tie_fits, is_fit}
use Rattle.ms_prim.specs.Promises.{is_equal_to, IsSortedTree, FitPrimitivesAreSorted, SmallerIntervalsStayFit}

-- ---- a well formed tree is well sorted

-- for a rule that looks at the parts' fitness and sorts alone, better fitness keeps it: one clause a kind is spared by the walk over trees
abbrev Sorted : List Span → Ground → Type 0
Sorted b t = is_well_formed b t ≡ true → is_sorted b t ≡ true

record Pair : Type 0 where
  first : Checked
  second : Checked
  numeric : first.numeric ≡ second.numeric
  better : first.fit ≡ true → second.fit ≡ true

abbrev firsts : Pair → Checked
firsts e = e.first

abbrev seconds : Pair → Checked
seconds e = e.second

number_better : (e : Pair) → is_number e.first ≡ true → is_number e.second ≡ true
number_better e h = and_true e.second.fit e.second.numeric (e.better (and_left e.first.fit e.first.numeric h)) (sym e.numeric ∙ and_right e.first.fit e.first.numeric h)

truth_better : (e : Pair) → is_truth e.first ≡ true → is_truth e.second ≡ true
truth_better e h = and_true e.second.fit (not e.second.numeric) (e.better (and_left e.first.fit (not e.first.numeric) h)) (ap not (sym e.numeric) ∙ and_right e.first.fit (not e.first.numeric) h)

numbers_better : (es : List Pair) → are_numbers (map firsts es) ≡ true → are_numbers (map seconds es) ≡ true
numbers_better [] h = refl
numbers_better (e ∷ es) h = and_less (is_number e.first) (are_numbers (map firsts es)) (is_number e.second) (are_numbers (map seconds es)) (number_better e) (numbers_better es) h

truths_better : (es : List Pair) → are_truths (map firsts es) ≡ true → are_truths (map seconds es) ≡ true
truths_better [] h = refl
truths_better (e ∷ es) h = and_less (is_truth e.first) (are_truths (map firsts es)) (is_truth e.second) (are_truths (map seconds es)) (truth_better e) (truths_better es) h

numbers2 : (x y : Pair) → (is_number x.first && is_number y.first) ≡ true → (is_number x.second && is_number y.second) ≡ true
numbers2 x y = and_less (is_number x.first) (is_number y.first) (is_number x.second) (is_number y.second) (number_better x) (number_better y)

truths2 : (x y : Pair) → (is_truth x.first && is_truth y.first) ≡ true → (is_truth x.second && is_truth y.second) ≡ true
truths2 x y = and_less (is_truth x.first) (is_truth y.first) (is_truth x.second) (is_truth y.second) (truth_better x) (truth_better y)

list1 : (xs : List Pair) (y : Pair) → (are_numbers (map firsts xs) && is_number y.first) ≡ true → (are_numbers (map seconds xs) && is_number y.second) ≡ true
list1 xs y = and_less (are_numbers (map firsts xs)) (is_number y.first) (are_numbers (map seconds xs)) (is_number y.second) (numbers_better xs) (number_better y)

step_better : (b : List Span) (t : F.Ground-F Pair) → sorted_step b (map-Ground Pair Checked firsts t) ≡ true → sorted_step b (map-Ground Pair Checked seconds t) ≡ true
step_better b (F.Num n) h = h
step_better b F.Undef h = h
step_better b (F.Var v) h = h
step_better b (F.Add x y) h = numbers2 x y h
step_better b (F.Sub x y) h = numbers2 x y h
step_better b (F.Mul x y) h = numbers2 x y h
step_better b (F.Div x y) h = numbers2 x y h
step_better b (F.Mod x y) h = numbers2 x y h
step_better b (F.Neg x) h = number_better x h
step_better b (F.Abs x) h = number_better x h
step_better b (F.Sum xs) h = numbers_better xs h
step_better b (F.Least xs) h = numbers_better xs h
step_better b (F.Greatest xs) h = numbers_better xs h
step_better b (F.ToInt x) h = truth_better x h
step_better b (F.Elem low xs i) h = list1 xs i h
step_better b (F.Elem2 k l w xs i j) h = and_less (are_numbers (map firsts xs) && is_number i.first) (is_number j.first) (are_numbers (map seconds xs) && is_number i.second) (is_number j.second) (list1 xs i) (number_better j) h
step_better b (F.Count xs y) h = list1 xs y h
step_better b (F.IteI c x y) h = and_less (is_truth c.first && is_number x.first) (is_number y.first) (is_truth c.second && is_number x.second) (is_number y.second) (and_less (is_truth c.first) (is_number x.first) (is_truth c.second) (is_number x.second) (truth_better c) (number_better x)) (number_better y) h
step_better b F.True h = h
step_better b F.False h = h
step_better b (F.BVar v) h = h
step_better b (F.And xs) h = truths_better xs h
step_better b (F.Or xs) h = truths_better xs h
step_better b (F.Not x) h = truth_better x h
step_better b (F.Iff x y) h = truths2 x y h
step_better b (F.Imp x y) h = truths2 x y h
step_better b (F.Xor x y) h = truths2 x y h
step_better b (F.Eq x y) h = numbers2 x y h
step_better b (F.Ne x y) h = numbers2 x y h
step_better b (F.Lt x y) h = numbers2 x y h
step_better b (F.Le x y) h = numbers2 x y h
step_better b (F.IteB c x y) h = and_less (is_truth c.first && is_truth x.first) (is_truth y.first) (is_truth c.second && is_truth x.second) (is_truth y.second) (and_less (is_truth c.first) (is_truth x.first) (is_truth c.second) (is_truth x.second) (truth_better c) (truth_better x)) (truth_better y) h
step_better b (F.In x set) h = number_better x h
step_better b (F.AllDiff xs) h = numbers_better xs h
step_better b (F.Table xs rows) h = numbers_better xs h

abbrev paired : (b : List Span) → ((t : Ground) × Sorted b t) → Pair
paired b e = record { first = checked b e.0; second = sort_checked b e.0; numeric = refl; better = e.1 }

pub well_formed_sorted : (b : List Span) (t : Ground) → is_well_formed b t ≡ true → is_sorted b t ≡ true
well_formed_sorted b = induct (Sorted b) (λ y h.
    let E : Type 0 = (t : Ground) × Sorted b t in
    let d = map-Ground E Ground (λ e. e.0) y in
    let u = map-Ground E Pair (paired b) y in
    let all = sym (fit_roll b d) ∙ h in
    let here : sorted_step b (map-Ground Ground Checked (checked b) d) ≡ true = and_left (sorted_step b (map-Ground Ground Checked (checked b) d)) (narrow_step b (map-Ground Checked Enclosure enclosure_of (map-Ground Ground Checked (checked b) d))) all in
    let f : sorted_step b (map-Ground Pair Checked firsts u) ≡ true = ap (sorted_step b) (twice (paired b) firsts y ∙ sym (twice (λ (e : E). e.0) (checked b) y)) ∙ here in
    sorted_roll b d ∙ ap (sorted_step b) (twice (λ (e : E). e.0) (sort_checked b) y ∙ sym (twice (paired b) seconds y)) ∙ step_better b u f)

-- ---- the sort of a node

sorted_at : (b : List Span) (t : Ground) (d : F.Ground-F Ground) → out-Ground t ≡ d → is_sorted b t ≡ sorted_step b (map-Ground Ground Checked (sort_checked b) d)
sorted_at b t d e = ap (is_sorted b) (sym (roll-out-Ground t)) ∙ sorted_roll b (out-Ground t) ∙ ap (λ z. sorted_step b (map-Ground Ground Checked (sort_checked b) z)) e

numeric_at : (t : Ground) (d : F.Ground-F Ground) → out-Ground t ≡ d → is_numeric t ≡ numeric_layer d
numeric_at t d e = fold_out-Ground Bool numeric_layer t ∙ ap (λ z. numeric_layer (map-Ground Ground Bool is_numeric z)) e ∙ layer_map is_numeric d

abbrev IsNum : List Span → Ground → Type 0
IsNum b t = is_number (sort_checked b t) ≡ true

abbrev IsTru : List Span → Ground → Type 0
IsTru b t = is_truth (sort_checked b t) ≡ true

number_node : (b : List Span) (t : Ground) (d : F.Ground-F Ground) → out-Ground t ≡ d → sorted_step b (map-Ground Ground Checked (sort_checked b) d) ≡ true → numeric_layer d ≡ true → IsNum b t
number_node b t d e h k = and_true (is_sorted b t) (is_numeric t) (sorted_at b t d e ∙ h) (numeric_at t d e ∙ k)

truth_node : (b : List Span) (t : Ground) (d : F.Ground-F Ground) → out-Ground t ≡ d → sorted_step b (map-Ground Ground Checked (sort_checked b) d) ≡ true → numeric_layer d ≡ false → IsTru b t
truth_node b t d e h k = and_true (is_sorted b t) (not (is_numeric t)) (sorted_at b t d e ∙ h) (ap not (numeric_at t d e ∙ k))

two : (b : List Span) (x y : Ground) → IsNum b x → IsNum b y → (is_number (sort_checked b x) && is_number (sort_checked b y)) ≡ true
two b x y h k = and_true (is_number (sort_checked b x)) (is_number (sort_checked b y)) h k

-- ---- parts

part_number : (b : List Span) (p : Part) → part_fits b p ≡ true → IsNum b (part_tree p)
part_number b (V v) h = number_node b (g.Var v) (F.Var v) (g.outs-Var v) h refl
part_number b (N n) h = number_node b (g.Num n) (F.Num n) (g.outs-Num n) refl refl

part_numbers : (b : List Span) (ps : List Part) → parts_fit b ps ≡ true → are_numbers (map (sort_checked b) (part_trees ps)) ≡ true
part_numbers b [] h = refl
part_numbers b (p ∷ ps) h =
    and_true (is_number (sort_checked b (part_tree p))) (are_numbers (map (sort_checked b) (part_trees ps)))
    (part_number b p (and_left (part_fits b p) (parts_fit b ps) h)) (part_numbers b ps (and_right (part_fits b p) (parts_fit b ps) h))

number_leaf : (b : List Span) (n : ℤ) → IsNum b (g.Num n)
number_leaf b n = number_node b (g.Num n) (F.Num n) (g.outs-Num n) refl refl

variable_leaf : (b : List Span) (v : ℕ) → has_variable b v ≡ true → IsNum b (g.Var v)
variable_leaf b v h = number_node b (g.Var v) (F.Var v) (g.outs-Var v) h refl

term_number : (b : List Span) (t : Term) → term_fits b t ≡ true → IsNum b (term_tree t)
term_number b t h =
    number_node b (term_tree t) (F.Mul (g.Num t.factor) (g.Var t.var)) (g.outs-Mul (g.Num t.factor) (g.Var t.var))
    (two b (g.Num t.factor) (g.Var t.var) (number_leaf b t.factor) (variable_leaf b t.var (and_left (has_variable b t.var) (is_within t.factor) h))) refl

term_numbers : (b : List Span) (ts : List Term) (gs : List Ground) → list_all (term_fits b) ts ≡ true → are_numbers (map (sort_checked b) gs) ≡ true → are_numbers (map (sort_checked b) (term_trees ts ++ gs)) ≡ true
term_numbers b [] gs h k = k
term_numbers b (t ∷ ts) gs h k =
    and_true (is_number (sort_checked b (term_tree t))) (are_numbers (map (sort_checked b) (term_trees ts ++ gs)))
    (term_number b t (and_left (term_fits b t) (list_all (term_fits b) ts) h)) (term_numbers b ts gs (and_right (term_fits b t) (list_all (term_fits b) ts) h) k)

just_terms : (b : List Span) (ts : List Term) → list_all (term_fits b) ts ≡ true → are_numbers (map (sort_checked b) (term_trees ts)) ≡ true
just_terms b [] h = refl
just_terms b (t ∷ ts) h =
    and_true (is_number (sort_checked b (term_tree t))) (are_numbers (map (sort_checked b) (term_trees ts)))
    (term_number b t (and_left (term_fits b t) (list_all (term_fits b) ts) h)) (just_terms b ts (and_right (term_fits b t) (list_all (term_fits b) ts) h))

truth_leaf : (b : List Span) (v : ℕ) → bit_fits b v ≡ true → IsTru b (g.BVar v)
truth_leaf b v h = truth_node b (g.BVar v) (F.BVar v) (g.outs-BVar v) h refl

lit_truth : (b : List Span) (l : Lit) → lit_fits b l ≡ true → IsTru b (lit_tree l)
lit_truth b l h = by_sign l.positive
  where
    by_sign : (s : Bool) → IsTru b (if s then g.BVar l.var else g.Not (g.BVar l.var))
    by_sign true = truth_leaf b l.var h
    by_sign false = truth_node b (g.Not (g.BVar l.var)) (F.Not (g.BVar l.var)) (g.outs-Not (g.BVar l.var)) (truth_leaf b l.var h) refl

lit_truths : (b : List Span) (ls : List Lit) → lits_fit b ls ≡ true → are_truths (map (sort_checked b) (map lit_tree ls)) ≡ true
lit_truths b [] h = refl
lit_truths b (l ∷ ls) h =
    and_true (is_truth (sort_checked b (lit_tree l))) (are_truths (map (sort_checked b) (map lit_tree ls)))
    (lit_truth b l (and_left (lit_fits b l) (lits_fit b ls) h)) (lit_truths b ls (and_right (lit_fits b l) (lits_fit b ls) h))

related_truth : (b : List Span) (c : Cmp) (x y : Ground) → IsNum b x → IsNum b y → IsTru b (related c x y)
related_truth b Same x y h k = truth_node b (g.Eq x y) (F.Eq x y) (g.outs-Eq x y) (two b x y h k) refl
related_truth b Other x y h k = truth_node b (g.Ne x y) (F.Ne x y) (g.outs-Ne x y) (two b x y h k) refl
related_truth b AtMost x y h k = truth_node b (g.Le x y) (F.Le x y) (g.outs-Le x y) (two b x y h k) refl
related_truth b Less x y h k = truth_node b (g.Lt x y) (F.Lt x y) (g.outs-Lt x y) (two b x y h k) refl

-- ---- operations

-- the sort that a binding asks for
abbrev suits : Binding → Checked → Bool
suits held x = is_truth x
suits (equal_to v) x = is_number x
suits (equivalent_to v) x = is_truth x

abbrev binding_fits : List Span → Binding → Bool
binding_fits b held = true
binding_fits b (equal_to v) = has_variable b v
binding_fits b (equivalent_to v) = bit_fits b v

record IsBound (b : List Span) (k : Binding) (t : Ground) : Type 0 where
  suits_it : suits k (sort_checked b t) ≡ true
  fits_it : binding_fits b k ≡ true

tied : (b : List Span) (tie : Tie) (t : Ground) → tie_fits b tie ≡ true → IsTru b t → IsBound b (tie_binding tie) t
tied b Holds t h k = record { suits_it = k; fits_it = refl }
tied b (Iff v) t h k = record { suits_it = k; fits_it = h }

with_list : (b : List Span) (xs : List Ground) (y : Ground) → are_numbers (map (sort_checked b) xs) ≡ true → IsNum b y → (are_numbers (map (sort_checked b) xs) && is_number (sort_checked b y)) ≡ true
with_list b xs y h k = and_true (are_numbers (map (sort_checked b) xs)) (is_number (sort_checked b y)) h k

operation_bound : (b : List Span) (p : Primitive) → is_fit b p ≡ true → IsBound b (binding p) (operation p)
operation_bound b (Sum ts n v) h =
    let l = and_left (terms_fit b ts && is_within n) (has_variable b v) h in
    let ok = and_left (list_all (term_fits b) ts) (nat_le (length ts) most_terms) (and_left (terms_fit b ts) (is_within n) l) in
    let leaf : are_numbers (map (sort_checked b) (g.Num n ∷ [])) ≡ true = and_true (is_number (sort_checked b (g.Num n))) true (number_leaf b n) refl in
    record { suits_it = number_node b (operation (Sum ts n v)) (F.Sum (term_trees ts ++ g.Num n ∷ [])) (g.outs-Sum (term_trees ts ++ g.Num n ∷ [])) (term_numbers b ts (g.Num n ∷ []) ok leaf) refl; fits_it = and_right (terms_fit b ts && is_within n) (has_variable b v) h }
operation_bound b (Product x y v) h =
    let l = and_left (part_fits b x && part_fits b y) (has_variable b v) h in
    record { suits_it = number_node b (operation (Product x y v)) (F.Mul (part_tree x) (part_tree y)) (g.outs-Mul (part_tree x) (part_tree y)) (two b (part_tree x) (part_tree y) (part_number b x (and_left (part_fits b x) (part_fits b y) l)) (part_number b y (and_right (part_fits b x) (part_fits b y) l))) refl; fits_it = and_right (part_fits b x && part_fits b y) (has_variable b v) h }
operation_bound b (Quotient x y v) h =
    let l = and_left (part_fits b x && part_fits b y) (has_variable b v) h in
    record { suits_it = number_node b (operation (Quotient x y v)) (F.Div (part_tree x) (part_tree y)) (g.outs-Div (part_tree x) (part_tree y)) (two b (part_tree x) (part_tree y) (part_number b x (and_left (part_fits b x) (part_fits b y) l)) (part_number b y (and_right (part_fits b x) (part_fits b y) l))) refl; fits_it = and_right (part_fits b x && part_fits b y) (has_variable b v) h }
operation_bound b (Remainder x y v) h =
    let l = and_left (part_fits b x && part_fits b y) (has_variable b v) h in
    record { suits_it = number_node b (operation (Remainder x y v)) (F.Mod (part_tree x) (part_tree y)) (g.outs-Mod (part_tree x) (part_tree y)) (two b (part_tree x) (part_tree y) (part_number b x (and_left (part_fits b x) (part_fits b y) l)) (part_number b y (and_right (part_fits b x) (part_fits b y) l))) refl; fits_it = and_right (part_fits b x && part_fits b y) (has_variable b v) h }
operation_bound b (Absolute x v) h =
    record { suits_it = number_node b (operation (Absolute x v)) (F.Abs (part_tree x)) (g.outs-Abs (part_tree x)) (part_number b x (and_left (part_fits b x) (has_variable b v) h)) refl; fits_it = and_right (part_fits b x) (has_variable b v) h }
operation_bound b (Least ps v) h =
    record { suits_it = number_node b (operation (Least ps v)) (F.Least (part_trees ps)) (g.outs-Least (part_trees ps)) (part_numbers b ps (and_left (parts_fit b ps) (has_variable b v) h)) refl; fits_it = and_right (parts_fit b ps) (has_variable b v) h }
operation_bound b (Greatest ps v) h =
    record { suits_it = number_node b (operation (Greatest ps v)) (F.Greatest (part_trees ps)) (g.outs-Greatest (part_trees ps)) (part_numbers b ps (and_left (parts_fit b ps) (has_variable b v) h)) refl; fits_it = and_right (parts_fit b ps) (has_variable b v) h }
operation_bound b (Count ps x v) h =
    let l = and_left (parts_fit b ps && part_fits b x) (has_variable b v) h in
    record { suits_it = number_node b (operation (Count ps x v)) (F.Count (part_trees ps) (part_tree x)) (g.outs-Count (part_trees ps) (part_tree x)) (with_list b (part_trees ps) (part_tree x) (part_numbers b ps (and_left (parts_fit b ps) (part_fits b x) l)) (part_number b x (and_right (parts_fit b ps) (part_fits b x) l))) refl; fits_it = and_right (parts_fit b ps && part_fits b x) (has_variable b v) h }
operation_bound b (Element low ps i v) h =
    let l = and_left (parts_fit b ps && part_fits b i) (has_variable b v) h in
    record { suits_it = number_node b (operation (Element low ps i v)) (F.Elem low (part_trees ps) (part_tree i)) (g.outs-Elem low (part_trees ps) (part_tree i)) (with_list b (part_trees ps) (part_tree i) (part_numbers b ps (and_left (parts_fit b ps) (part_fits b i) l)) (part_number b i (and_right (parts_fit b ps) (part_fits b i) l))) refl; fits_it = and_right (parts_fit b ps && part_fits b i) (has_variable b v) h }
operation_bound b (Element2 k m w ps i j v) h =
    let l = and_left (parts_fit b ps && part_fits b i && part_fits b j) (has_variable b v) h in
    let q = and_left (parts_fit b ps && part_fits b i) (part_fits b j) l in
    let list = with_list b (part_trees ps) (part_tree i) (part_numbers b ps (and_left (parts_fit b ps) (part_fits b i) q)) (part_number b i (and_right (parts_fit b ps) (part_fits b i) q)) in
    record { suits_it = number_node b (operation (Element2 k m w ps i j v)) (F.Elem2 k m w (part_trees ps) (part_tree i) (part_tree j)) (g.outs-Elem2 k m w (part_trees ps) (part_tree i) (part_tree j)) (and_true (are_numbers (map (sort_checked b) (part_trees ps)) && is_number (sort_checked b (part_tree i))) (is_number (sort_checked b (part_tree j))) list (part_number b j (and_right (parts_fit b ps && part_fits b i) (part_fits b j) l))) refl; fits_it = and_right (parts_fit b ps && part_fits b i && part_fits b j) (has_variable b v) h }
operation_bound b (Total ts c n) h =
    let ok = and_left (list_all (term_fits b) ts) (nat_le (length ts) most_terms) (and_left (terms_fit b ts) (is_within n) h) in
    let sum : IsNum b (g.Sum (term_trees ts)) = number_node b (g.Sum (term_trees ts)) (F.Sum (term_trees ts)) (g.outs-Sum (term_trees ts)) (just_terms b ts ok) refl in
    record { suits_it = related_truth b c (g.Sum (term_trees ts)) (g.Num n) sum (number_leaf b n); fits_it = refl }
operation_bound b (Compare c x y tie) h =
    let l = and_left (part_fits b x && part_fits b y) (tie_fits b tie) h in
    tied b tie (operation (Compare c x y tie)) (and_right (part_fits b x && part_fits b y) (tie_fits b tie) h) (related_truth b c (part_tree x) (part_tree y) (part_number b x (and_left (part_fits b x) (part_fits b y) l)) (part_number b y (and_right (part_fits b x) (part_fits b y) l)))
operation_bound b (Member x set tie) h =
    tied b tie (operation (Member x set tie)) (and_right (part_fits b x) (tie_fits b tie) h) (truth_node b (operation (Member x set tie)) (F.In (part_tree x) set) (g.outs-In (part_tree x) set) (part_number b x (and_left (part_fits b x) (tie_fits b tie) h)) refl)
operation_bound b (Clause ls tie) h =
    tied b tie (operation (Clause ls tie)) (and_right (lits_fit b ls) (tie_fits b tie) h) (truth_node b (operation (Clause ls tie)) (F.Or (map lit_tree ls)) (g.outs-Or (map lit_tree ls)) (lit_truths b ls (and_left (lits_fit b ls) (tie_fits b tie) h)) refl)
operation_bound b (Table ps rows tie) h =
    tied b tie (operation (Table ps rows tie)) (and_right (parts_fit b ps) (tie_fits b tie) h) (truth_node b (operation (Table ps rows tie)) (F.Table (part_trees ps) rows) (g.outs-Table (part_trees ps) rows) (part_numbers b ps (and_left (parts_fit b ps) (tie_fits b tie) h)) refl)
operation_bound b (Differ ps tie) h =
    tied b tie (operation (Differ ps tie)) (and_right (parts_fit b ps) (tie_fits b tie) h) (truth_node b (operation (Differ ps tie)) (F.AllDiff (part_trees ps)) (g.outs-AllDiff (part_trees ps)) (part_numbers b ps (and_left (parts_fit b ps) (tie_fits b tie) h)) refl)
operation_bound b (Whole t) h = record { suits_it = and_true (is_sorted b t) (not (is_numeric t)) (well_formed_sorted b t (and_left (is_well_formed b t) (not (is_numeric t)) h)) (and_right (is_well_formed b t) (not (is_numeric t)) h); fits_it = refl }

sorted_tree : (b : List Span) (p : Primitive) (k : Binding) (t : Ground) → IsBound b k t → (is_sorted b (bound k t) ≡ true) × (is_numeric (bound k t) ≡ false) × (is_sorted b t ≡ true) × (is_numeric t ≡ is_equal_to k)
sorted_tree b p held t h =
    let s = and_left (is_sorted b t) (not (is_numeric t)) h.suits_it in
    let n = not_true (is_numeric t) (and_right (is_sorted b t) (not (is_numeric t)) h.suits_it) in
    (s, n, s, n)
sorted_tree b p (equal_to v) t h =
    let r = truth_node b (g.Eq t (g.Var v)) (F.Eq t (g.Var v)) (g.outs-Eq t (g.Var v)) (two b t (g.Var v) h.suits_it (variable_leaf b v h.fits_it)) refl in
    (and_left (is_sorted b (g.Eq t (g.Var v))) (not (is_numeric (g.Eq t (g.Var v)))) r, not_true (is_numeric (g.Eq t (g.Var v))) (and_right (is_sorted b (g.Eq t (g.Var v))) (not (is_numeric (g.Eq t (g.Var v)))) r), and_left (is_sorted b t) (is_numeric t) h.suits_it, and_right (is_sorted b t) (is_numeric t) h.suits_it)
sorted_tree b p (equivalent_to v) t h =
    let r = truth_node b (g.Iff t (g.BVar v)) (F.Iff t (g.BVar v)) (g.outs-Iff t (g.BVar v)) (and_true (is_truth (sort_checked b t)) (is_truth (sort_checked b (g.BVar v))) h.suits_it (truth_leaf b v h.fits_it)) refl in
    (and_left (is_sorted b (g.Iff t (g.BVar v))) (not (is_numeric (g.Iff t (g.BVar v)))) r, not_true (is_numeric (g.Iff t (g.BVar v))) (and_right (is_sorted b (g.Iff t (g.BVar v))) (not (is_numeric (g.Iff t (g.BVar v)))) r), and_left (is_sorted b t) (not (is_numeric t)) h.suits_it, not_true (is_numeric t) (and_right (is_sorted b t) (not (is_numeric t)) h.suits_it))

pub fit_sorted : FitPrimitivesAreSorted
fit_sorted b p h = let s = sorted_tree b p (binding p) (operation p) (operation_bound b p h) in record { whole = s.0; boolean = s.1; inner = s.2; sort = s.3 }

-- ---- smaller intervals

module _ (b b' : List Span) (same : length b ≡ length b') (sm : IsSmaller b b') where
  smaller_variable : (v : ℕ) → has_variable b' v ≡ true → has_variable b v ≡ true
  smaller_variable v h =
      let i = sm.inside v (variable b' v h) in
      and_true (nat_lt v (length b)) (int_le (span_at b v).lo (span_at b v).hi) (ap (nat_lt v) same ∙ and_left (nat_lt v (length b')) (int_le (span_at b' v).lo (span_at b' v).hi) h) (of_le (span_at b v).lo (span_at b v).hi i.proper)

  smaller_bit : (v : ℕ) → bit_fits b' v ≡ true → bit_fits b v ≡ true
  smaller_bit v h =
      let l = and_left (has_variable b' v && int_le (pos 0) (span_at b' v).lo) (int_le (span_at b' v).hi (pos 1)) h in
      let there = and_left (has_variable b' v) (int_le (pos 0) (span_at b' v).lo) l in
      let i = sm.inside v (variable b' v there) in
      let low = le_of (pos 0) (span_at b' v).lo (and_right (has_variable b' v) (int_le (pos 0) (span_at b' v).lo) l) in
      let high = le_of (span_at b' v).hi (pos 1) (and_right (has_variable b' v && int_le (pos 0) (span_at b' v).lo) (int_le (span_at b' v).hi (pos 1)) h) in
      and_true (has_variable b v && int_le (pos 0) (span_at b v).lo) (int_le (span_at b v).hi (pos 1))
      (and_true (has_variable b v) (int_le (pos 0) (span_at b v).lo) (smaller_variable v there) (of_le (pos 0) (span_at b v).lo (from (pos 0) (span_at b' v).lo (span_at b v).lo low i.lo)))
      (of_le (span_at b v).hi (pos 1) (from (span_at b v).hi (span_at b' v).hi (pos 1) i.hi high))
    where
      from : (x y z : ℤ) → x ≤ℤ y → y ≤ℤ z → x ≤ℤ z
      from x y z h k = omega (arith, ints, h, k)

  smaller_part : (p : Part) → part_fits b' p ≡ true → part_fits b p ≡ true
  smaller_part (V v) h = smaller_variable v h
  smaller_part (N n) h = h

  all_smaller : {X : Type 0} (f f' : X → Bool) → ((x : X) → f' x ≡ true → f x ≡ true) → (xs : List X) → list_all f' xs ≡ true → list_all f xs ≡ true
  all_smaller f f' k [] h = refl
  all_smaller f f' k (x ∷ xs) h = and_less (f' x) (list_all f' xs) (f x) (list_all f xs) (k x) (all_smaller f f' k xs) h

  smaller_parts : (ps : List Part) → parts_fit b' ps ≡ true → parts_fit b ps ≡ true
  smaller_parts = all_smaller (part_fits b) (part_fits b') smaller_part

  smaller_term : (t : Term) → term_fits b' t ≡ true → term_fits b t ≡ true
  smaller_term t = and_less (has_variable b' t.var) (is_within t.factor) (has_variable b t.var) (is_within t.factor) (smaller_variable t.var) (λ e. e)

  smaller_terms : (ts : List Term) → terms_fit b' ts ≡ true → terms_fit b ts ≡ true
  smaller_terms ts = and_less (list_all (term_fits b') ts) (nat_le (length ts) most_terms) (list_all (term_fits b) ts) (nat_le (length ts) most_terms) (all_smaller (term_fits b) (term_fits b') smaller_term ts) (λ e. e)

  smaller_lits : (ls : List Lit) → lits_fit b' ls ≡ true → lits_fit b ls ≡ true
  smaller_lits = all_smaller (lit_fits b) (lit_fits b') (λ l. smaller_bit l.var)

  smaller_tie : (t : Tie) → tie_fits b' t ≡ true → tie_fits b t ≡ true
  smaller_tie Holds h = refl
  smaller_tie (Iff v) h = smaller_bit v h

  two_parts : (x y : Part) (q q' : Bool) → (q' ≡ true → q ≡ true) → (part_fits b' x && part_fits b' y && q') ≡ true → (part_fits b x && part_fits b y && q) ≡ true
  two_parts x y q q' f = and_less (part_fits b' x && part_fits b' y) q' (part_fits b x && part_fits b y) q (and_less (part_fits b' x) (part_fits b' y) (part_fits b x) (part_fits b y) (smaller_part x) (smaller_part y)) f

  list_part : (ps : List Part) (x : Part) (q q' : Bool) → (q' ≡ true → q ≡ true) → (parts_fit b' ps && part_fits b' x && q') ≡ true → (parts_fit b ps && part_fits b x && q) ≡ true
  list_part ps x q q' f = and_less (parts_fit b' ps && part_fits b' x) q' (parts_fit b ps && part_fits b x) q (and_less (parts_fit b' ps) (part_fits b' x) (parts_fit b ps) (part_fits b x) (smaller_parts ps) (smaller_part x)) f

  smaller_fits : SmallerBoxesStayWellFormed → (p : Primitive) → is_fit b' p ≡ true → is_fit b p ≡ true
  smaller_fits law (Sum ts n v) = and_less (terms_fit b' ts && is_within n) (has_variable b' v) (terms_fit b ts && is_within n) (has_variable b v) (and_less (terms_fit b' ts) (is_within n) (terms_fit b ts) (is_within n) (smaller_terms ts) (λ e. e)) (smaller_variable v)
  smaller_fits law (Product x y v) = two_parts x y (has_variable b v) (has_variable b' v) (smaller_variable v)
  smaller_fits law (Quotient x y v) = two_parts x y (has_variable b v) (has_variable b' v) (smaller_variable v)
  smaller_fits law (Remainder x y v) = two_parts x y (has_variable b v) (has_variable b' v) (smaller_variable v)
  smaller_fits law (Absolute x v) = and_less (part_fits b' x) (has_variable b' v) (part_fits b x) (has_variable b v) (smaller_part x) (smaller_variable v)
  smaller_fits law (Least ps v) = and_less (parts_fit b' ps) (has_variable b' v) (parts_fit b ps) (has_variable b v) (smaller_parts ps) (smaller_variable v)
  smaller_fits law (Greatest ps v) = and_less (parts_fit b' ps) (has_variable b' v) (parts_fit b ps) (has_variable b v) (smaller_parts ps) (smaller_variable v)
  smaller_fits law (Count ps x v) = list_part ps x (has_variable b v) (has_variable b' v) (smaller_variable v)
  smaller_fits law (Element low ps i v) = list_part ps i (has_variable b v) (has_variable b' v) (smaller_variable v)
  smaller_fits law (Element2 k m w ps i j v) =
      and_less (parts_fit b' ps && part_fits b' i && part_fits b' j) (has_variable b' v) (parts_fit b ps && part_fits b i && part_fits b j) (has_variable b v)
      (list_part ps i (part_fits b j) (part_fits b' j) (smaller_part j)) (smaller_variable v)
  smaller_fits law (Total ts c n) = and_less (terms_fit b' ts) (is_within n) (terms_fit b ts) (is_within n) (smaller_terms ts) (λ e. e)
  smaller_fits law (Compare c x y tie) = two_parts x y (tie_fits b tie) (tie_fits b' tie) (smaller_tie tie)
  smaller_fits law (Member x set tie) = and_less (part_fits b' x) (tie_fits b' tie) (part_fits b x) (tie_fits b tie) (smaller_part x) (smaller_tie tie)
  smaller_fits law (Clause ls tie) = and_less (lits_fit b' ls) (tie_fits b' tie) (lits_fit b ls) (tie_fits b tie) (smaller_lits ls) (smaller_tie tie)
  smaller_fits law (Table ps rows tie) = and_less (parts_fit b' ps) (tie_fits b' tie) (parts_fit b ps) (tie_fits b tie) (smaller_parts ps) (smaller_tie tie)
  smaller_fits law (Differ ps tie) = and_less (parts_fit b' ps) (tie_fits b' tie) (parts_fit b ps) (tie_fits b tie) (smaller_parts ps) (smaller_tie tie)
  smaller_fits law (Whole t) = and_less (is_well_formed b' t) (not (is_numeric t)) (is_well_formed b t) (not (is_numeric t)) (law b b' same sm t) (λ e. e)

pub smaller_fit : SmallerBoxesStayWellFormed → SmallerIntervalsStayFit
smaller_fit law b b' same sm p = smaller_fits b b' same sm law p
