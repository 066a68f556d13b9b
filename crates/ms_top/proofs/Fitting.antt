-- The constraints of a small model may be asked on each assignment within its domains.
use Rattle.std.proofs.Common.{◌≡◌, ℕ, zero, suc, ◌+◌, ◌-◌, ◌*◌, ◌^◌, ◌<◌, ◌≤◌, List, [], ◌∷◌, length, Bool, true, false, ◌&&◌, ◌||◌, Option, Some, None, map, refl, ap, ◌∙◌, subst, arith, lit<}
use Rattle.std.specs.Prelude.{ℤ, pos, negsuc, ◌+ℤ◌, ◌≤ℤ◌, int_le, nat_le, nat_lt, is_some, unwrap_or, fold, if◌then◌else◌}
use Rattle.std.specs.List.{list_all}
use Rattle.std.specs.Str.{bytes_eq}
use Rattle.std.proofs.lemmas.Int.{ints}
use Rattle.std.proofs.lemmas.Bool.Decides.{nat_tests}
use Rattle.std.proofs.lemmas.List.Quantifiers.{position-Some}
use Rattle.ms_num.specs.Span.{Span, point, is_narrow, add_span}
use Rattle.ms_trees.specs.declared.tree.Enclosure.{Enclosure}
use Rattle.ms_trees.specs.declared.tree.Ground.{Ground, map-Ground, out-Ground, fold_out-Ground}
use Rattle.ms_trees.specs.declared.tree.Ground.TheVariants as g
use Rattle.ms_trees.specs.declared.tree.Ground.TheOpen as F
use Rattle.ms_trees.specs.Enclosure.{enclosure, enclosure_step, points, span_at}
use Rattle.ms_trees.specs.Enclosure as r
use Rattle.ms_trees.specs.WellFormed.{Checked, checked, well_formed_rule, is_well_formed, is_numeric, numeric_layer, is_number, has_variable, fits}
use Rattle.ms_trees.proofs.Layers.{fit_out}
use Rattle.ms_trees.proofs.Bools.{and_left, and_right}
use Rattle.ms_top.specs.declared.plain.Number.{Number}
use Rattle.ms_top.specs.declared.plain.PlainDeclaration.{PlainDeclaration}
use Rattle.ms_top.specs.declared.plain.Term.{Term}
use Rattle.ms_top.specs.declared.plain.Term.TheVariants as term
use Rattle.ms_top.specs.declared.plain.Total.{Total}
use Rattle.ms_top.specs.declared.plain.Relation.{Relation}
use Rattle.ms_top.specs.declared.plain.Relation.TheVariants as relation
use Rattle.ms_top.specs.declared.plain.Comparison.{Comparison}
use Rattle.ms_top.specs.declared.plain.PlainModel.{PlainModel}
use Rattle.ms_top.specs.Plain.{place_of, is_small_number, is_small_term, is_small_total, is_small_comparison, is_small_declaration, is_small, differ}
use Rattle.ms_top.specs.Solution.{minus, integer_of, term_tree, total_tree, compared, comparison_tree, constraint_trees, domain_of, domains, Within}
use Rattle.ms_top.specs.Search.{FitBehind}

-- ---- small numbers

record IsBounded (n : ℕ) (z : ℤ) : Type 0 where
  low : negsuc n ≤ℤ z
  high : z ≤ℤ pos n

minus_bounded : (m n : ℕ) → m ≤ n → IsBounded n (minus m)
minus_bounded zero n h = record { low = omega (arith, ints); high = omega (arith, ints) }
minus_bounded (suc m) n h = record { low = omega (arith, ints); high = omega (arith, ints) }

signed_bounded : (b : Bool) (m n : ℕ) → m ≤ n → IsBounded n (if b then minus m else pos m)
signed_bounded true m n h = minus_bounded m n h
signed_bounded false m n h = record { low = omega (arith, ints); high = omega (arith, ints) }

at_most : (m n : ℕ) → nat_le m n ≡ true → m ≤ n
at_most m n h = grind (arith, nat_tests)

number_bounded : (n : Number) → is_small_number n ≡ true → IsBounded 1000000 (integer_of n)
number_bounded n h = signed_bounded n.negative n.magnitude 1000000 (at_most n.magnitude 1000000 h)

-- ---- trees whose one number is bounded

record Bounded (b : List Span) (n : ℕ) (t : Ground) : Type 0 where
  fit : is_well_formed b t ≡ true
  numeric : is_numeric t ≡ true
  span : Span
  enclosure : enclosure b t ≡ r.numeric_enclosure (Some span) false
  low : negsuc n ≤ℤ span.lo
  high : span.hi ≤ℤ pos n

le_to : (a b : ℤ) → a ≤ℤ b → int_le a b ≡ true
le_to a b h = grind (arith, ints)

narrow_of : (n : ℕ) (s : Span) → n < 2 ^ 50 → negsuc n ≤ℤ s.lo → s.hi ≤ℤ pos n → is_narrow s ≡ true
narrow_of n s h low high =
    let from = le_to (negsuc (2 ^ 50 - 1)) s.lo (omega (arith, ints)) in
    let to = le_to s.hi (pos (2 ^ 50)) (omega (arith, ints)) in
    ap (λ u. u && int_le s.hi (pos (2 ^ 50))) from ∙ to

module _ (b : List Span) where
  of_layer : (t : Ground) (d : F.Ground-F Ground) → out-Ground t ≡ d → well_formed_rule b (map-Ground Ground Checked (checked b) d) ≡ true → is_well_formed b t ≡ true
  of_layer t d e h = fit_out b t ∙ ap (λ z. well_formed_rule b (map-Ground Ground Checked (checked b) z)) e ∙ h

  enclosure_layer : (t : Ground) (d : F.Ground-F Ground) → out-Ground t ≡ d → enclosure b t ≡ enclosure_step b (map-Ground Ground Enclosure (enclosure b) d)
  enclosure_layer t d e = fold_out-Ground Enclosure (enclosure_step b) t ∙ ap (λ z. enclosure_step b (map-Ground Ground Enclosure (enclosure b) z)) e

  numeric_of : (t : Ground) (d : F.Ground-F Ground) → out-Ground t ≡ d → is_numeric t ≡ numeric_layer (map-Ground Ground Bool is_numeric d)
  numeric_of t d e = fold_out-Ground Bool numeric_layer t ∙ ap (λ z. numeric_layer (map-Ground Ground Bool is_numeric z)) e

  num_bounded : (z : ℤ) → IsBounded 1000000 z → Bounded b 1000000 (g.Num z)
  num_bounded z h = record {
    fit = of_layer (g.Num z) (F.Num z) (g.outs-Num z) (narrow_of 1000000 (point z) (lit< tt) h.low h.high);
    numeric = numeric_of (g.Num z) (F.Num z) (g.outs-Num z);
    span = point z;
    enclosure = enclosure_layer (g.Num z) (F.Num z) (g.outs-Num z);
    low = h.low;
    high = h.high;
  }

  bounded_number : (n : ℕ) (t : Ground) → Bounded b n t → is_number (checked b t) ≡ true
  bounded_number n t h = ap (λ u. u && is_numeric t) h.fit ∙ h.numeric

  are_numbers : (n m : ℕ) (x y : Ground) → Bounded b n x → Bounded b m y → (is_number (checked b x) && is_number (checked b y)) ≡ true
  are_numbers n m x y h k = ap (λ u. u && is_number (checked b y)) (bounded_number n x h) ∙ bounded_number m y k

  add_bounded : (n m : ℕ) (x y : Ground) → n + m + 1 < 2 ^ 50 → Bounded b n x → Bounded b m y → Bounded b (n + m + 1) (g.Add x y)
  add_bounded n m x y small h k =
      let span : Span = add_span h.span k.span in
      let reached : r.numeric_enclosure (r.both_intervals add_span (enclosure b x).interval (enclosure b y).interval) ((enclosure b x).may_be_undefined || (enclosure b y).may_be_undefined) ≡ r.numeric_enclosure (Some span) false =
      ap (λ q. r.numeric_enclosure (r.both_intervals add_span q.interval (enclosure b y).interval) (q.may_be_undefined || (enclosure b y).may_be_undefined)) h.enclosure
      ∙ ap (λ q. r.numeric_enclosure (r.both_intervals add_span (Some h.span) q.interval) q.may_be_undefined) k.enclosure in
      let low : negsuc (n + m + 1) ≤ℤ span.lo = added_low n m h.span.lo k.span.lo h.low k.low in
      let high : span.hi ≤ℤ pos (n + m + 1) = added_high n m h.span.hi k.span.hi h.high k.high in
      record {
        fit = of_layer (g.Add x y) (F.Add x y) (g.outs-Add x y)
            (ap (λ u. u && is_narrow_of (enclosure_step b (F.Add (enclosure b x) (enclosure b y)))) (are_numbers n m x y h k) ∙ ap is_narrow_of reached ∙ narrow_of (n + m + 1) span small low high);
        numeric = numeric_of (g.Add x y) (F.Add x y) (g.outs-Add x y);
        span = span;
        enclosure = enclosure_layer (g.Add x y) (F.Add x y) (g.outs-Add x y) ∙ reached;
        low = low;
        high = high;
      }
    where
      is_narrow_of : Enclosure → Bool
      is_narrow_of q = fits q.interval

      added_low : (n m : ℕ) (p q : ℤ) → negsuc n ≤ℤ p → negsuc m ≤ℤ q → negsuc (n + m + 1) ≤ℤ (p +ℤ q)
      added_low n m p q h k = omega (arith, ints)

      added_high : (n m : ℕ) (p q : ℤ) → p ≤ℤ pos n → q ≤ℤ pos m → (p +ℤ q) ≤ℤ pos (n + m + 1)
      added_high n m p q h k = omega (arith, ints)

-- ---- variables

record IsPlace (b : List Span) (v : ℕ) : Type 0 where
  number : ℤ
  within : v < length b
  here : span_at b v ≡ point number
  bounded : IsBounded 1000000 number

within_bounded : (d : PlainDeclaration) (z : ℤ) → is_small_declaration d ≡ true → (domain_of d).lowest ≤ℤ z → z ≤ℤ (domain_of d).highest → IsBounded 1000000 z
within_bounded d z small low high =
    let l = (number_bounded d.lowest (and_left (is_small_number d.lowest) (is_small_number d.highest) small)).low in
    let h = (number_bounded d.highest (and_right (is_small_number d.lowest) (is_small_number d.highest) small)).high in
    record { low = below (integer_of d.lowest) z l low; high = above z (integer_of d.highest) high h }
  where
    below : (p z : ℤ) → negsuc 1000000 ≤ℤ p → p ≤ℤ z → negsuc 1000000 ≤ℤ z
    below p z h k = omega (arith, ints)

    above : (z p : ℤ) → z ≤ℤ p → p ≤ℤ pos 1000000 → z ≤ℤ pos 1000000
    above z p h k = omega (arith, ints)

place_at : (ds : List PlainDeclaration) (a : List ℤ) (v : ℕ) → list_all is_small_declaration ds ≡ true → Within (map domain_of ds) a → v < length ds → IsPlace (points a) v
place_at [] a v small within h = absurd (omega arith)
place_at (d ∷ ds) [] v small within h = absurd within
place_at (d ∷ ds) (z ∷ a) zero small within h = record {
  number = z;
  within = omega arith;
  here = refl;
  bounded = within_bounded d z (and_left (is_small_declaration d) (list_all is_small_declaration ds) small) within.0 within.1;
}
place_at (d ∷ ds) (z ∷ a) (suc v) small within h =
    let p = place_at ds a v (and_right (is_small_declaration d) (list_all is_small_declaration ds) small) within.2 (omega arith) in
    record { number = p.number; within = let w = p.within in omega arith; here = p.here; bounded = p.bounded }

itself : (z : ℤ) → int_le z z ≡ true
itself z = le_to z z (omega (arith, ints))

below_test : (v n : ℕ) → v < n → nat_lt v n ≡ true
below_test v n h = grind (arith, nat_tests)

var_bounded : (b : List Span) (v : ℕ) → IsPlace b v → Bounded b 1000000 (g.Var v)
var_bounded b v p =
    let z = p.number in
    let proper : int_le (span_at b v).lo (span_at b v).hi ≡ true = ap (λ (s : Span). int_le s.lo s.hi) p.here ∙ itself z in
    let has : has_variable b v ≡ true = ap (λ u. u && int_le (span_at b v).lo (span_at b v).hi) (below_test v (length b) p.within) ∙ proper in
    let narrow : is_narrow (span_at b v) ≡ true = ap is_narrow p.here ∙ narrow_of 1000000 (point z) (lit< tt) p.bounded.low p.bounded.high in
    record {
      fit = of_layer b (g.Var v) (F.Var v) (g.outs-Var v) (ap (λ u. u && is_narrow (span_at b v)) has ∙ narrow);
      numeric = numeric_of b (g.Var v) (F.Var v) (g.outs-Var v);
      span = point z;
      enclosure = enclosure_layer b (g.Var v) (F.Var v) (g.outs-Var v) ∙ ap (λ s. r.numeric_enclosure (Some s) false) p.here;
      low = p.bounded.low;
      high = p.bounded.high;
    }

-- ---- terms and totals

any_declaration : PlainDeclaration
any_declaration = let zero : Number = record { negative = false; magnitude = 0 } in record { lowest = zero; highest = zero; name = [] }

-- the place of a declared name is one of the declarations
pub declared_below : (ds : List PlainDeclaration) (v : ℕ) (w : List ℕ) → place_of ds w ≡ Some v → v < length ds
declared_below ds v w e = (position-Some (λ d. bytes_eq d.name w) ds v any_declaration e).0

module _ (ds : List PlainDeclaration) (a : List ℤ) (small : list_all is_small_declaration ds ≡ true) (within : Within (map domain_of ds) a) where
  placed : (o : Option ℕ) (w : List ℕ) → place_of ds w ≡ o → is_some o ≡ true → Bounded (points a) 1000000 (g.Var (unwrap_or o 0))
  placed None w e h = absurd (cc)
  placed (Some v) w e h = var_bounded (points a) v (place_at ds a v small within (declared_below ds v w e))

  term_bounded : (x : Term) → is_small_term ds x ≡ true → Bounded (points a) 1000000 (term_tree ds x)
  term_bounded (term.Number n) h = num_bounded (points a) (integer_of n) (number_bounded n h)
  term_bounded (term.Name w) h = placed (place_of ds w) w refl h

  added_bounded : (xs : List Term) (n : ℕ) (t : Ground) → list_all (is_small_term ds) xs ≡ true → n + 1000001 * length xs < 2 ^ 50 → Bounded (points a) n t
      → Bounded (points a) (n + 1000001 * length xs) (fold (λ sum y. g.Add sum (term_tree ds y)) t xs)
  added_bounded [] n t h small h2 = subst (λ (k : ℕ). Bounded (points a) k t) (omega arith) h2
  added_bounded (x ∷ xs) n t h few bounded =
      let first : Bounded (points a) 1000000 (term_tree ds x) = term_bounded x (and_left (is_small_term ds x) (list_all (is_small_term ds) xs) h) in
      let sum : Bounded (points a) (n + 1000000 + 1) (g.Add t (term_tree ds x)) = add_bounded (points a) n 1000000 t (term_tree ds x) (omega arith) bounded first in
      let rest = added_bounded xs (n + 1000000 + 1) (g.Add t (term_tree ds x)) (and_right (is_small_term ds x) (list_all (is_small_term ds) xs) h) (omega arith) sum in
      subst (λ (k : ℕ). Bounded (points a) k (fold (λ sum y. g.Add sum (term_tree ds y)) (g.Add t (term_tree ds x)) xs)) (omega arith) rest

  total_bounded : (x : Total) → is_small_total ds x ≡ true → Bounded (points a) (1000000 + 1000001 * length x.others) (total_tree ds x)
  total_bounded x h =
      let two = and_left (nat_lt (length x.others) 100 && is_small_term ds x.first) (list_all (is_small_term ds) x.others) h in
      let few : length x.others < 100 = less (length x.others) 100 (and_left (nat_lt (length x.others) 100) (is_small_term ds x.first) two) in
      added_bounded x.others 1000000 (term_tree ds x.first) (and_right (nat_lt (length x.others) 100 && is_small_term ds x.first) (list_all (is_small_term ds) x.others) h) (omega arith)
      (term_bounded x.first (and_right (nat_lt (length x.others) 100) (is_small_term ds x.first) two))
    where
      less : (m n : ℕ) → nat_lt m n ≡ true → m < n
      less m n h = grind (arith, nat_tests)

  -- ---- comparisons

  compared_fit : (x : Relation) (n m : ℕ) (s t : Ground) → Bounded (points a) n s → Bounded (points a) m t → is_well_formed (points a) (compared x s t) ≡ true
  compared_fit relation.Equal n m s t h k = of_layer (points a) (g.Eq s t) (F.Eq s t) (g.outs-Eq s t) (ap (λ u. u && true) (are_numbers (points a) n m s t h k))
  compared_fit relation.NotEqual n m s t h k = of_layer (points a) (g.Ne s t) (F.Ne s t) (g.outs-Ne s t) (ap (λ u. u && true) (are_numbers (points a) n m s t h k))
  compared_fit relation.Less n m s t h k = of_layer (points a) (g.Lt s t) (F.Lt s t) (g.outs-Lt s t) (ap (λ u. u && true) (are_numbers (points a) n m s t h k))
  compared_fit relation.AtMost n m s t h k = of_layer (points a) (g.Le s t) (F.Le s t) (g.outs-Le s t) (ap (λ u. u && true) (are_numbers (points a) n m s t h k))
  compared_fit relation.Greater n m s t h k = of_layer (points a) (g.Lt t s) (F.Lt t s) (g.outs-Lt t s) (ap (λ u. u && true) (are_numbers (points a) m n t s k h))
  compared_fit relation.AtLeast n m s t h k = of_layer (points a) (g.Le t s) (F.Le t s) (g.outs-Le t s) (ap (λ u. u && true) (are_numbers (points a) m n t s k h))

  all_fit : (cs : List Comparison) → list_all (is_small_comparison ds) cs ≡ true → list_all (is_well_formed (points a)) (map (comparison_tree ds) cs) ≡ true
  all_fit [] h = refl
  all_fit (c ∷ cs) h =
      let one = and_left (is_small_comparison ds c) (list_all (is_small_comparison ds) cs) h in
      let left = total_bounded c.left (and_left (is_small_total ds c.left) (is_small_total ds c.right) one) in
      let right = total_bounded c.right (and_right (is_small_total ds c.left) (is_small_total ds c.right) one) in
      ap (λ u. u && list_all (is_well_formed (points a)) (map (comparison_tree ds) cs)) (compared_fit c.relation _ _ (total_tree ds c.left) (total_tree ds c.right) left right)
      ∙ all_fit cs (and_right (is_small_comparison ds c) (list_all (is_small_comparison ds) cs) h)

-- the trees of a small model may be asked on every assignment
pub small_fits : (m : PlainModel) → is_small m ≡ true → FitBehind [] (domains m) (constraint_trees m)
small_fits m h a within =
    let ds = m.declarations in
    let few = nat_le (length ds) 8 in
    let all = list_all is_small_declaration ds in
    let cs = list_all (is_small_comparison ds) m.constraints in
    let three = and_left (few && all && differ ds) cs h in
    all_fit ds a (and_right few all (and_left (few && all) (differ ds) three)) within m.constraints (and_right (few && all && differ ds) cs h)
