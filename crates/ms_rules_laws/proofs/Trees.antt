-- A tree may be asked where its parts may, and it is narrow.
use Rattle.std.proofs.Common.{◌≡◌, ◌∙◌, ℕ, List, Bool, true, false, ◌&&◌, Option, Some, map, refl, ap}
use Rattle.std.specs.Prelude.{ℤ, pos}
use Rattle.std.specs.Prelude.{◌≤ℤ◌, int_le, nat_lt}
use Rattle.std.proofs.lemmas.Bool.Decides.{nat_tests}
use Rattle.std.proofs.Common.{◌<◌, length, arith}
use Rattle.ms_trees.specs.WellFormed.{has_variable}
use Rattle.ms_num.specs.Span.{IsInterval, Span, IsWithin, point, is_narrow}
use Rattle.ms_trees.specs.Enclosure as r
use Rattle.ms_trees.specs.Enclosure.{enclosure, enclosure_step}
use Rattle.ms_trees.specs.WellFormed.{Checked, checked, well_formed_rule, is_well_formed, is_number, is_truth, are_numbers, are_truths, sorted_step, narrow_step, enclosure_of, fits, sums_fit}
use Rattle.ms_trees.specs.declared.tree.Enclosure.{Enclosure}
use Rattle.ms_trees.specs.declared.tree.Ground.{Ground, map-Ground, out-Ground}
use Rattle.ms_trees.specs.declared.tree.Ground.TheVariants as g
use Rattle.ms_trees.specs.declared.tree.Ground.TheOpen as F
use Rattle.ms_trees.proofs.Bools.{and_true, of_le}
use Rattle.ms_trees.proofs.Layers.{fit_out, twice}

module _ (b : List Span) where
  -- a node of which the layer is given
  whole : (t : Ground) (d : F.Ground-F Ground) → out-Ground t ≡ d → sorted_step b (map-Ground Ground Checked (checked b) d) ≡ true
      → narrow_step b (map-Ground Ground Enclosure (enclosure b) d) ≡ true → is_well_formed b t ≡ true
  whole t d e s n =
      fit_out b t ∙ ap (λ z. well_formed_rule b (map-Ground Ground Checked (checked b) z)) e
      ∙ and_true (sorted_step b (map-Ground Ground Checked (checked b) d)) (narrow_step b (map-Ground Checked Enclosure enclosure_of (map-Ground Ground Checked (checked b) d))) s
      (ap (narrow_step b) (twice (checked b) enclosure_of d) ∙ n)

  -- ---- what is asked of parts

  abbrev pub IsNumber : Ground → Type 0
  IsNumber x = is_number (checked b x) ≡ true

  abbrev pub IsTruth : Ground → Type 0
  IsTruth x = is_truth (checked b x) ≡ true

  abbrev pub AreNumbers : List Ground → Type 0
  AreNumbers xs = are_numbers (map (checked b) xs) ≡ true

  abbrev pub AreTruths : List Ground → Type 0
  AreTruths xs = are_truths (map (checked b) xs) ≡ true

  abbrev Fits : Option Span → Type 0
  Fits o = fits o ≡ true

  abbrev pub Asked : Ground → Type 0
  Asked t = is_well_formed b t ≡ true

  both_numbers : (x y : Ground) → IsNumber x → IsNumber y → (is_number (checked b x) && is_number (checked b y)) ≡ true
  both_numbers x y h k = and_true (is_number (checked b x)) (is_number (checked b y)) h k

  both_truths : (x y : Ground) → IsTruth x → IsTruth y → (is_truth (checked b x) && is_truth (checked b y)) ≡ true
  both_truths x y h k = and_true (is_truth (checked b x)) (is_truth (checked b y)) h k

  -- ---- leaves

  pub number : (z : ℤ) → is_narrow (point z) ≡ true → Asked (g.Num z)
  number z h = whole (g.Num z) (F.Num z) (g.outs-Num z) refl h

  pub undefined : Asked g.Undef
  undefined = whole g.Undef F.Undef g.outs-Undef refl refl

  pub yes : Asked g.True
  yes = whole g.True F.True g.outs-True refl refl

  pub no : Asked g.False
  no = whole g.False F.False g.outs-False refl refl

  has_one : (v : ℕ) → v < length b → IsInterval (r.span_at b v) → has_variable b v ≡ true
  has_one v h i = and_true (nat_lt v (length b)) (int_le (r.span_at b v).lo (r.span_at b v).hi) (grind (arith, nat_tests)) (of_le _ _ i.ordered)

  pub variable : (v : ℕ) → v < length b → IsInterval (r.span_at b v) → Asked (g.Var v)
  variable v h i = whole (g.Var v) (F.Var v) (g.outs-Var v) (has_one v h i) (and_true _ _ (of_le _ _ i.low) (of_le _ _ i.high))

  pub bit_variable : (v : ℕ) → v < length b → IsInterval (r.span_at b v) → pos 0 ≤ℤ (r.span_at b v).lo → (r.span_at b v).hi ≤ℤ pos 1 → Asked (g.BVar v)
  bit_variable v h i low high =
      whole (g.BVar v) (F.BVar v) (g.outs-BVar v)
      (and_true (has_variable b v && int_le (pos 0) (r.span_at b v).lo) (int_le (r.span_at b v).hi (pos 1))
      (and_true (has_variable b v) (int_le (pos 0) (r.span_at b v).lo) (has_one v h i) (of_le _ _ low)) (of_le _ _ high)) refl

  -- ---- operations on numbers

  pub sum : (x y : Ground) → IsNumber x → IsNumber y → Fits (enclosure_step b (F.Add (enclosure b x) (enclosure b y))).interval → Asked (g.Add x y)
  sum x y h k f = whole (g.Add x y) (F.Add x y) (g.outs-Add x y) (both_numbers x y h k) f

  pub difference : (x y : Ground) → IsNumber x → IsNumber y → Fits (enclosure_step b (F.Sub (enclosure b x) (enclosure b y))).interval → Asked (g.Sub x y)
  difference x y h k f = whole (g.Sub x y) (F.Sub x y) (g.outs-Sub x y) (both_numbers x y h k) f

  pub product : (x y : Ground) → IsNumber x → IsNumber y → Fits (enclosure_step b (F.Mul (enclosure b x) (enclosure b y))).interval → Asked (g.Mul x y)
  product x y h k f = whole (g.Mul x y) (F.Mul x y) (g.outs-Mul x y) (both_numbers x y h k) f

  pub quotient : (x y : Ground) → IsNumber x → IsNumber y → Fits (enclosure_step b (F.Div (enclosure b x) (enclosure b y))).interval → Asked (g.Div x y)
  quotient x y h k f = whole (g.Div x y) (F.Div x y) (g.outs-Div x y) (both_numbers x y h k) f

  pub remainder : (x y : Ground) → IsNumber x → IsNumber y → Fits (enclosure_step b (F.Mod (enclosure b x) (enclosure b y))).interval → Asked (g.Mod x y)
  remainder x y h k f = whole (g.Mod x y) (F.Mod x y) (g.outs-Mod x y) (both_numbers x y h k) f

  pub negation : (x : Ground) → IsNumber x → Fits (enclosure_step b (F.Neg (enclosure b x))).interval → Asked (g.Neg x)
  negation x h f = whole (g.Neg x) (F.Neg x) (g.outs-Neg x) h f

  pub magnitude : (x : Ground) → IsNumber x → Fits (enclosure_step b (F.Abs (enclosure b x))).interval → Asked (g.Abs x)
  magnitude x h f = whole (g.Abs x) (F.Abs x) (g.outs-Abs x) h f

  pub total : (xs : List Ground) → AreNumbers xs → sums_fit (Some (point (pos 0))) (map (enclosure b) xs) ≡ true → Asked (g.Sum xs)
  total xs h f = whole (g.Sum xs) (F.Sum xs) (g.outs-Sum xs) h f

  pub least : (xs : List Ground) → AreNumbers xs → Fits (enclosure_step b (F.Least (map (enclosure b) xs))).interval → Asked (g.Least xs)
  least xs h f = whole (g.Least xs) (F.Least xs) (g.outs-Least xs) h f

  pub greatest : (xs : List Ground) → AreNumbers xs → Fits (enclosure_step b (F.Greatest (map (enclosure b) xs))).interval → Asked (g.Greatest xs)
  greatest xs h f = whole (g.Greatest xs) (F.Greatest xs) (g.outs-Greatest xs) h f

  pub count : (xs : List Ground) (y : Ground) → AreNumbers xs → IsNumber y → Fits (enclosure_step b (F.Count (map (enclosure b) xs) (enclosure b y))).interval → Asked (g.Count xs y)
  count xs y h k f = whole (g.Count xs y) (F.Count xs y) (g.outs-Count xs y) (and_true (are_numbers (map (checked b) xs)) (is_number (checked b y)) h k) f

  pub element : (low : ℤ) (xs : List Ground) (i : Ground) → AreNumbers xs → IsNumber i → Fits (enclosure_step b (F.Elem low (map (enclosure b) xs) (enclosure b i))).interval → Asked (g.Elem low xs i)
  element low xs i h k f = whole (g.Elem low xs i) (F.Elem low xs i) (g.outs-Elem low xs i) (and_true (are_numbers (map (checked b) xs)) (is_number (checked b i)) h k) f

  pub element_of_grid : (low left : ℤ) (width : ℕ) (xs : List Ground) (i j : Ground) → AreNumbers xs → IsNumber i → IsNumber j
      → Fits (enclosure_step b (F.Elem2 low left width (map (enclosure b) xs) (enclosure b i) (enclosure b j))).interval → Asked (g.Elem2 low left width xs i j)
  element_of_grid low left width xs i j h k l f =
      whole (g.Elem2 low left width xs i j) (F.Elem2 low left width xs i j) (g.outs-Elem2 low left width xs i j)
      (and_true (are_numbers (map (checked b) xs) && is_number (checked b i)) (is_number (checked b j)) (and_true (are_numbers (map (checked b) xs)) (is_number (checked b i)) h k) l) f

  pub choice : (c x y : Ground) → IsTruth c → IsNumber x → IsNumber y → Fits (enclosure_step b (F.IteI (enclosure b c) (enclosure b x) (enclosure b y))).interval → Asked (g.IteI c x y)
  choice c x y h k l f =
      whole (g.IteI c x y) (F.IteI c x y) (g.outs-IteI c x y)
      (and_true (is_truth (checked b c) && is_number (checked b x)) (is_number (checked b y)) (and_true (is_truth (checked b c)) (is_number (checked b x)) h k) l) f

  pub bit : (x : Ground) → IsTruth x → Fits (enclosure_step b (F.ToInt (enclosure b x))).interval → Asked (g.ToInt x)
  bit x h f = whole (g.ToInt x) (F.ToInt x) (g.outs-ToInt x) h f

  -- ---- truth values

  pub all : (xs : List Ground) → AreTruths xs → Asked (g.And xs)
  all xs h = whole (g.And xs) (F.And xs) (g.outs-And xs) h refl

  pub some : (xs : List Ground) → AreTruths xs → Asked (g.Or xs)
  some xs h = whole (g.Or xs) (F.Or xs) (g.outs-Or xs) h refl

  pub denial : (x : Ground) → IsTruth x → Asked (g.Not x)
  denial x h = whole (g.Not x) (F.Not x) (g.outs-Not x) h refl

  pub equivalence : (x y : Ground) → IsTruth x → IsTruth y → Asked (g.Iff x y)
  equivalence x y h k = whole (g.Iff x y) (F.Iff x y) (g.outs-Iff x y) (both_truths x y h k) refl

  pub implication : (x y : Ground) → IsTruth x → IsTruth y → Asked (g.Imp x y)
  implication x y h k = whole (g.Imp x y) (F.Imp x y) (g.outs-Imp x y) (both_truths x y h k) refl

  pub exclusive : (x y : Ground) → IsTruth x → IsTruth y → Asked (g.Xor x y)
  exclusive x y h k = whole (g.Xor x y) (F.Xor x y) (g.outs-Xor x y) (both_truths x y h k) refl

  pub choice_of_truths : (c x y : Ground) → IsTruth c → IsTruth x → IsTruth y → Asked (g.IteB c x y)
  choice_of_truths c x y h k l =
      whole (g.IteB c x y) (F.IteB c x y) (g.outs-IteB c x y)
      (and_true (is_truth (checked b c) && is_truth (checked b x)) (is_truth (checked b y)) (and_true (is_truth (checked b c)) (is_truth (checked b x)) h k) l) refl

  -- ---- comparisons

  pub equal : (x y : Ground) → IsNumber x → IsNumber y → Asked (g.Eq x y)
  equal x y h k = whole (g.Eq x y) (F.Eq x y) (g.outs-Eq x y) (both_numbers x y h k) refl

  pub unequal : (x y : Ground) → IsNumber x → IsNumber y → Asked (g.Ne x y)
  unequal x y h k = whole (g.Ne x y) (F.Ne x y) (g.outs-Ne x y) (both_numbers x y h k) refl

  pub less : (x y : Ground) → IsNumber x → IsNumber y → Asked (g.Lt x y)
  less x y h k = whole (g.Lt x y) (F.Lt x y) (g.outs-Lt x y) (both_numbers x y h k) refl

  pub at_most : (x y : Ground) → IsNumber x → IsNumber y → Asked (g.Le x y)
  at_most x y h k = whole (g.Le x y) (F.Le x y) (g.outs-Le x y) (both_numbers x y h k) refl

  pub member : (rs : List Span) (x : Ground) → IsNumber x → Asked (g.In x rs)
  member rs x h = whole (g.In x rs) (F.In x rs) (g.outs-In x rs) h refl

  pub distinct : (xs : List Ground) → AreNumbers xs → Asked (g.AllDiff xs)
  distinct xs h = whole (g.AllDiff xs) (F.AllDiff xs) (g.outs-AllDiff xs) h refl

  pub rowed : (rows : List (List ℤ)) (xs : List Ground) → AreNumbers xs → Asked (g.Table xs rows)
  rowed rows xs h = whole (g.Table xs rows) (F.Table xs rows) (g.outs-Table xs rows) h refl

-- ---- what is narrow

pub narrow_point : (z : ℤ) → IsWithin z → is_narrow (point z) ≡ true
narrow_point z h = and_true _ _ (of_le _ _ h.low) (of_le _ _ h.high)

pub narrow_bits : (y n : Bool) → fits (Some (r.bits y n)) ≡ true
narrow_bits true true = refl
narrow_bits true false = refl
narrow_bits false true = refl
narrow_bits false false = refl
