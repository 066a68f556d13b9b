-- What is given comes back.
use Rattle.std.proofs.Common.{◌≡◌, ◌∙◌, Bool, true, false, not, ◌&&◌, ◌||◌, List, [], ◌∷◌, Option, Some, None, map, refl, sym, ap}
use Rattle.std.specs.Prelude.{ℕ, ℤ, IfSome, if◌then◌else◌}
use Rattle.std.specs.List.{AllByRecursion, list_all}
use Rattle.std.proofs.lemmas.Bool.{false≢true}
use Rattle.ms_num.specs.Span.{IsWithin, Span, is_within}
use Rattle.ms_trees.specs.Value.{Meaning, numeric_meaning, boolean_meaning, value}
use Rattle.ms_trees.specs.WellFormed.{is_numeric, is_well_formed}
use Rattle.ms_trees.specs.declared.tree.Ground.{Ground}
use Rattle.ms_trees.specs.declared.tree.Ground.TheVariants as g
use Rattle.ms_trees.specs.declared.tree.Ground.TheFolds.{the_lemmas}
use Rattle.ms_trees.proofs.Bools.{and_true, of_le}
use Rattle.ms_tree_nodes.specs.Nodes.{tree_of}
use Rattle.ms_typing.specs.declared.types.ExprType.{ExprType}
use Rattle.ms_typing.specs.declared.types.ExprType.TheVariants as t
use Rattle.ms_typing.specs.declared.types.Shape.{Shape}
use Rattle.ms_typing.specs.declared.types.Shape.TheVariants as h
use Rattle.ms_values.specs.declared.operand.Placed.{Placed}
use Rattle.ms_values.specs.declared.operand.Kind.{Kind}
use Rattle.ms_values.specs.declared.operand.Kind.TheVariants as k
use Rattle.ms_values.specs.declared.operand.Cells.{Cells}
use Rattle.ms_values.specs.declared.operand.Cells.TheVariants as c
use Rattle.ms_values.specs.declared.operand.IndexRange.{IndexRange}
use Rattle.ms_values.specs.declared.operand.Indices.{Indices}
use Rattle.ms_values.specs.declared.operand.Indices.TheVariants as i
use Rattle.ms_values.specs.declared.operand.Operand.{Operand}
use Rattle.ms_values.specs.declared.operand.Operand.TheVariants as o
use Rattle.ms_values.specs.declared.value.Value.{Value}
use Rattle.ms_rules.specs.Operands.{condition_of, integer_of, kind_of, number_of, truth_of}
use Rattle.ms_rules.specs.Cells.{converted}
use Rattle.ms_rules.specs.Conversions.{as_array, as_kind, convert, kind_by, kind_of_type, shaped}
use Rattle.ms_rules_laws.specs.Fit.{AreFit, AreFitIndices, IsCondition, IsFit, IsInteger, IsWithinIfAny}
use Rattle.ms_rules_laws.proofs.Elements as e
use Rattle.ms_placing.specs.Values as s
use Rattle.ms_exchange.specs.Fit.{are_fit, is_fit_as, is_leaf, leaf_layer}
use Rattle.ms_exchange_laws.specs.Laws.{ComesBack, GivenComesBack, has_kind, is_array}

-- ---- numbers

is_in : (z : ℤ) → IsWithin z → is_within z ≡ true
is_in z h = and_true _ _ (of_le _ _ h.low) (of_le _ _ h.high)

-- ---- leaves

number_leaf : (m : Option ℤ) → IsWithinIfAny m → is_leaf (s.number_tree m) ≡ true
number_leaf (Some z) h = ap leaf_layer (g.outs-Num z) ∙ is_in z h
number_leaf None h = ap leaf_layer g.outs-Undef

truth_leaf : (b : Bool) → is_leaf (s.truth_tree b) ≡ true
truth_leaf true = ap leaf_layer g.outs-True
truth_leaf false = ap leaf_layer g.outs-False

-- a known leaf, by its sort and its meaning
abbrev leaf : Bool → Meaning → Operand
leaf n x = if n then o.Number x.number else o.Truth x.truth

leaf_of : (x : Ground) (n : Bool) (q : Meaning) → is_numeric x ≡ n → value [] x ≡ q → s.leaf_in x ≡ leaf n q
leaf_of x n q e f = λ j. leaf (e j) (f j)

number_back : (m : Option ℤ) → number_of (s.leaf_in (s.number_tree m)) ≡ m
number_back (Some z) = ap number_of (leaf_of (g.Num z) true (numeric_meaning (Some z)) (search the_lemmas) (search the_lemmas))
number_back None = ap number_of (leaf_of g.Undef true (numeric_meaning None) (search the_lemmas) (search the_lemmas))

truth_back : (b : Bool) → truth_of (s.leaf_in (s.truth_tree b)) ≡ b
truth_back true = ap truth_of (leaf_of g.True false (boolean_meaning true) (search the_lemmas) (search the_lemmas))
truth_back false = ap truth_of (leaf_of g.False false (boolean_meaning false) (search the_lemmas) (search the_lemmas))

-- ---- lists

back : {X : Type 0} (f : X → Ground) (r : Ground → X) → ((x : X) → r (f x) ≡ x) → (xs : List X) → map r (map f xs) ≡ xs
back f r e [] = refl
back f r e (x ∷ xs) = λ j. e x j ∷ back f r e xs j

back_where : {X : Type 0} (P : X → Type 0) (f : X → Ground) (r : Ground → X) → ((x : X) → P x → r (f x) ≡ x) → (xs : List X) → AllByRecursion P xs → map r (map f xs) ≡ xs
back_where P f r e [] h = refl
back_where P f r e (x ∷ xs) h = λ j. e x h.0 j ∷ back_where P f r e xs h.1 j

pass : {X : Type 0} (P : X → Type 0) (f : X → Ground) (p : Ground → Bool) → ((x : X) → P x → p (f x) ≡ true) → (xs : List X) → AllByRecursion P xs → list_all p (map f xs) ≡ true
pass P f p e [] h = refl
pass P f p e (x ∷ xs) h = and_true (p (f x)) (list_all p (map f xs)) (e x h.0) (pass P f p e xs h.1)

pass_all : {X : Type 0} (f : X → Ground) (p : Ground → Bool) → ((x : X) → p (f x) ≡ true) → (xs : List X) → list_all p (map f xs) ≡ true
pass_all f p e [] = refl
pass_all f p e (x ∷ xs) = and_true (p (f x)) (list_all p (map f xs)) (e x) (pass_all f p e xs)

module _ (sets : List Span) where
  -- ---- trees

  abbrev tree_as : Bool → Placed → Operand
  tree_as n x = if n then o.Integer x else o.Condition x

  integer_in : (x : Placed) → IsInteger sets x → s.tree_in sets x.tree ≡ o.Integer x
  integer_in x h = λ j. tree_as (h.numeric j) (sym h.kept j)

  condition_in : (x : Placed) → IsCondition sets x → s.tree_in sets x.tree ≡ o.Condition x
  condition_in x h = λ j. tree_as (h.boolean j) (sym h.kept j)

  -- ---- elements

  -- of each kind the elements may be handed in as it, and are the same
  numbers_fit : (ns : List (Option ℤ)) → AllByRecursion IsWithinIfAny ns → are_fit sets k.Number (map s.number_tree ns) ≡ true
  numbers_fit ns h = pass IsWithinIfAny s.number_tree is_leaf number_leaf ns h

  truths_fit : (bs : List Bool) → are_fit sets k.Truth (map s.truth_tree bs) ≡ true
  truths_fit bs = pass_all s.truth_tree is_leaf truth_leaf bs

  integers_fit : (xs : List Placed) → AllByRecursion (IsInteger sets) xs → are_fit sets k.Integer (map tree_of xs) ≡ true
  integers_fit xs h = pass (IsInteger sets) tree_of (is_well_formed sets) (λ x i. i.well_formed) xs h

  conditions_fit : (xs : List Placed) → AllByRecursion (IsCondition sets) xs → are_fit sets k.Condition (map tree_of xs) ≡ true
  conditions_fit xs h = pass (IsCondition sets) tree_of (is_well_formed sets) (λ x i. i.well_formed) xs h

  numbers_same : (ns : List (Option ℤ)) → s.trees_in sets k.Number (map s.number_tree ns) ≡ c.Numbers ns
  numbers_same ns = ap c.Numbers (back s.number_tree (λ x. number_of (s.leaf_in x)) number_back ns)

  truths_same : (bs : List Bool) → s.trees_in sets k.Truth (map s.truth_tree bs) ≡ c.Truths bs
  truths_same bs = ap c.Truths (back s.truth_tree (λ x. truth_of (s.leaf_in x)) truth_back bs)

  integers_same : (xs : List Placed) → AllByRecursion (IsInteger sets) xs → s.trees_in sets k.Integer (map tree_of xs) ≡ c.Integers xs
  integers_same xs h = ap c.Integers (back_where (IsInteger sets) tree_of (λ x. integer_of (s.tree_in sets x)) (λ x i. ap integer_of (integer_in x i)) xs h)

  conditions_same : (xs : List Placed) → AllByRecursion (IsCondition sets) xs → s.trees_in sets k.Condition (map tree_of xs) ≡ c.Conditions xs
  conditions_same xs h = ap c.Conditions (back_where (IsCondition sets) tree_of (λ x. condition_of (s.tree_in sets x)) (λ x i. ap condition_of (condition_in x i)) xs h)

  -- the value may be handed in as this kind, and is the operand
  abbrev IsBack : Kind → Operand → Value → Type 0
  IsBack kind x y = (is_fit_as sets kind y ≡ true) × (s.handed_in sets kind y ≡ x)

  abbrev line : ℤ → Cells → Operand
  line low cs = o.Array (record { indices = i.Line low; cells = cs })

  line_back : (low : ℤ) → IsWithin low → (cs : Cells) → AreFit sets cs → IsBack (kind_of cs) (line low cs) (s.line_given low cs)
  line_back low l (c.Numbers ns) f = (and_true (is_within low) _ (is_in low l) (numbers_fit ns f), ap (line low) (numbers_same ns))
  line_back low l (c.Truths bs) f = (and_true (is_within low) _ (is_in low l) (truths_fit bs), ap (line low) (truths_same bs))
  line_back low l (c.Texts ts) f = (is_in low l, refl)
  line_back low l (c.Integers xs) f = (and_true (is_within low) _ (is_in low l) (integers_fit xs f), ap (line low) (integers_same xs f))
  line_back low l (c.Conditions xs) f = (and_true (is_within low) _ (is_in low l) (conditions_fit xs f), ap (line low) (conditions_same xs f))

  abbrev grid : IndexRange → IndexRange → Cells → Operand
  grid rows columns cs = o.Array (record { indices = i.Grid rows columns; cells = cs })

  sides : (rows columns : IndexRange) → IsWithin rows.low → IsWithin columns.low → (is_within rows.low && is_within columns.low) ≡ true
  sides rows columns l r = and_true (is_within rows.low) (is_within columns.low) (is_in rows.low l) (is_in columns.low r)

  grid_back : (rows columns : IndexRange) → IsWithin rows.low → IsWithin columns.low → (cs : Cells) → AreFit sets cs
      → IsBack (kind_of cs) (grid rows columns cs) (s.grid_given (s.side_given rows) (s.side_given columns) cs)
  grid_back rows columns l r (c.Numbers ns) f = (and_true (is_within rows.low && is_within columns.low) _ (sides rows columns l r) (numbers_fit ns f), ap (grid rows columns) (numbers_same ns))
  grid_back rows columns l r (c.Truths bs) f = (and_true (is_within rows.low && is_within columns.low) _ (sides rows columns l r) (truths_fit bs), ap (grid rows columns) (truths_same bs))
  grid_back rows columns l r (c.Texts ts) f = (sides rows columns l r, refl)
  grid_back rows columns l r (c.Integers xs) f = (and_true (is_within rows.low && is_within columns.low) _ (sides rows columns l r) (integers_fit xs f), ap (grid rows columns) (integers_same xs f))
  grid_back rows columns l r (c.Conditions xs) f = (and_true (is_within rows.low && is_within columns.low) _ (sides rows columns l r) (conditions_fit xs f), ap (grid rows columns) (conditions_same xs f))

  array_back : (at : Indices) → AreFitIndices at → (cs : Cells) → AreFit sets cs → IsBack (kind_of cs) (o.Array (record { indices = at; cells = cs })) (s.array_given at cs)
  array_back (i.Line low) l cs f = line_back low l cs f
  array_back (i.Grid rows columns) l cs f = grid_back rows columns l.0 l.1 cs f

  -- ---- single values, at any kind

  number_given : (kind : Kind) (m : Option ℤ) → IsWithinIfAny m → IfSome (s.given (o.Number m)) (IsBack kind (o.Number m))
  number_given kind None f = tt
  number_given kind (Some z) f = (is_in z f, refl)

  set_given : (kind : Kind) (m : Option (List Span)) → IfSome (s.given (o.Set m)) (IsBack kind (o.Set m))
  set_given kind None = tt
  set_given kind (Some rs) = (refl, refl)

  text_given : (kind : Kind) (m : Option (List ℕ)) → IfSome (s.given (o.Text m)) (IsBack kind (o.Text m))
  text_given kind None = tt
  text_given kind (Some w) = (refl, refl)

  single_back : (kind : Kind) (x : Operand) → IsFit sets x → is_array x ≡ false → IfSome (s.given x) (IsBack kind x)
  single_back kind (o.Number m) f n = number_given kind m f
  single_back kind (o.Truth b) f n = (refl, refl)
  single_back kind (o.Set m) f n = set_given kind m
  single_back kind (o.Text m) f n = text_given kind m
  single_back kind (o.Integer x) f n = (f.well_formed, integer_in x f)
  single_back kind (o.Condition x) f n = (f.well_formed, condition_in x f)
  single_back kind (o.Array a) f n = absurd (false≢true (sym n))
  single_back kind (o.NoArray other) f n = tt

  -- ---- brought to a kind

  as_kind_single : (kind : Kind) (x : Operand) → is_array (as_kind kind x) ≡ false
  as_kind_single k.Number x = refl
  as_kind_single k.Truth x = refl
  as_kind_single k.Text x = refl
  as_kind_single k.Integer x = refl
  as_kind_single k.Condition x = refl

  as_kind_twice : (kind : Kind) (x : Operand) → as_kind kind (as_kind kind x) ≡ as_kind kind x
  as_kind_twice k.Number x = refl
  as_kind_twice k.Truth x = refl
  as_kind_twice k.Text x = refl
  as_kind_twice k.Integer x = refl
  as_kind_twice k.Condition x = refl

  converted_kind : (kind : Kind) (cs : Cells) → kind_of (converted kind cs) ≡ kind
  converted_kind k.Number cs = refl
  converted_kind k.Truth cs = refl
  converted_kind k.Text cs = refl
  converted_kind k.Integer cs = refl
  converted_kind k.Condition cs = refl

  converted_twice : (kind : Kind) (cs : Cells) → converted kind (converted kind cs) ≡ converted kind cs
  converted_twice k.Number cs = refl
  converted_twice k.Truth cs = refl
  converted_twice k.Text cs = refl
  converted_twice k.Integer cs = refl
  converted_twice k.Condition cs = refl

  as_array_twice : (kind : Kind) (x : Operand) → as_array kind (as_array kind x) ≡ as_array kind x
  as_array_twice kind (o.Number m) = refl
  as_array_twice kind (o.Truth b) = refl
  as_array_twice kind (o.Set m) = refl
  as_array_twice kind (o.Text m) = refl
  as_array_twice kind (o.Integer x) = refl
  as_array_twice kind (o.Condition x) = refl
  as_array_twice kind (o.Array a) = λ j. o.Array (record { indices = a.indices; cells = converted_twice kind a.cells j })
  as_array_twice kind (o.NoArray other) = refl

  kind_back : (kind : Kind) (x : Operand) → IsFit sets (as_kind kind x) → IfSome (s.given (as_kind kind x)) (IsBack kind (as_kind kind x))
  kind_back kind x f = single_back kind (as_kind kind x) f (as_kind_single kind x)

  array_kind : (kind other : Kind) → kind ≡ other → (x : Operand) (y : Value) → IsBack kind x y → IsBack other x y
  array_kind kind other e x y h = ((λ j. is_fit_as sets (sym e j) y) ∙ h.0, (λ j. s.handed_in sets (sym e j) y) ∙ h.1)

  array_kind_back : (kind : Kind) (x : Operand) → IsFit sets (as_array kind x) → IfSome (s.given (as_array kind x)) (IsBack kind (as_array kind x))
  array_kind_back kind (o.Number m) f = tt
  array_kind_back kind (o.Truth b) f = tt
  array_kind_back kind (o.Set m) f = tt
  array_kind_back kind (o.Text m) f = tt
  array_kind_back kind (o.Integer x) f = tt
  array_kind_back kind (o.Condition x) f = tt
  array_kind_back kind (o.Array a) f =
      array_kind (kind_of (converted kind a.cells)) kind (converted_kind kind a.cells) (o.Array (record { indices = a.indices; cells = converted kind a.cells })) (s.array_given a.indices (converted kind a.cells))
      (array_back a.indices f.0 (converted kind a.cells) f.1)
  array_kind_back kind (o.NoArray other) f = tt

  shaped_back : (shape : Shape) (kind : Kind) (x : Operand) → IsFit sets (shaped shape kind x) → IfSome (s.given (shaped shape kind x)) (IsBack kind (shaped shape kind x))
  shaped_back h.Single kind x f = kind_back kind x f
  shaped_back h.Line kind x f = array_kind_back kind x f
  shaped_back h.Grid kind x f = array_kind_back kind x f

  shaped_twice : (shape : Shape) (kind : Kind) (x : Operand) → shaped shape kind (shaped shape kind x) ≡ shaped shape kind x
  shaped_twice h.Single kind x = as_kind_twice kind x
  shaped_twice h.Line kind x = as_array_twice kind x
  shaped_twice h.Grid kind x = as_array_twice kind x

  -- ---- brought to a type

  not_array : (b : Bool) → not b ≡ true → b ≡ false
  not_array true e = sym e
  not_array false e = refl

  type_back : (type : ExprType) (x : Operand) → IsFit sets (convert type x) → (has_kind type || not (is_array x)) ≡ true → IfSome (s.given (convert type x)) (IsBack (kind_of_type type) (convert type x))
  unfolding convert
  type_back (t.Plain scalar shape known) x f n = shaped_back shape (kind_by scalar known) x f
  type_back (t.Text shape) x f n = shaped_back shape k.Text x f
  type_back t.Set x f n = single_back k.Number x f (not_array (is_array x) n)
  type_back t.Search x f n = single_back k.Number x f (not_array (is_array x) n)

  type_twice : (type : ExprType) (x : Operand) → convert type (convert type x) ≡ convert type x
  unfolding convert
  type_twice (t.Plain scalar shape known) x = shaped_twice shape (kind_by scalar known) x
  type_twice (t.Text shape) x = shaped_twice shape k.Text x
  type_twice t.Set x = refl
  type_twice t.Search x = refl

  comes_back : (type : ExprType) (x : Operand) (m : Option Value) → IfSome m (IsBack (kind_of_type type) (convert type x)) → IfSome m (ComesBack sets type (convert type x))
  comes_back type x None h = tt
  comes_back type x (Some y) h = record { fit = h.0; same = ap (convert type) h.1 ∙ type_twice type x }

pub given_comes_back : GivenComesBack
given_comes_back sets type x f n = comes_back sets type x (s.given (convert type x)) (type_back sets type x (e.convert sets type x f) n)
