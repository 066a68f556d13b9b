-- A node of which it is known whether its parts are well formed.
use Rattle.std.proofs.Common.{◌≡◌, List, [], ◌∷◌, Bool, true, false, not, ◌&&◌, ◌||◌, Option, Some, None, map, refl, ap, ◌∙◌, sym}
use Rattle.ms_num.specs.Span.{Span, min_span, max_span}
use Rattle.ms_trees.specs.Enclosure as r
use Rattle.ms_trees.specs.Enclosure.{enclosure, enclosure_step, numeric_enclosure, boolean_enclosure}
use Rattle.ms_trees.specs.WellFormed.{Checked, checked, well_formed_rule, is_well_formed, is_numeric, numeric_layer, is_number, is_truth, are_numbers, are_truths, sorted_step, narrow_step, enclosure_of, fits}
use Rattle.ms_trees.specs.declared.tree.Enclosure.{Enclosure}
use Rattle.ms_trees.specs.declared.tree.Ground.{Ground, map-Ground, out-Ground, fold_out-Ground}
use Rattle.ms_trees.specs.declared.tree.Ground.TheOpen.{Ground-F, Num, Undef, Var, Add, Sub, Mul, Div, Mod, Neg, Abs, Sum, Least, Greatest, ToInt, Elem, Elem2, Count, IteI, True, False, BVar, And, Or, Not, Iff, Imp, Xor, Eq, Ne, Lt, Le, IteB, In, AllDiff, Table}
use Rattle.ms_trees.proofs.Bools.{ap2, and_left, and_right}
use Rattle.ms_trees.proofs.Smaller.{truth_some}
use Rattle.ms_trees.proofs.Layers.{fit_out, layer_map, twice}
use Rattle.ms_ground.specs.Known.{known, within_limits, numbers_of, truths_of, number_on, truth_on, node_of_numbers, node_of_truths}

-- ---- truth values

swap : (a b : Bool) → (a && b) ≡ (b && a)
swap true true = refl
swap true false = refl
swap false true = refl
swap false false = refl

pub none_left : (a b : Bool) → a ≡ false → (a && b) ≡ false
none_left a b e = ap (λ t. t && b) e

pub none_right : (a b : Bool) → b ≡ false → (a && b) ≡ false
none_right true b e = e
none_right false b e = refl

pub both_true : (a b : Bool) → a ≡ true → b ≡ true → (a && b) ≡ true
both_true a b e f = ap (λ t. t && b) e ∙ f

-- a part beside a list, which is known
pub list_beside : (l p f : Bool) (e : Enclosure) → p ≡ true → known (l && f) e ≡ known (l && p && f) e
list_beside true p f e h = ap (λ t. known (t && f) e) (sym h)
list_beside false p f e h = refl

-- ---- what is known of a part

some_not_none : {X : Type 0} (x : X) → Some x ≡ None → {A : Type 0} → A
some_not_none x e = cc

pub some_is : (x y : Enclosure) → Some x ≡ Some y → x ≡ y
some_is x y e = ap (one x) e
  where
    one : Enclosure → Option Enclosure → Enclosure
    one x None = x
    one x (Some y) = y

record IsKnown (t : Bool) (p q : Enclosure) : Type 0 where
  holds : t ≡ true
  is : p ≡ q

is_known : (t : Bool) (p q : Enclosure) → Some p ≡ known t q → IsKnown t p q
is_known true p q e = record { holds = refl; is = some_is p q e }
is_known false p q e = some_not_none p e

not_known : (t : Bool) (q : Enclosure) → None ≡ known t q → t ≡ false
not_known true q e = some_not_none q (sym e)
not_known false q e = refl

-- a well formed integer tree, and what it may mean
pub record IsNumberOn (b : List Span) (x : Ground) (p : Enclosure) : Type 0 where
  pub number : is_number (checked b x) ≡ true
  pub is : p ≡ numbers_of b x

pub record IsTruthOn (b : List Span) (x : Ground) (p : Enclosure) : Type 0 where
  pub truth : is_truth (checked b x) ≡ true
  pub is : p ≡ truths_of b x

module _ (b : List Span) (x : Ground) where
  pub some_number : (p : Enclosure) → Some p ≡ number_on b x → IsNumberOn b x p
  some_number p e =
      let k = is_known (is_numeric x && is_well_formed b x) p (numbers_of b x) e in
      record { number = swap (is_well_formed b x) (is_numeric x) ∙ k.holds; is = k.is }

  pub some_truth : (p : Enclosure) → Some p ≡ truth_on b x → IsTruthOn b x p
  some_truth p e =
      let k = is_known (not (is_numeric x) && is_well_formed b x) p (truths_of b x) e in
      record { truth = swap (is_well_formed b x) (not (is_numeric x)) ∙ k.holds; is = k.is }

  pub no_number : None ≡ number_on b x → is_number (checked b x) ≡ false
  no_number e = swap (is_well_formed b x) (is_numeric x) ∙ not_known (is_numeric x && is_well_formed b x) (numbers_of b x) e

  pub no_truth : None ≡ truth_on b x → is_truth (checked b x) ≡ false
  no_truth e = swap (is_well_formed b x) (not (is_numeric x)) ∙ not_known (not (is_numeric x) && is_well_formed b x) (truths_of b x) e

-- ---- a node by its layer

module _ (b : List Span) (g : Ground) (d : Ground-F Ground) (out : out-Ground g ≡ d) where
  numeric_out : is_numeric g ≡ numeric_layer d
  numeric_out = fold_out-Ground Bool numeric_layer g ∙ layer_map is_numeric (out-Ground g) ∙ ap numeric_layer out

  well_formed_is : is_well_formed b g ≡ (sorted_step b (map-Ground Ground Checked (checked b) d) && narrow_step b (map-Ground Ground Enclosure (enclosure b) d))
  well_formed_is =
      fit_out b g ∙ ap (λ z. well_formed_rule b (map-Ground Ground Checked (checked b) z)) out
      ∙ ap (λ z. sorted_step b (map-Ground Ground Checked (checked b) d) && narrow_step b z) (twice (checked b) enclosure_of d)

  enclosure_is : enclosure b g ≡ enclosure_step b (map-Ground Ground Enclosure (enclosure b) d)
  enclosure_is = fold_out-Ground Enclosure (enclosure_step b) g ∙ ap (λ z. enclosure_step b (map-Ground Ground Enclosure (enclosure b) z)) out

  -- an integer node
  pub number_node : numeric_layer d ≡ true → (e : Enclosure) → e ≡ numeric_enclosure (enclosure_step b (map-Ground Ground Enclosure (enclosure b) d)).interval (enclosure_step b (map-Ground Ground Enclosure (enclosure b) d)).may_be_undefined → known (sorted_step b (map-Ground Ground Checked (checked b) d) && narrow_step b (map-Ground Ground Enclosure (enclosure b) d)) e ≡ number_on b g
  number_node n e is =
      ap (known (sorted_step b (map-Ground Ground Checked (checked b) d) && narrow_step b (map-Ground Ground Enclosure (enclosure b) d))) is
      ∙ sym (ap2 (λ k q. known k (numeric_enclosure q.interval q.may_be_undefined)) (ap2 (λ k l. k && l) (numeric_out ∙ n) well_formed_is) enclosure_is)

  -- a Boolean node
  pub truth_node : numeric_layer d ≡ false → (e : Enclosure) → e ≡ boolean_enclosure (enclosure_step b (map-Ground Ground Enclosure (enclosure b) d)).may_be_true (enclosure_step b (map-Ground Ground Enclosure (enclosure b) d)).may_be_false → known (sorted_step b (map-Ground Ground Checked (checked b) d) && narrow_step b (map-Ground Ground Enclosure (enclosure b) d)) e ≡ truth_on b g
  truth_node n e is =
      ap (known (sorted_step b (map-Ground Ground Checked (checked b) d) && narrow_step b (map-Ground Ground Enclosure (enclosure b) d))) is
      ∙ sym (ap2 (λ k q. known k (boolean_enclosure q.may_be_true q.may_be_false)) (ap2 (λ k l. not k && l) (numeric_out ∙ n) well_formed_is) enclosure_is)

  -- a part is not well formed, or not of the right sort
  pub number_exit : numeric_layer d ≡ true → sorted_step b (map-Ground Ground Checked (checked b) d) ≡ false → None ≡ number_on b g
  number_exit n h =
      ap (λ t. known (t && narrow_step b (map-Ground Ground Enclosure (enclosure b) d)) (numeric_enclosure (enclosure_step b (map-Ground Ground Enclosure (enclosure b) d)).interval (enclosure_step b (map-Ground Ground Enclosure (enclosure b) d)).may_be_undefined)) (sym h)
      ∙ number_node n (numeric_enclosure (enclosure_step b (map-Ground Ground Enclosure (enclosure b) d)).interval (enclosure_step b (map-Ground Ground Enclosure (enclosure b) d)).may_be_undefined) refl

  pub truth_exit : numeric_layer d ≡ false → sorted_step b (map-Ground Ground Checked (checked b) d) ≡ false → None ≡ truth_on b g
  truth_exit n h =
      ap (λ t. known (t && narrow_step b (map-Ground Ground Enclosure (enclosure b) d)) (boolean_enclosure (enclosure_step b (map-Ground Ground Enclosure (enclosure b) d)).may_be_true (enclosure_step b (map-Ground Ground Enclosure (enclosure b) d)).may_be_false)) (sym h)
      ∙ truth_node n (boolean_enclosure (enclosure_step b (map-Ground Ground Enclosure (enclosure b) d)).may_be_true (enclosure_step b (map-Ground Ground Enclosure (enclosure b) d)).may_be_false) refl

  -- the parts are well formed and of the right sort
  pub number_return : numeric_layer d ≡ true → sorted_step b (map-Ground Ground Checked (checked b) d) ≡ true → narrow_step b (map-Ground Ground Enclosure (enclosure b) d) ≡ fits (enclosure_step b (map-Ground Ground Enclosure (enclosure b) d)).interval → (e : Enclosure) → e ≡ numeric_enclosure (enclosure_step b (map-Ground Ground Enclosure (enclosure b) d)).interval (enclosure_step b (map-Ground Ground Enclosure (enclosure b) d)).may_be_undefined → within_limits e ≡ number_on b g
  number_return n h m e is =
      ap (λ (q : Enclosure). known (fits q.interval) e) is
      ∙ ap2 (λ t u. known (t && u) e) (sym h) (sym m)
      ∙ number_node n e is

  pub truth_return : numeric_layer d ≡ false → sorted_step b (map-Ground Ground Checked (checked b) d) ≡ true → narrow_step b (map-Ground Ground Enclosure (enclosure b) d) ≡ true → (e : Enclosure) → e ≡ boolean_enclosure (enclosure_step b (map-Ground Ground Enclosure (enclosure b) d)).may_be_true (enclosure_step b (map-Ground Ground Enclosure (enclosure b) d)).may_be_false → Some e ≡ truth_on b g
  truth_return n h m e is = ap2 (λ t u. known (t && u) e) (sym h) (sym m) ∙ truth_node n e is

-- what a least or a greatest number may mean has no truth values
pub extreme_numeric : (f : Span → Span → Span) (xs : List Enclosure) → numeric_enclosure (r.extreme_enclosure f xs).interval (r.extreme_enclosure f xs).may_be_undefined ≡ r.extreme_enclosure f xs
extreme_numeric f [] = refl
extreme_numeric f (x ∷ xs) = refl

-- ---- integer trees have no truth values, and Boolean trees no numbers

module _ (b : List Span) where
  step_numeric : (t : Ground-F Enclosure) → numeric_layer t ≡ true → numeric_enclosure (enclosure_step b t).interval (enclosure_step b t).may_be_undefined ≡ enclosure_step b t
  step_numeric (Num n) h = refl
  step_numeric Undef h = refl
  step_numeric (Var v) h = refl
  step_numeric (Add x y) h = refl
  step_numeric (Sub x y) h = refl
  step_numeric (Mul x y) h = refl
  step_numeric (Div x y) h = refl
  step_numeric (Mod x y) h = refl
  step_numeric (Neg x) h = refl
  step_numeric (Abs x) h = refl
  step_numeric (Sum xs) h = refl
  step_numeric (Least xs) h = extreme_numeric min_span xs
  step_numeric (Greatest xs) h = extreme_numeric max_span xs
  step_numeric (ToInt x) h = refl
  step_numeric (Elem low xs i) h = refl
  step_numeric (Elem2 k l w xs i j) h = refl
  step_numeric (Count xs y) h = refl
  step_numeric (IteI c x y) h = refl
  step_numeric True h = cc
  step_numeric False h = cc
  step_numeric (BVar v) h = cc
  step_numeric (And xs) h = cc
  step_numeric (Or xs) h = cc
  step_numeric (Not x) h = cc
  step_numeric (Iff x y) h = cc
  step_numeric (Imp x y) h = cc
  step_numeric (Xor x y) h = cc
  step_numeric (Eq x y) h = cc
  step_numeric (Ne x y) h = cc
  step_numeric (Lt x y) h = cc
  step_numeric (Le x y) h = cc
  step_numeric (IteB c x y) h = cc
  step_numeric (In x rs) h = cc
  step_numeric (AllDiff xs) h = cc
  step_numeric (Table xs rows) h = cc

  step_boolean : (t : Ground-F Enclosure) → numeric_layer t ≡ false → boolean_enclosure (enclosure_step b t).may_be_true (enclosure_step b t).may_be_false ≡ enclosure_step b t
  step_boolean (Num n) h = cc
  step_boolean Undef h = cc
  step_boolean (Var v) h = cc
  step_boolean (Add x y) h = cc
  step_boolean (Sub x y) h = cc
  step_boolean (Mul x y) h = cc
  step_boolean (Div x y) h = cc
  step_boolean (Mod x y) h = cc
  step_boolean (Neg x) h = cc
  step_boolean (Abs x) h = cc
  step_boolean (Sum xs) h = cc
  step_boolean (Least xs) h = cc
  step_boolean (Greatest xs) h = cc
  step_boolean (ToInt x) h = cc
  step_boolean (Elem low xs i) h = cc
  step_boolean (Elem2 k l w xs i j) h = cc
  step_boolean (Count xs y) h = cc
  step_boolean (IteI c x y) h = cc
  step_boolean True h = refl
  step_boolean False h = refl
  step_boolean (BVar v) h = refl
  step_boolean (And xs) h = refl
  step_boolean (Or xs) h = refl
  step_boolean (Not x) h = refl
  step_boolean (Iff x y) h = refl
  step_boolean (Imp x y) h = refl
  step_boolean (Xor x y) h = refl
  step_boolean (Eq x y) h = refl
  step_boolean (Ne x y) h = refl
  step_boolean (Lt x y) h = refl
  step_boolean (Le x y) h = refl
  step_boolean (IteB c x y) h = refl
  step_boolean (In x rs) h = refl
  step_boolean (AllDiff xs) h = refl
  step_boolean (Table xs rows) h = refl

  pub numeric_means : (g : Ground) → is_numeric g ≡ true → numbers_of b g ≡ enclosure b g
  numeric_means g n =
      let t = map-Ground Ground Enclosure (enclosure b) (out-Ground g) in
      let e = enclosure_is b g (out-Ground g) refl in
      ap (λ (q : Enclosure). numeric_enclosure q.interval q.may_be_undefined) e
      ∙ step_numeric t (layer_map (enclosure b) (out-Ground g) ∙ sym (numeric_out b g (out-Ground g) refl) ∙ n) ∙ sym e

  pub boolean_means : (g : Ground) → is_numeric g ≡ false → truths_of b g ≡ enclosure b g
  boolean_means g n =
      let t = map-Ground Ground Enclosure (enclosure b) (out-Ground g) in
      let e = enclosure_is b g (out-Ground g) refl in
      ap (λ (q : Enclosure). boolean_enclosure q.may_be_true q.may_be_false) e
      ∙ step_boolean t (layer_map (enclosure b) (out-Ground g) ∙ sym (numeric_out b g (out-Ground g) refl) ∙ n) ∙ sym e

  -- what is known of a tree of either sort
  pub number_known : (g : Ground) (p : Enclosure) → Some p ≡ number_on b g → Some p ≡ known (is_well_formed b g) (enclosure b g)
  number_known g p e = one (is_numeric g) (is_well_formed b g) (λ n. numeric_means g n) e
    where
      one : (n w : Bool) → (n ≡ true → numbers_of b g ≡ enclosure b g) → Some p ≡ known (n && w) (numbers_of b g) → Some p ≡ known w (enclosure b g)
      one true w m e = e ∙ ap (known w) (m refl)
      one false w m e = some_not_none p e

  pub truth_known : (g : Ground) → None ≡ number_on b g → truth_on b g ≡ known (is_well_formed b g) (enclosure b g)
  truth_known g e = one (is_numeric g) (is_well_formed b g) (λ n. boolean_means g n) e
    where
      one : (n w : Bool) → (n ≡ false → truths_of b g ≡ enclosure b g) → None ≡ known (n && w) (numbers_of b g) → known (not n && w) (truths_of b g) ≡ known w (enclosure b g)
      one true true m e = some_not_none (numbers_of b g) (sym e)
      one true false m e = refl
      one false w m e = ap (known w) (m refl)

-- ---- enclosures

pub within_plain : (e z : Enclosure) → e ≡ numeric_enclosure e.interval e.may_be_undefined → Some z ≡ within_limits e → z ≡ numeric_enclosure z.interval z.may_be_undefined
within_plain e z plain h =
    let is = (is_known (fits e.interval) z e h).is in
    is ∙ plain ∙ sym (ap (λ (q : Enclosure). numeric_enclosure q.interval q.may_be_undefined) is)

pub bit_within : (y n : Bool) → Some (numeric_enclosure (Some (r.bits y n)) false) ≡ within_limits (numeric_enclosure (Some (r.bits y n)) false)
bit_within true true = refl
bit_within true false = refl
bit_within false true = refl
bit_within false false = refl

not_false : (a : Bool) → not a ≡ true → a ≡ false
not_false true h = sym h
not_false false h = refl

-- a Boolean tree may mean something
pub truth_of_some : (b : List Span) (x : Ground) → is_truth (checked b x) ≡ true → ((truths_of b x).may_be_true || (truths_of b x).may_be_false) ≡ true
truth_of_some b x h = truth_some b x (record { fit = and_left (is_well_formed b x) (not (is_numeric x)) h; boolean = not_false (is_numeric x) (and_right (is_well_formed b x) (not (is_numeric x)) h) })
