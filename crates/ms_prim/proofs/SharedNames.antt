-- What a tree means depends on the variables alone that it names.
use Rattle.std.proofs.Common.{◌≡◌, ℕ, List, [], ◌∷◌, ◌++◌, map, refl, sym, ap, ◌∙◌, subst, true, false}
use Rattle.std.specs.Prelude.{ℤ, pos, slice_index_or, Some}
use Rattle.ms_num.specs.Span.{Span, has}
use Rattle.ms_num.specs.Numbers.{int_eq}
use Rattle.ms_trees.specs.Value.{Meaning, value, value_step, numeric_meaning}
use Rattle.ms_trees.specs.Value as v
use Rattle.ms_trees.specs.Enclosure as r
use Rattle.ms_trees.specs.Enclosure.{enclosure, enclosure_step, span_at}
use Rattle.ms_trees.specs.Laws.{IsCoveredBy}
use Rattle.ms_trees.specs.declared.tree.Enclosure.{Enclosure}
use Rattle.ms_trees.specs.declared.tree.Ground.{Ground, map-Ground, roll-Ground, fold-Ground}
use Rattle.ms_trees.specs.declared.tree.Ground.TheVariants as g
use Rattle.ms_trees.specs.declared.tree.Ground.TheFolds.{the_lemmas}
use Rattle.ms_trees.specs.declared.tree.Ground.TheOpen.{Ground-F, Num, Undef, Var, Add, Sub, Mul, Div, Mod, Neg, Abs, Sum, Least, Greatest, ToInt, Elem, Elem2, Count, IteI, True, False, BVar, And, Or, Not, Iff, Imp, Xor, Eq, Ne, Lt, Le, IteB, In, AllDiff, Table}
use Rattle.ms_trees.proofs.Bools.{ap2}
use Rattle.ms_trees.proofs.Layers.{induct, twice, fold_at}
use Rattle.ms_boxes.specs.Boxes.{Each}
use Rattle.ms_prim.specs.declared.primitive.Primitive.{Primitive}
use Rattle.ms_prim.specs.Constraints.{Binding, held, equal_to, equivalent_to, binding, operation, bound, tree_of}
use Rattle.ms_prim.specs.Naming.{joined, variables, variables_step, names_of}
use Rattle.ms_prim.specs.Settling.{IsAdmitted, Admits, IsSettled}
use Rattle.ms_prim.specs.Promises.{NamesDecideValues, NamesDecideEnclosures, NamesDecideSettled}

pub each_left : {X : Type 0} (Q : X → Type 0) (xs ys : List X) → Each Q (xs ++ ys) → Each Q xs
each_left Q [] ys h = tt
each_left Q (x ∷ xs) ys h = (h.0, each_left Q xs ys h.1)

pub each_right : {X : Type 0} (Q : X → Type 0) (xs ys : List X) → Each Q (xs ++ ys) → Each Q ys
each_right Q [] ys h = h
each_right Q (x ∷ xs) ys h = each_right Q xs ys h.1

ap3 : {X Y Z W : Type 0} (f : X → Y → Z → W) {p p' : X} {q q' : Y} {r r' : Z} → p ≡ p' → q ≡ q' → r ≡ r' → f p q r ≡ f p' q' r'
ap3 f {p'} {q} {q'} {r} e k l = ap (λ x. f x q r) e ∙ ap (λ y. f p' y r) k ∙ ap (f p' q') l

-- a part with its variables and what it is by two readings, which are the same where Q holds of each variable
record Read (A : Type 0) (Q : ℕ → Type 0) : Type 0 where
  names : List ℕ
  first : A
  second : A
  same : Each Q names → first ≡ second

module _ (A : Type 0) (Q : ℕ → Type 0) where
  abbrev ns : Read A Q → List ℕ
  ns e = e.names

  abbrev fs : Read A Q → A
  fs e = e.first

  abbrev ss : Read A Q → A
  ss e = e.second

  list_same : (xs : List (Read A Q)) → Each Q (joined (map ns xs)) → map fs xs ≡ map ss xs
  list_same [] h = refl
  list_same (x ∷ xs) h = ap2 (λ y ys. y ∷ ys) (x.same (each_left Q x.names (joined (map ns xs)) h)) (list_same xs (each_right Q x.names (joined (map ns xs)) h))

  -- two parts
  pair_same : (x y : Read A Q) → (f : A → A → Ground-F A) → Each Q (x.names ++ y.names) → f x.first y.first ≡ f x.second y.second
  pair_same x y f h = ap2 f (x.same (each_left Q x.names y.names h)) (y.same (each_right Q x.names y.names h))

  layer_same : (t : Ground-F (Read A Q)) → Each Q (variables_step (map-Ground (Read A Q) (List ℕ) ns t)) → map-Ground (Read A Q) A fs t ≡ map-Ground (Read A Q) A ss t
  layer_same (Num n) h = refl
  layer_same Undef h = refl
  layer_same (Var v) h = refl
  layer_same (Add x y) h = pair_same x y Add h
  layer_same (Sub x y) h = pair_same x y Sub h
  layer_same (Mul x y) h = pair_same x y Mul h
  layer_same (Div x y) h = pair_same x y Div h
  layer_same (Mod x y) h = pair_same x y Mod h
  layer_same (Neg x) h = ap Neg (x.same h)
  layer_same (Abs x) h = ap Abs (x.same h)
  layer_same (Sum xs) h = ap Sum (list_same xs h)
  layer_same (Least xs) h = ap Least (list_same xs h)
  layer_same (Greatest xs) h = ap Greatest (list_same xs h)
  layer_same (ToInt x) h = ap ToInt (x.same h)
  layer_same (Elem low xs i) h = ap2 (Elem low) (list_same xs (each_left Q (joined (map ns xs)) i.names h)) (i.same (each_right Q (joined (map ns xs)) i.names h))
  layer_same (Elem2 k l w xs i j) h = let both = each_left Q (joined (map ns xs) ++ i.names) j.names h in ap3 (Elem2 k l w) (list_same xs (each_left Q (joined (map ns xs)) i.names both)) (i.same (each_right Q (joined (map ns xs)) i.names both)) (j.same (each_right Q (joined (map ns xs) ++ i.names) j.names h))
  layer_same (Count xs y) h = ap2 Count (list_same xs (each_left Q (joined (map ns xs)) y.names h)) (y.same (each_right Q (joined (map ns xs)) y.names h))
  layer_same (IteI c x y) h = let both = each_left Q (c.names ++ x.names) y.names h in ap3 IteI (c.same (each_left Q c.names x.names both)) (x.same (each_right Q c.names x.names both)) (y.same (each_right Q (c.names ++ x.names) y.names h))
  layer_same True h = refl
  layer_same False h = refl
  layer_same (BVar v) h = refl
  layer_same (And xs) h = ap And (list_same xs h)
  layer_same (Or xs) h = ap Or (list_same xs h)
  layer_same (Not x) h = ap Not (x.same h)
  layer_same (Iff x y) h = pair_same x y Iff h
  layer_same (Imp x y) h = pair_same x y Imp h
  layer_same (Xor x y) h = pair_same x y Xor h
  layer_same (Eq x y) h = pair_same x y Eq h
  layer_same (Ne x y) h = pair_same x y Ne h
  layer_same (Lt x y) h = pair_same x y Lt h
  layer_same (Le x y) h = pair_same x y Le h
  layer_same (IteB c x y) h = let both = each_left Q (c.names ++ x.names) y.names h in ap3 IteB (c.same (each_left Q c.names x.names both)) (x.same (each_right Q c.names x.names both)) (y.same (each_right Q (c.names ++ x.names) y.names h))
  layer_same (In x set) h = ap (λ y. In y set) (x.same h)
  layer_same (AllDiff xs) h = ap AllDiff (list_same xs h)
  layer_same (Table xs rows) h = ap (λ ys. Table ys rows) (list_same xs h)

  module _ (f f' : Ground-F A → A) (steps : (d : Ground-F A) → Each Q (variables_step (map-Ground A (List ℕ) (λ e. []) d)) → f d ≡ f' d) where
    abbrev Same : Ground → Type 0
    Same t = Each Q (variables t) → fold-Ground A f t ≡ fold-Ground A f' t

    abbrev read : ((t : Ground) × Same t) → Read A Q
    read e = record { names = variables e.0; first = fold-Ground A f e.0; second = fold-Ground A f' e.0; same = e.1 }

    none : (xs : List (Read A Q)) → Each Q (joined (map (λ e. []) (map ss xs)))
    none [] = tt
    none (x ∷ xs) = none xs

    none2 : (xs : List (Read A Q)) → Each Q (joined (map (λ e. []) (map ss xs)) ++ [])
    none2 [] = tt
    none2 (x ∷ xs) = none2 xs

    none3 : (xs : List (Read A Q)) → Each Q ((joined (map (λ e. []) (map ss xs)) ++ []) ++ [])
    none3 [] = tt
    none3 (x ∷ xs) = none3 xs

    -- the variables of a node's own
    own : (d : Ground-F (Read A Q)) → Each Q (variables_step (map-Ground (Read A Q) (List ℕ) ns d)) → Each Q (variables_step (map-Ground A (List ℕ) (λ e. []) (map-Ground (Read A Q) A ss d)))
    own (Var v) h = h
    own (BVar v) h = h
    own (Num n) h = tt
    own Undef h = tt
    own (Add x y) h = tt
    own (Sub x y) h = tt
    own (Mul x y) h = tt
    own (Div x y) h = tt
    own (Mod x y) h = tt
    own (Neg x) h = tt
    own (Abs x) h = tt
    own (Sum xs) h = none xs
    own (Least xs) h = none xs
    own (Greatest xs) h = none xs
    own (ToInt x) h = tt
    own (Elem low xs i) h = none2 xs
    own (Elem2 k l w xs i j) h = none3 xs
    own (Count xs y) h = none2 xs
    own (IteI c x y) h = tt
    own True h = tt
    own False h = tt
    own (And xs) h = none xs
    own (Or xs) h = none xs
    own (Not x) h = tt
    own (Iff x y) h = tt
    own (Imp x y) h = tt
    own (Xor x y) h = tt
    own (Eq x y) h = tt
    own (Ne x y) h = tt
    own (Lt x y) h = tt
    own (Le x y) h = tt
    own (IteB c x y) h = tt
    own (In x set) h = tt
    own (AllDiff xs) h = none xs
    own (Table xs rows) h = none xs

    folds_same : (t : Ground) → Same t
    folds_same = induct Same (λ y h.
        let E : Type 0 = (t : Ground) × Same t in
        let u = map-Ground E (Read A Q) read y in
        let names : Each Q (variables_step (map-Ground (Read A Q) (List ℕ) ns u)) = subst (Each Q) (fold_at (List ℕ) variables_step (λ (e : E). e.0) y ∙ sym (ap variables_step (twice read ns y))) h in
        fold_at A f (λ (e : E). e.0) y ∙ sym (ap f (twice read fs y)) ∙ ap f (layer_same u names) ∙ steps (map-Ground (Read A Q) A ss u) (own u names) ∙ ap f' (twice read ss y) ∙ sym (fold_at A f' (λ (e : E). e.0) y))

abbrev SameNumber : List ℤ → List ℤ → ℕ → Type 0
SameNumber a a' v = slice_index_or a v (pos 0) ≡ slice_index_or a' v (pos 0)

value_steps : (a a' : List ℤ) (d : Ground-F Meaning) → Each (SameNumber a a') (variables_step (map-Ground Meaning (List ℕ) (λ e. []) d)) → value_step a d ≡ value_step a' d
value_steps a a' (Var u) h = ap (λ z. v.numeric_meaning (Some z)) h.0
value_steps a a' (BVar u) h = ap (λ z. v.boolean_meaning (int_eq z (pos 1))) h.0
value_steps a a' (Num n) h = refl
value_steps a a' Undef h = refl
value_steps a a' (Add x y) h = refl
value_steps a a' (Sub x y) h = refl
value_steps a a' (Mul x y) h = refl
value_steps a a' (Div x y) h = refl
value_steps a a' (Mod x y) h = refl
value_steps a a' (Neg x) h = refl
value_steps a a' (Abs x) h = refl
value_steps a a' (Sum xs) h = refl
value_steps a a' (Least xs) h = refl
value_steps a a' (Greatest xs) h = refl
value_steps a a' (ToInt x) h = refl
value_steps a a' (Elem low xs i) h = refl
value_steps a a' (Elem2 k l w xs i j) h = refl
value_steps a a' (Count xs y) h = refl
value_steps a a' (IteI c x y) h = refl
value_steps a a' True h = refl
value_steps a a' False h = refl
value_steps a a' (And xs) h = refl
value_steps a a' (Or xs) h = refl
value_steps a a' (Not x) h = refl
value_steps a a' (Iff x y) h = refl
value_steps a a' (Imp x y) h = refl
value_steps a a' (Xor x y) h = refl
value_steps a a' (Eq x y) h = refl
value_steps a a' (Ne x y) h = refl
value_steps a a' (Lt x y) h = refl
value_steps a a' (Le x y) h = refl
value_steps a a' (IteB c x y) h = refl
value_steps a a' (In x set) h = refl
value_steps a a' (AllDiff xs) h = refl
value_steps a a' (Table xs rows) h = refl

abbrev SameSpan : List Span → List Span → ℕ → Type 0
SameSpan b b' v = span_at b v ≡ span_at b' v

enclosure_steps : (b b' : List Span) (d : Ground-F Enclosure) → Each (SameSpan b b') (variables_step (map-Ground Enclosure (List ℕ) (λ e. []) d)) → enclosure_step b d ≡ enclosure_step b' d
enclosure_steps b b' (Var u) h = ap (λ s. r.numeric_enclosure (Some s) false) h.0
enclosure_steps b b' (BVar u) h = ap (λ s. r.boolean_enclosure (has s (pos 1)) (has s (pos 0))) h.0
enclosure_steps b b' (Num n) h = refl
enclosure_steps b b' Undef h = refl
enclosure_steps b b' (Add x y) h = refl
enclosure_steps b b' (Sub x y) h = refl
enclosure_steps b b' (Mul x y) h = refl
enclosure_steps b b' (Div x y) h = refl
enclosure_steps b b' (Mod x y) h = refl
enclosure_steps b b' (Neg x) h = refl
enclosure_steps b b' (Abs x) h = refl
enclosure_steps b b' (Sum xs) h = refl
enclosure_steps b b' (Least xs) h = refl
enclosure_steps b b' (Greatest xs) h = refl
enclosure_steps b b' (ToInt x) h = refl
enclosure_steps b b' (Elem low xs i) h = refl
enclosure_steps b b' (Elem2 k l w xs i j) h = refl
enclosure_steps b b' (Count xs y) h = refl
enclosure_steps b b' (IteI c x y) h = refl
enclosure_steps b b' True h = refl
enclosure_steps b b' False h = refl
enclosure_steps b b' (And xs) h = refl
enclosure_steps b b' (Or xs) h = refl
enclosure_steps b b' (Not x) h = refl
enclosure_steps b b' (Iff x y) h = refl
enclosure_steps b b' (Imp x y) h = refl
enclosure_steps b b' (Xor x y) h = refl
enclosure_steps b b' (Eq x y) h = refl
enclosure_steps b b' (Ne x y) h = refl
enclosure_steps b b' (Lt x y) h = refl
enclosure_steps b b' (Le x y) h = refl
enclosure_steps b b' (IteB c x y) h = refl
enclosure_steps b b' (In x set) h = refl
enclosure_steps b b' (AllDiff xs) h = refl
enclosure_steps b b' (Table xs rows) h = refl

pub values_same : NamesDecideValues
values_same a a' t h = folds_same Meaning (SameNumber a a') (value_step a) (value_step a') (value_steps a a') t h

pub enclosures_same : NamesDecideEnclosures
enclosures_same b b' t h = folds_same Enclosure (SameSpan b b') (enclosure_step b) (enclosure_step b') (enclosure_steps b b') t h

-- ---- settled

equal_names : (t : Ground) (u : ℕ) → variables (g.Eq t (g.Var u)) ≡ variables t ++ u ∷ []
equal_names t u = search the_lemmas

iff_names : (t : Ground) (u : ℕ) → variables (g.Iff t (g.BVar u)) ≡ variables t ++ u ∷ []
iff_names t u = search the_lemmas

admits_same : (b b' : List Span) (k : Binding) (t : Ground) → Each (SameSpan b b') (variables (bound k t)) → Admits b k (enclosure b t) → Admits b' k (enclosure b' t)
admits_same b b' held t h x = tt
admits_same b b' (equal_to u) t h x =
    let all : Each (SameSpan b b') (variables t ++ u ∷ []) = subst (Each (SameSpan b b')) (equal_names t u) h in
    let here = (each_right (SameSpan b b') (variables t) (u ∷ []) all).0 in
    let same = enclosures_same b b' t (each_left (SameSpan b b') (variables t) (u ∷ []) all) in
    subst (λ (e : Enclosure). IsCoveredBy (Some (span_at b' u)) e.interval) same (subst (λ s. IsCoveredBy (Some s) (enclosure b t).interval) here x)
admits_same b b' (equivalent_to u) t h x =
    let all : Each (SameSpan b b') (variables t ++ u ∷ []) = subst (Each (SameSpan b b')) (iff_names t u) h in
    let here = (each_right (SameSpan b b') (variables t) (u ∷ []) all).0 in
    let same = enclosures_same b b' t (each_left (SameSpan b b') (variables t) (u ∷ []) all) in
    subst (λ (e : Enclosure). IsAdmitted (span_at b' u) e) same (subst (λ s. IsAdmitted s (enclosure b t)) here x)

pub settled_same : NamesDecideSettled
settled_same b b' p h s = record {
  unrefuted = ap (λ (e : Enclosure). e.may_be_true) (sym (enclosures_same b b' (tree_of p) h)) ∙ s.unrefuted;
  admitted = admits_same b b' (binding p) (operation p) h s.admitted;
}
