-- The value of the tree of each primitive, by its parts.
use Rattle.std.proofs.Common.{◌≡◌, ℕ, List, [], ◌∷◌, ◌++◌, Bool, true, false, not, ◌&&◌, ◌||◌, map, length, refl, sym, ap, ◌∙◌, arith, if◌then◌else◌}
use Rattle.std.specs.Prelude.{ℤ, pos, ◌+ℤ◌, ◌*ℤ◌, Option, Some, None, unsigned_abs, int_lt, int_le}
use Rattle.std.specs.List.{list_any}
use Rattle.std.proofs.lemmas.Int.{ints}
use Rattle.ms_num.specs.Span.{Span}
use Rattle.ms_num.specs.Numbers.{int_eq, add_at, min_at, max_at, div_at, mod_at}
use Rattle.ms_num.specs.Ranges.{is_member}
use Rattle.ms_trees.specs.Value as v
use Rattle.ms_trees.specs.Value.{Meaning, value, numeric_meaning, compare, folded, extreme, counted, selected, is_place, is_place2, iff, int_ne, is_row, are_distinct, any_true}
use Rattle.ms_trees.specs.declared.tree.Ground.{Ground}
use Rattle.ms_trees.specs.declared.tree.Ground.TheVariants as g
use Rattle.ms_trees.specs.declared.tree.Ground.TheFolds.{the_lemmas}
use Rattle.ms_prim.specs.declared.pieces.Part.{Part}
use Rattle.ms_prim.specs.declared.pieces.Part.TheVariants.{V, N}
use Rattle.ms_prim.specs.declared.pieces.Lit.{Lit}
use Rattle.ms_prim.specs.declared.pieces.Term.{Term}
use Rattle.ms_prim.specs.declared.pieces.Cmp.{Cmp}
use Rattle.ms_prim.specs.declared.pieces.Cmp.TheVariants.{Same, Other, AtMost, Less}
use Rattle.ms_prim.specs.declared.pieces.Tie.{Tie}
use Rattle.ms_prim.specs.declared.pieces.Tie.TheVariants.{Holds, Iff}
use Rattle.ms_prim.specs.Constraints.{part_tree, part_trees, term_tree, term_trees, lit_tree, related, tie_binding, bound}
use Rattle.ms_prim.specs.Results.{at, part_at, meant, all_meant, weighted, is_one, lit_at, relates, ties}

-- ---- what a binding asks

pub equal_value : (a : List ℤ) (t : Ground) (u : ℕ) → (value a (g.Eq t (g.Var u))).truth ≡ compare int_eq (value a t).number (Some (at a u))
equal_value a t u = search the_lemmas

iff_value : (a : List ℤ) (t : Ground) (u : ℕ) → (value a (g.Iff t (g.BVar u))).truth ≡ iff (value a t).truth (is_one a u)
iff_value a t u = search the_lemmas

pub tied_value : (a : List ℤ) (t : Ground) (tie : Tie) → (value a (bound (tie_binding tie) t)).truth ≡ ties a tie (value a t).truth
tied_value a t Holds = refl
tied_value a t (Iff u) = iff_value a t u

-- ---- parts

pub part_value : (a : List ℤ) (p : Part) → value a (part_tree p) ≡ meant a p
part_value a (V u) = search the_lemmas
part_value a (N n) = search the_lemmas

pub parts_value : (a : List ℤ) (ps : List Part) → map (value a) (part_trees ps) ≡ all_meant a ps
parts_value a [] = refl
parts_value a (p ∷ ps) = ap (λ m. m ∷ map (value a) (part_trees ps)) (part_value a p) ∙ ap (λ ms. meant a p ∷ ms) (parts_value a ps)

number_value : (a : List ℤ) (n : ℤ) → value a (g.Num n) ≡ numeric_meaning (Some n)
number_value a n = search the_lemmas

term_value : (a : List ℤ) (t : Term) → value a (term_tree t) ≡ numeric_meaning (Some (t.factor *ℤ at a t.var))
term_value a t = search the_lemmas

lit_value : (a : List ℤ) (l : Lit) → (value a (lit_tree l)).truth ≡ lit_at a l
lit_value a l = by_sign l.positive
  where
    plain : (value a (g.BVar l.var)).truth ≡ is_one a l.var
    plain = search the_lemmas

    turned : (value a (g.Not (g.BVar l.var))).truth ≡ not (is_one a l.var)
    turned = search the_lemmas

    by_sign : (s : Bool) → (value a (if s then g.BVar l.var else g.Not (g.BVar l.var))).truth ≡ (if s then is_one a l.var else not (is_one a l.var))
    by_sign true = plain
    by_sign false = turned

lits_value : (a : List ℤ) (ls : List Lit) → any_true (map (value a) (map lit_tree ls)) ≡ list_any (lit_at a) ls
lits_value a [] = refl
lits_value a (l ∷ ls) = ap (λ b. b || any_true (map (value a) (map lit_tree ls))) (lit_value a l) ∙ ap (λ b. lit_at a l || b) (lits_value a ls)

-- ---- sums

added : (x y z : ℤ) → (x +ℤ y) +ℤ z ≡ x +ℤ (y +ℤ z)
added x y z = omega (arith, ints)

folded_terms : (a : List ℤ) (z : ℤ) (ts : List Term) → folded add_at (Some z) (map (value a) (term_trees ts)) ≡ Some (z +ℤ weighted a ts)
folded_terms a z [] = ap (λ n. Some n) (omega (arith, ints))
folded_terms a z (t ∷ ts) =
    ap (λ (m : Meaning). folded add_at (v.both add_at (Some z) m.number) (map (value a) (term_trees ts))) (term_value a t)
    ∙ folded_terms a (z +ℤ (t.factor *ℤ at a t.var)) ts ∙ ap (λ n. Some n) (added z (t.factor *ℤ at a t.var) (weighted a ts))

folded_sum : (a : List ℤ) (z : ℤ) (ts : List Term) (n : ℤ) → folded add_at (Some z) (map (value a) (term_trees ts ++ g.Num n ∷ [])) ≡ Some (z +ℤ (weighted a ts +ℤ n))
folded_sum a z [] n = ap (λ (m : Meaning). v.both add_at (Some z) m.number) (number_value a n) ∙ ap (λ k. Some k) (omega (arith, ints))
folded_sum a z (t ∷ ts) n =
    ap (λ (m : Meaning). folded add_at (v.both add_at (Some z) m.number) (map (value a) (term_trees ts ++ g.Num n ∷ []))) (term_value a t)
    ∙ folded_sum a (z +ℤ (t.factor *ℤ at a t.var)) ts n
    ∙ ap (λ k. Some k) (together z (t.factor *ℤ at a t.var) (weighted a ts) n)
  where
    together : (x y z n : ℤ) → (x +ℤ y) +ℤ (z +ℤ n) ≡ x +ℤ ((y +ℤ z) +ℤ n)
    together x y z n = omega (arith, ints)

zero_plus : (x : ℤ) → pos 0 +ℤ x ≡ x
zero_plus x = omega (arith, ints)

sum_fold : (a : List ℤ) (gs : List Ground) → (value a (g.Sum gs)).number ≡ folded add_at (Some (pos 0)) (map (value a) gs)
sum_fold a gs = search the_lemmas

sum_value : (a : List ℤ) (ts : List Term) (n : ℤ) → (value a (g.Sum (term_trees ts ++ g.Num n ∷ []))).number ≡ Some (weighted a ts +ℤ n)
sum_value a ts n = sum_fold a (term_trees ts ++ g.Num n ∷ []) ∙ folded_sum a (pos 0) ts n ∙ ap (λ k. Some k) (zero_plus (weighted a ts +ℤ n))

total_value : (a : List ℤ) (ts : List Term) → (value a (g.Sum (term_trees ts))).number ≡ Some (weighted a ts)
total_value a ts = sum_fold a (term_trees ts) ∙ folded_terms a (pos 0) ts ∙ ap (λ k. Some k) (zero_plus (weighted a ts))

related_fold : (a : List ℤ) (c : Cmp) (s t : Ground) → (value a (related c s t)).truth ≡ compare (relates c) (value a s).number (value a t).number
related_fold a Same s t = search the_lemmas
related_fold a Other s t = search the_lemmas
related_fold a AtMost s t = search the_lemmas
related_fold a Less s t = search the_lemmas

-- ---- primitives

-- what equals a variable
equals : (a : List ℤ) (t : Ground) (u : ℕ) (o : Option ℤ) → (value a t).number ≡ o → compare int_eq o (Some (at a u)) ≡ (value a (g.Eq t (g.Var u))).truth
equals a t u o e = ap (λ n. compare int_eq n (Some (at a u))) (sym e) ∙ sym (equal_value a t u)

ties_of : (a : List ℤ) (t : Ground) (tie : Tie) (b : Bool) → (value a t).truth ≡ b → ties a tie b ≡ (value a (bound (tie_binding tie) t)).truth
ties_of a t tie b e = ap (ties a tie) (sym e) ∙ sym (tied_value a t tie)

pub meets_sum : (a : List ℤ) (ts : List Term) (n : ℤ) (u : ℕ) → int_eq (weighted a ts +ℤ n) (at a u) ≡ (value a (g.Eq (g.Sum (term_trees ts ++ g.Num n ∷ [])) (g.Var u))).truth
meets_sum a ts n u = equals a (g.Sum (term_trees ts ++ g.Num n ∷ [])) u (Some (weighted a ts +ℤ n)) (sum_value a ts n)

ap2 : {X Y Z : Type 0} (f : X → Y → Z) {p p' : X} {q q' : Y} → p ≡ p' → q ≡ q' → f p q ≡ f p' q'
ap2 f {p'} {q} e k = ap (λ x. f x q) e ∙ ap (f p') k

product_value : (a : List ℤ) (x y : Part) → (value a (g.Mul (part_tree x) (part_tree y))).number ≡ Some (part_at a x *ℤ part_at a y)
product_value a x y = fold (part_tree x) (part_tree y) ∙ ap2 (λ (m n : Meaning). v.both v_mul m.number n.number) (part_value a x) (part_value a y)
  where
    v_mul : ℤ → ℤ → Option ℤ
    v_mul x y = Some (x *ℤ y)

    fold : (s t : Ground) → (value a (g.Mul s t)).number ≡ v.both v_mul (value a s).number (value a t).number
    fold s t = search the_lemmas

pub meets_product : (a : List ℤ) (x y : Part) (u : ℕ) → int_eq (part_at a x *ℤ part_at a y) (at a u) ≡ (value a (g.Eq (g.Mul (part_tree x) (part_tree y)) (g.Var u))).truth
meets_product a x y u = equals a (g.Mul (part_tree x) (part_tree y)) u (Some (part_at a x *ℤ part_at a y)) (product_value a x y)

pub meets_quotient : (a : List ℤ) (x y : Part) (u : ℕ) → compare int_eq (div_at (part_at a x) (part_at a y)) (Some (at a u)) ≡ (value a (g.Eq (g.Div (part_tree x) (part_tree y)) (g.Var u))).truth
meets_quotient a x y u = equals a (g.Div (part_tree x) (part_tree y)) u (div_at (part_at a x) (part_at a y)) (fold (part_tree x) (part_tree y) ∙ ap2 (λ (m n : Meaning). v.both div_at m.number n.number) (part_value a x) (part_value a y))
  where
    fold : (s t : Ground) → (value a (g.Div s t)).number ≡ v.both div_at (value a s).number (value a t).number
    fold s t = search the_lemmas

pub meets_remainder : (a : List ℤ) (x y : Part) (u : ℕ) → compare int_eq (mod_at (part_at a x) (part_at a y)) (Some (at a u)) ≡ (value a (g.Eq (g.Mod (part_tree x) (part_tree y)) (g.Var u))).truth
meets_remainder a x y u = equals a (g.Mod (part_tree x) (part_tree y)) u (mod_at (part_at a x) (part_at a y)) (fold (part_tree x) (part_tree y) ∙ ap2 (λ (m n : Meaning). v.both mod_at m.number n.number) (part_value a x) (part_value a y))
  where
    fold : (s t : Ground) → (value a (g.Mod s t)).number ≡ v.both mod_at (value a s).number (value a t).number
    fold s t = search the_lemmas

pub meets_absolute : (a : List ℤ) (x : Part) (u : ℕ) → int_eq (pos (unsigned_abs (part_at a x))) (at a u) ≡ (value a (g.Eq (g.Abs (part_tree x)) (g.Var u))).truth
meets_absolute a x u = equals a (g.Abs (part_tree x)) u (Some (pos (unsigned_abs (part_at a x)))) (fold (part_tree x) ∙ ap (λ (m : Meaning). v.image (λ z. Some (pos (unsigned_abs z))) m.number) (part_value a x))
  where
    fold : (s : Ground) → (value a (g.Abs s)).number ≡ v.image (λ z. Some (pos (unsigned_abs z))) (value a s).number
    fold s = search the_lemmas

pub meets_least : (a : List ℤ) (ps : List Part) (u : ℕ) → compare int_eq (extreme min_at (all_meant a ps)) (Some (at a u)) ≡ (value a (g.Eq (g.Least (part_trees ps)) (g.Var u))).truth
meets_least a ps u = equals a (g.Least (part_trees ps)) u (extreme min_at (all_meant a ps)) (fold (part_trees ps) ∙ ap (extreme min_at) (parts_value a ps))
  where
    fold : (ts : List Ground) → (value a (g.Least ts)).number ≡ extreme min_at (map (value a) ts)
    fold ts = search the_lemmas

pub meets_greatest : (a : List ℤ) (ps : List Part) (u : ℕ) → compare int_eq (extreme max_at (all_meant a ps)) (Some (at a u)) ≡ (value a (g.Eq (g.Greatest (part_trees ps)) (g.Var u))).truth
meets_greatest a ps u = equals a (g.Greatest (part_trees ps)) u (extreme max_at (all_meant a ps)) (fold (part_trees ps) ∙ ap (extreme max_at) (parts_value a ps))
  where
    fold : (ts : List Ground) → (value a (g.Greatest ts)).number ≡ extreme max_at (map (value a) ts)
    fold ts = search the_lemmas

pub meets_count : (a : List ℤ) (ps : List Part) (x : Part) (u n : ℕ) → counted (all_meant a ps) (Some (part_at a x)) ≡ Some (pos n) → int_eq (pos n) (at a u) ≡ (value a (g.Eq (g.Count (part_trees ps) (part_tree x)) (g.Var u))).truth
meets_count a ps x u n e = equals a (g.Count (part_trees ps) (part_tree x)) u (Some (pos n)) (fold (part_trees ps) (part_tree x) ∙ ap2 (λ ms (m : Meaning). counted ms m.number) (parts_value a ps) (part_value a x) ∙ e)
  where
    fold : (ts : List Ground) (t : Ground) → (value a (g.Count ts t)).number ≡ counted (map (value a) ts) (value a t).number
    fold ts t = search the_lemmas

pub meets_element : (a : List ℤ) (low : ℤ) (ps : List Part) (i : Part) (u : ℕ) → compare int_eq (selected (is_place low (Some (part_at a i))) 0 (all_meant a ps)) (Some (at a u)) ≡ (value a (g.Eq (g.Elem low (part_trees ps) (part_tree i)) (g.Var u))).truth
meets_element a low ps i u = equals a (g.Elem low (part_trees ps) (part_tree i)) u (selected (is_place low (Some (part_at a i))) 0 (all_meant a ps)) (fold (part_trees ps) (part_tree i) ∙ ap2 (λ ms (m : Meaning). selected (is_place low m.number) 0 ms) (parts_value a ps) (part_value a i))
  where
    fold : (ts : List Ground) (t : Ground) → (value a (g.Elem low ts t)).number ≡ selected (is_place low (value a t).number) 0 (map (value a) ts)
    fold ts t = search the_lemmas

pub meets_element2 : (a : List ℤ) (k l : ℤ) (w : ℕ) (ps : List Part) (i j : Part) (u : ℕ) → compare int_eq (selected (is_place2 k l w (length (all_meant a ps)) (Some (part_at a i)) (Some (part_at a j))) 0 (all_meant a ps)) (Some (at a u)) ≡ (value a (g.Eq (g.Elem2 k l w (part_trees ps) (part_tree i) (part_tree j)) (g.Var u))).truth
meets_element2 a k l w ps i j u =
    equals a (g.Elem2 k l w (part_trees ps) (part_tree i) (part_tree j)) u (selected (is_place2 k l w (length (all_meant a ps)) (Some (part_at a i)) (Some (part_at a j))) 0 (all_meant a ps))
    (fold (part_trees ps) (part_tree i) (part_tree j) ∙ ap (λ ms. selected (is_place2 k l w (length ms) (value a (part_tree i)).number (value a (part_tree j)).number) 0 ms) (parts_value a ps)
    ∙ ap2 (λ (m n : Meaning). selected (is_place2 k l w (length (all_meant a ps)) m.number n.number) 0 (all_meant a ps)) (part_value a i) (part_value a j))
  where
    fold : (ts : List Ground) (s t : Ground) → (value a (g.Elem2 k l w ts s t)).number ≡ selected (is_place2 k l w (length (map (value a) ts)) (value a s).number (value a t).number) 0 (map (value a) ts)
    fold ts s t = search the_lemmas

pub meets_total : (a : List ℤ) (ts : List Term) (c : Cmp) (n : ℤ) → relates c (weighted a ts) n ≡ (value a (related c (g.Sum (term_trees ts)) (g.Num n))).truth
meets_total a ts c n = sym (related_fold a c (g.Sum (term_trees ts)) (g.Num n) ∙ ap2 (λ o (m : Meaning). compare (relates c) o m.number) (total_value a ts) (number_value a n))

pub meets_compare : (a : List ℤ) (c : Cmp) (x y : Part) (tie : Tie) → ties a tie (relates c (part_at a x) (part_at a y)) ≡ (value a (bound (tie_binding tie) (related c (part_tree x) (part_tree y)))).truth
meets_compare a c x y tie = ties_of a (related c (part_tree x) (part_tree y)) tie (relates c (part_at a x) (part_at a y)) (related_fold a c (part_tree x) (part_tree y) ∙ ap2 (λ (m n : Meaning). compare (relates c) m.number n.number) (part_value a x) (part_value a y))

pub meets_member : (a : List ℤ) (x : Part) (set : List Span) (tie : Tie) → ties a tie (is_member set (part_at a x)) ≡ (value a (bound (tie_binding tie) (g.In (part_tree x) set))).truth
meets_member a x set tie = ties_of a (g.In (part_tree x) set) tie (is_member set (part_at a x)) (fold (part_tree x) ∙ ap (λ (m : Meaning). v.test (is_member set) m.number) (part_value a x))
  where
    fold : (t : Ground) → (value a (g.In t set)).truth ≡ v.test (is_member set) (value a t).number
    fold t = search the_lemmas

pub meets_clause : (a : List ℤ) (ls : List Lit) (tie : Tie) → ties a tie (list_any (lit_at a) ls) ≡ (value a (bound (tie_binding tie) (g.Or (map lit_tree ls)))).truth
meets_clause a ls tie = ties_of a (g.Or (map lit_tree ls)) tie (list_any (lit_at a) ls) (fold (map lit_tree ls) ∙ lits_value a ls)
  where
    fold : (ts : List Ground) → (value a (g.Or ts)).truth ≡ any_true (map (value a) ts)
    fold ts = search the_lemmas

pub meets_table : (a : List ℤ) (ps : List Part) (rows : List (List ℤ)) (tie : Tie) → ties a tie (list_any (is_row (all_meant a ps)) rows) ≡ (value a (bound (tie_binding tie) (g.Table (part_trees ps) rows))).truth
meets_table a ps rows tie = ties_of a (g.Table (part_trees ps) rows) tie (list_any (is_row (all_meant a ps)) rows) (fold (part_trees ps) ∙ ap (λ ms. list_any (is_row ms) rows) (parts_value a ps))
  where
    fold : (ts : List Ground) → (value a (g.Table ts rows)).truth ≡ list_any (is_row (map (value a) ts)) rows
    fold ts = search the_lemmas

pub meets_differ : (a : List ℤ) (ps : List Part) (tie : Tie) → ties a tie (are_distinct (all_meant a ps)) ≡ (value a (bound (tie_binding tie) (g.AllDiff (part_trees ps)))).truth
meets_differ a ps tie = ties_of a (g.AllDiff (part_trees ps)) tie (are_distinct (all_meant a ps)) (fold (part_trees ps) ∙ ap are_distinct (parts_value a ps))
  where
    fold : (ts : List Ground) → (value a (g.AllDiff ts)).truth ≡ are_distinct (map (value a) ts)
    fold ts = search the_lemmas
