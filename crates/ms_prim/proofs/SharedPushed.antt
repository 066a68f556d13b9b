-- Lists of variables as they are put together.
use Rattle.std.proofs.Common.{◌≡◌, ℕ, ◌+◌, ◌<◌, List, [], ◌∷◌, ◌++◌, Bool, true, false, map, length, drop, drop-cons, get_or, add-one, append_assoc, append-nil, refl, sym, ap, ◌∙◌, if◌then◌else◌}
use Rattle.std.specs.Prelude.{ℤ, pos}
use Rattle.ms_num.specs.Span.{Span}
use Rattle.ms_trees.specs.declared.tree.Ground.{Ground}
use Rattle.ms_trees.specs.declared.tree.Ground.TheVariants as g
use Rattle.ms_trees.specs.declared.tree.Ground.TheFolds.{the_lemmas}
use Rattle.ms_prim.specs.declared.pieces.Part.{Part}
use Rattle.ms_prim.specs.declared.pieces.Part.TheVariants.{V, N}
use Rattle.ms_prim.specs.declared.pieces.Lit.{Lit}
use Rattle.ms_prim.specs.declared.pieces.Term.{Term}
use Rattle.ms_prim.specs.declared.pieces.Cmp.{Cmp}
use Rattle.ms_prim.specs.declared.pieces.Cmp.TheVariants.{Same, Other, AtMost, Less}
use Rattle.ms_prim.specs.declared.pieces.Tie.{Tie}
use Rattle.ms_prim.specs.declared.pieces.Tie.TheVariants.{Holds, Iff}
use Rattle.ms_prim.specs.Constraints.{part_tree, part_trees, term_tree, term_trees, lit_tree, related, tie_binding, bound}
use Rattle.ms_prim.specs.Naming.{joined, variables, tied}

pub variable_names : (v : ℕ) → variables (g.Var v) ≡ v ∷ []
variable_names v = search the_lemmas

pub number_names : (n : ℤ) → variables (g.Num n) ≡ []
number_names n = search the_lemmas

pub term_names : (t : Term) → variables (term_tree t) ≡ t.var ∷ []
term_names t = search the_lemmas

pub lit_names : (l : Lit) → variables (lit_tree l) ≡ l.var ∷ []
lit_names l = by_sign l.positive
  where
    by_sign : (s : Bool) → variables (if s then g.BVar l.var else g.Not (g.BVar l.var)) ≡ l.var ∷ []
    by_sign true = search the_lemmas
    by_sign false = search the_lemmas

-- one list of variables more
pushed : (old new x rest whole : List ℕ) → new ≡ old ++ x → (old ++ (x ++ rest)) ≡ whole → (new ++ rest) ≡ whole
pushed old new x rest whole e h = ap (λ l. l ++ rest) e ∙ append_assoc old x rest ∙ h

module _ {X : Type 0} (f : X → Ground) (one : X → ℕ) (named : (x : X) → variables (f x) ≡ one x ∷ []) where
  pub next_pushed : (xs : List X) (i : ℕ) (d : X) → i < length xs → (old new whole : List ℕ) → new ≡ old ++ (one (get_or xs i d) ∷ []) →
      (old ++ joined (map variables (map f (drop i xs)))) ≡ whole → (new ++ joined (map variables (map f (drop (i + 1) xs)))) ≡ whole
  next_pushed xs i d lt old new whole e h =
      let here : drop i xs ≡ get_or xs i d ∷ drop (i + 1) xs = drop-cons xs i d lt ∙ ap (λ n. get_or xs i d ∷ drop n xs) (sym (add-one i)) in
      pushed old new (variables (f (get_or xs i d))) (joined (map variables (map f (drop (i + 1) xs)))) whole (e ∙ ap (λ x. old ++ x) (sym (named (get_or xs i d)))) (ap (λ ys. old ++ joined (map variables (map f ys))) (sym here) ∙ h)

-- ---- the variables of a primitive

pub equal_names : (t : Ground) (v : ℕ) → variables (g.Eq t (g.Var v)) ≡ variables t ++ v ∷ []
equal_names t v = search the_lemmas

pub sum_names : (gs : List Ground) → variables (g.Sum gs) ≡ joined (map variables gs)
sum_names gs = search the_lemmas

pub joined_number : (gs : List Ground) (n : ℤ) → joined (map variables (gs ++ g.Num n ∷ [])) ≡ joined (map variables gs)
joined_number [] n = ap (λ x. x ++ []) (number_names n)
joined_number (t ∷ gs) n = ap (λ x. variables t ++ x) (joined_number gs n)

-- ---- by kinds

pub of_sum : (ts : List Term) (n : ℤ) (v : ℕ) → joined (map variables (term_trees ts)) ++ v ∷ [] ≡ variables (g.Eq (g.Sum (term_trees ts ++ g.Num n ∷ [])) (g.Var v))
of_sum ts n v = sym (equal_names (g.Sum (term_trees ts ++ g.Num n ∷ [])) v ∙ ap (λ l. l ++ v ∷ []) (sum_names (term_trees ts ++ g.Num n ∷ []) ∙ joined_number (term_trees ts) n))
