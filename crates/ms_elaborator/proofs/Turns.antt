-- One turn of the loops over the parts of a node.
use Rattle.std.proofs.Common.{◌≡◌, ℕ, suc, ◌+◌, ◌<◌, List, [], ◌∷◌, ◌++◌, map, Option, Some, length, take, drop, get_or, refl, ap, sym, ◌∙◌, append_assoc, add-one, rules}
use Rattle.std.proofs.Math.Seq.{drop-cons, take-suc}
use Rattle.ms_syntax.specs.declared.tree.Declaration.{Declaration}
use Rattle.ms_syntax.specs.declared.tree.Arm.{Arm}
use Rattle.ms_syntax.specs.declared.tree.Expr.{Expr}
use Rattle.ms_syntax.specs.declared.tree.Generator.{Generator}
use Rattle.ms_syntax.specs.declared.tree.Index.{Index, the_lemmas}
use Rattle.ms_syntax.specs.declared.tree.Index.TheVariants as v
use Rattle.ms_syntax.specs.declared.tree.Link.{Link}
use Rattle.ms_syntax.specs.Tree.{arm_view, arms_of, declaration_view, decls_view, ex_view, generator_view, gens_view, index_view, indices_view, link_view, links_view}
use Rattle.ms_syntax.specs.Tree as x
use Rattle.ms_typing.specs.declared.types.ExprType.{ExprType}
use Rattle.ms_typing.specs.declared.types.Surroundings.{Surroundings}
use Rattle.ms_typing.specs.Least.{Typing, and_then, fault, has}
use Rattle.ms_typing.specs.Meaning.{Names, World}
use Rattle.ms_typing.specs.Term.{with_gens, with_local, with_locals, with_names}
use Rattle.ms_nodes.specs.declared.parts.Choice.{Choice}
use Rattle.ms_nodes.specs.declared.parts.Elaborated.{Elaborated}
use Rattle.ms_nodes.specs.declared.parts.Operand.{Operand}
use Rattle.ms_nodes.specs.declared.parts.Source.{Source}
use Rattle.ms_nodes.specs.Parts.{kinds_maybe}
use Rattle.ms_elaborator.specs.Elaborate.{elab, elab_arm, elab_arms, elab_indices, elab_joined, elab_links, elab_local, elab_locals, elab_maybe, elab_operand, elab_operands, elab_sets, elab_source, operand_of, source_of}

takes : {A : Type 0} → (xs : List A) (i : ℕ) (x : A) → i < length xs → x ≡ get_or xs i x → take (i + 1) xs ≡ take i xs ++ (x ∷ [])
takes xs i x h e = ap (λ (k : ℕ). take k xs) (add-one i) ∙ take-suc xs i x h ∙ ap (λ y. take i xs ++ (y ∷ [])) (sym e)

drops : {A : Type 0} → (xs : List A) (i : ℕ) (x : A) → i < length xs → x ≡ get_or xs i x → drop i xs ≡ x ∷ drop (i + 1) xs
drops xs i x h e = drop-cons xs i x h ∙ ap (λ y. y ∷ drop (suc i) xs) (sym e) ∙ ap (λ (k : ℕ). x ∷ drop k xs) (sym (add-one i))

grown : {A : Type 0} → (r : Typing (List A)) (found : List A) (a : A)
    → and_then (and_then r (λ (as' : List A). has (a ∷ as'))) (λ (as' : List A). has (found ++ as')) ≡ and_then r (λ (as' : List A). has ((found ++ (a ∷ [])) ++ as'))
grown (has as') found a = ap (λ bs. has bs) (sym (append_assoc found (a ∷ []) as'))
grown (fault c p) found a = refl

-- what is found before the rest, beside what decides about the next
abbrev beside : {A B : Type 0} → List A → B × List A → B × List A
beside found q = (q.0, found ++ q.1)

abbrev together : {A B : Type 0} → B → List A → B × List A
together b as' = (b, as')

grown_beside : {A B : Type 0} → (r : Typing (B × List A)) (found : List A) (a : A)
    → and_then (and_then r (λ (q : B × List A). has (beside (a ∷ []) q))) (λ (q : B × List A). has (beside found q)) ≡ and_then r (λ (q : B × List A). has (beside (found ++ (a ∷ [])) q))
grown_beside {A} {B} (has q) found a = ap (λ (bs : List A). has (together q.0 bs)) (sym (append_assoc found (a ∷ []) q.1))
grown_beside (fault c p) found a = refl

-- nothing more
unchanged : {A : Type 0} → (r : Typing (List A)) → and_then r (λ (as' : List A). has ([] ++ as')) ≡ r
unchanged (has as') = refl
unchanged (fault c p) = refl

-- one more, made of what is there
made_more : {A B : Type 0} → (r : Typing A) (f : A → B) (q : Typing (List B))
    → and_then r (λ (a : A). and_then q (λ (bs : List B). has (f a ∷ bs))) ≡ and_then (and_then r (λ (a : A). has (f a))) (λ (b : B). and_then q (λ (bs : List B). has (b ∷ bs)))
made_more (has a) f q = refl
made_more (fault c p) f q = refl

locals_last : (ds : List Declaration) (d : Declaration) (ns : Names) → with_locals (decls_view (ds ++ (d ∷ []))) ns ≡ with_local (declaration_view d) (with_locals (decls_view ds) ns)
locals_last [] d ns = refl
locals_last (e ∷ ds) d ns = locals_last ds d (with_local (declaration_view e) ns)

gens_last : (gs : List Generator) (g : Generator) (ns : Names) → with_gens (gens_view (gs ++ (g ∷ []))) ns ≡ with_names (generator_view g).0 (with_gens (gens_view gs) ns)
gens_last [] g ns = refl
gens_last (f ∷ gs) g ns = gens_last gs g (with_names (generator_view f).0 ns)

module _ (world : World) (s : Surroundings) (ns : Names) where
  pub locals_turn : (ds : List Declaration) (i : ℕ) (d : Declaration) (found : List Elaborated) (m : Elaborated) → i < length ds → d ≡ get_or ds i d
      → elab_local world s (with_locals (decls_view (take i ds)) ns) (declaration_view d) ≡ has m
      → and_then (elab_locals world s (with_locals (decls_view (take i ds)) ns) (decls_view (drop i ds))) (λ (ms : List Elaborated). has (found ++ ms))
      ≡ and_then (elab_locals world s (with_locals (decls_view (take (i + 1) ds)) ns) (decls_view (drop (i + 1) ds))) (λ (ms : List Elaborated). has ((found ++ (m ∷ [])) ++ ms))
  locals_turn ds i d found m h e f =
      let rest = λ (ms : Names). elab_locals world s ms (decls_view (drop (i + 1) ds)) in
      let inner = with_local (declaration_view d) (with_locals (decls_view (take i ds)) ns) in
      ap (λ (es : List Declaration). and_then (elab_locals world s (with_locals (decls_view (take i ds)) ns) (decls_view es)) (λ (ms : List Elaborated). has (found ++ ms))) (drops ds i d h e)
      ∙ ap (λ (r : Typing Elaborated). and_then (and_then r (λ (k : Elaborated). and_then (rest inner) (λ (ms : List Elaborated). has (k ∷ ms)))) (λ (ms : List Elaborated). has (found ++ ms))) f
      ∙ grown (rest inner) found m
      ∙ ap (λ (names : Names). and_then (rest names) (λ (ms : List Elaborated). has ((found ++ (m ∷ [])) ++ ms)))
      (sym (ap (λ (es : List Declaration). with_locals (decls_view es) ns) (takes ds i d h e) ∙ locals_last (take i ds) d ns))

  pub sets_turn : (gs : List Generator) (i : ℕ) (g : Generator) (found : List Source) (m : Source) → i < length gs → g ≡ get_or gs i g
      → elab_source world s (with_gens (gens_view (take i gs)) ns) (generator_view g) ≡ has m
      → and_then (elab_sets world s (with_gens (gens_view (take i gs)) ns) (gens_view (drop i gs))) (λ (ms : List Source). has (found ++ ms))
      ≡ and_then (elab_sets world s (with_gens (gens_view (take (i + 1) gs)) ns) (gens_view (drop (i + 1) gs))) (λ (ms : List Source). has ((found ++ (m ∷ [])) ++ ms))
  sets_turn gs i g found m h e f =
      let outer = with_gens (gens_view (take i gs)) ns in
      let rest = λ (ms : Names). elab_sets world s ms (gens_view (drop (i + 1) gs)) in
      let inner = with_names (generator_view g).0 outer in
      ap (λ (es : List Generator). and_then (elab_sets world s outer (gens_view es)) (λ (ms : List Source). has (found ++ ms))) (drops gs i g h e)
      ∙ ap (λ (r : Typing (List Source)). and_then r (λ (ms : List Source). has (found ++ ms)))
      (made_more (elab world s outer (generator_view g).1) (λ (k : Elaborated). source_of (generator_view g).0 k) (rest inner))
      ∙ ap (λ (r : Typing Source). and_then (and_then r (λ (k : Source). and_then (rest inner) (λ (ms : List Source). has (k ∷ ms)))) (λ (ms : List Source). has (found ++ ms))) f
      ∙ grown (rest inner) found m
      ∙ ap (λ (names : Names). and_then (rest names) (λ (ms : List Source). has ((found ++ (m ∷ [])) ++ ms)))
      (sym (ap (λ (es : List Generator). with_gens (gens_view es) ns) (takes gs i g h e) ∙ gens_last (take i gs) g ns))

  pub arms_turn : (xs : List Arm) (i : ℕ) (a : Arm) (found : List Choice) (m : Choice) → i < length xs → a ≡ get_or xs i a
      → elab_arm world s ns (arm_view a).0 (arm_view a).1 ≡ has m
      → and_then (elab_arms world s ns (arms_of (map arm_view (drop i xs)))) (λ (ms : List Choice). has (found ++ ms))
      ≡ and_then (elab_arms world s ns (arms_of (map arm_view (drop (i + 1) xs)))) (λ (ms : List Choice). has ((found ++ (m ∷ [])) ++ ms))
  arms_turn xs i a found m h e f =
      let rest = elab_arms world s ns (arms_of (map arm_view (drop (i + 1) xs))) in
      ap (λ (ys : List Arm). and_then (elab_arms world s ns (arms_of (map arm_view ys))) (λ (ms : List Choice). has (found ++ ms))) (drops xs i a h e)
      ∙ ap (λ (r : Typing Choice). and_then (and_then r (λ (k : Choice). and_then rest (λ (ms : List Choice). has (k ∷ ms)))) (λ (ms : List Choice). has (found ++ ms))) f
      ∙ grown rest found m

  pub links_turn : (xs : List Link) (i : ℕ) (l : Link) (found : List Operand) (t u : ExprType) (o : Operand) → i < length xs → l ≡ get_or xs i l
      → elab_joined world s ns t (link_view l) ≡ has (u, o)
      → and_then (elab_links world s ns t (links_view (drop i xs))) (λ (q : ExprType × List Operand). has (beside found q))
      ≡ and_then (elab_links world s ns u (links_view (drop (i + 1) xs))) (λ (q : ExprType × List Operand). has (beside (found ++ (o ∷ [])) q))
  links_turn xs i l found t u o h e f =
      let rest = λ (v : ExprType). elab_links world s ns v (links_view (drop (i + 1) xs)) in
      ap (λ (ys : List Link). and_then (elab_links world s ns t (links_view ys)) (λ (q : ExprType × List Operand). has (beside found q))) (drops xs i l h e)
      ∙ ap (λ (r : Typing (ExprType × Operand)). and_then (and_then r (λ (k : ExprType × Operand). and_then (rest k.0) (λ (q : ExprType × List Operand). has (beside (k.1 ∷ []) q))))
      (λ (q : ExprType × List Operand). has (beside found q))) f
      ∙ grown_beside (rest u) found o

  pub operands_turn : (xs : List Link) (i : ℕ) (l : Link) (found : List Operand) (o : Operand) → i < length xs → l ≡ get_or xs i l
      → elab_operand world s ns (link_view l) ≡ has o
      → and_then (elab_operands world s ns (links_view (drop i xs))) (λ (os : List Operand). has (found ++ os))
      ≡ and_then (elab_operands world s ns (links_view (drop (i + 1) xs))) (λ (os : List Operand). has ((found ++ (o ∷ [])) ++ os))
  operands_turn xs i l found o h e f =
      let rest = elab_operands world s ns (links_view (drop (i + 1) xs)) in
      ap (λ (ys : List Link). and_then (elab_operands world s ns (links_view ys)) (λ (os : List Operand). has (found ++ os))) (drops xs i l h e)
      ∙ ap (λ (r : Typing (List Operand)). and_then r (λ (os : List Operand). has (found ++ os)))
      (made_more (elab world s ns (link_view l).2) (λ (m : Elaborated). operand_of (link_view l).0 (link_view l).1 m) rest)
      ∙ ap (λ (r : Typing Operand). and_then (and_then r (λ (k : Operand). and_then rest (λ (os : List Operand). has (k ∷ os)))) (λ (os : List Operand). has (found ++ os))) f
      ∙ grown rest found o

  -- the types of the set that an index names
  abbrev index_types : x.Maybe → Typing (List ExprType)
  index_types o = and_then (elab_maybe world s ns o) (λ (m : Option Elaborated). has (kinds_maybe m))

  index_turn : (xs : List Index) (i : ℕ) (a : Index) (found more : List ExprType) → i < length xs → a ≡ get_or xs i a → index_types (index_view a) ≡ has more
      → and_then (elab_indices world s ns (indices_view (drop i xs))) (λ (ts : List ExprType). has (found ++ ts))
      ≡ and_then (and_then (elab_indices world s ns (indices_view (drop (i + 1) xs))) (λ (ts : List ExprType). has (more ++ ts))) (λ (ts : List ExprType). has (found ++ ts))
  index_turn xs i a found more h e f =
      let rest = elab_indices world s ns (indices_view (drop (i + 1) xs)) in
      ap (λ (ys : List Index). and_then (elab_indices world s ns (indices_view ys)) (λ (ts : List ExprType). has (found ++ ts))) (drops xs i a h e)
      ∙ ap (λ (r : Typing (List ExprType)). and_then (and_then r (λ (us : List ExprType). and_then rest (λ (ts : List ExprType). has (us ++ ts)))) (λ (ts : List ExprType). has (found ++ ts))) f

  absent_index : (a : Index) → a ≡ v.AnyInt → index_view a ≡ x.absent
  absent_index a h = search (rules, the_lemmas)

  present_index : (a : Index) (e : Expr) → a ≡ v.Over e → index_view a ≡ x.present (ex_view e)
  present_index a e h = search (rules, the_lemmas)

  pub no_index_turn : (xs : List Index) (i : ℕ) (a : Index) (found : List ExprType) → i < length xs → a ≡ get_or xs i a → a ≡ v.AnyInt
      → and_then (elab_indices world s ns (indices_view (drop i xs))) (λ (ts : List ExprType). has (found ++ ts))
      ≡ and_then (elab_indices world s ns (indices_view (drop (i + 1) xs))) (λ (ts : List ExprType). has (found ++ ts))
  no_index_turn xs i a found h e k =
      let rest = elab_indices world s ns (indices_view (drop (i + 1) xs)) in
      index_turn xs i a found [] h e (ap (λ o. index_types o) (absent_index a k))
      ∙ ap (λ (r : Typing (List ExprType)). and_then r (λ (ts : List ExprType). has (found ++ ts))) (unchanged rest)

  pub one_index_turn : (xs : List Index) (i : ℕ) (a : Index) (found : List ExprType) (b : Expr) (m : Elaborated) → i < length xs → a ≡ get_or xs i a → a ≡ v.Over b
      → elab world s ns (ex_view b) ≡ has m
      → and_then (elab_indices world s ns (indices_view (drop i xs))) (λ (ts : List ExprType). has (found ++ ts))
      ≡ and_then (elab_indices world s ns (indices_view (drop (i + 1) xs))) (λ (ts : List ExprType). has ((found ++ (m.kind ∷ [])) ++ ts))
  one_index_turn xs i a found b m h e k f =
      let rest = elab_indices world s ns (indices_view (drop (i + 1) xs)) in
      index_turn xs i a found (m.kind ∷ []) h e (ap (λ o. index_types o) (present_index a b k)
      ∙ ap (λ (r : Typing Elaborated). and_then (and_then r (λ (j : Elaborated). has (Some j))) (λ (o : Option Elaborated). has (kinds_maybe o))) f)
      ∙ grown rest found m.kind
