-- The order in which the code asks for types gives the typing of the term.
use Rattle.std.proofs.Common.{◌≡◌, Bool, true, false, List, [], ◌∷◌, ◌++◌, refl, ap, sym, ◌∙◌, append_assoc, ◌==◌, if◌then◌else◌}
use Rattle.ms_syntax.specs.declared.token.Place.{Place}
use Rattle.ms_syntax.specs.Tree.{Arms, Bs, Decl, Decls, Ex, Exs, Gens, Indices, Kd, Links, Maybe, Rows, Subscripts, of_concat}
use Rattle.ms_syntax.specs.Tree as x
use Rattle.ms_typing.specs.declared.types.ExprType.{ExprType}
use Rattle.ms_typing.specs.declared.types.Surroundings.{Surroundings}
use Rattle.ms_typing.specs.Kinds.{kind_sets, stands_local, type_of_kind}
use Rattle.ms_typing.specs.Least.{Typing, and_then, fault, has, typing, typings}
use Rattle.ms_typing.specs.Meaning.{Names, World, look, seen, tell}
use Rattle.ms_typing.specs.Term.{Form, Term, Terms, access_term, arms_terms, base_terms, declaring, exs_terms, gens_terms, generator_types, index_terms, is_one_name, kind_terms, left_term, local_term, local_terms, local_types, maybe_terms, no_terms, node, one_term, right_term, rows_terms, term, term_of, then_terms, two_terms, value_types, with_gens, with_local, with_locals, with_names}
use Rattle.ms_typing.specs.Term as f
use Rattle.ms_elaborator.specs.Walk.{at_node, joined_right, walk, walk_all, walk_arms, walk_base, walk_indices, walk_kind, walk_links, walk_local, walk_locals, walk_maybe, walk_operands, walk_rows, walk_sets, walk_subscripts}
use Rattle.ms_elaborator.proofs.Chains.{has_then}

-- ---- steps one after the other, and the same as one list of parts

abbrev Types : Type 0
Types = Typing (List ExprType)

abbrev Node : Type 0
Node = List ExprType → Typing ExprType

abbrev single : Typing ExprType → Types
single r = and_then r (λ (t : ExprType). has (t ∷ []))

abbrev before : Typing ExprType → Types → Types
before r q = and_then r (λ (t : ExprType). and_then q (λ (ts : List ExprType). has (t ∷ ts)))

abbrev both : Types → Types → Types
both a b = and_then a (λ (ts : List ExprType). and_then b (λ (us : List ExprType). has (ts ++ us)))

of_one : (a : Typing ExprType) (n : Node) → and_then a (λ (t : ExprType). n (t ∷ [])) ≡ and_then (single a) n
of_one (has t) n = refl
of_one (fault c p) n = refl

of_first : (a : Typing ExprType) (b : Types) (n : Node) → and_then a (λ (t : ExprType). and_then b (λ (ts : List ExprType). n (t ∷ ts))) ≡ and_then (before a b) n
of_first (has t) (has ts) n = refl
of_first (has t) (fault c p) n = refl
of_first (fault c p) b n = refl

of_both : (a b : Types) (n : Node) → and_then a (λ (ts : List ExprType). and_then b (λ (us : List ExprType). n (ts ++ us))) ≡ and_then (both a b) n
of_both (has ts) (has us) n = refl
of_both (has ts) (fault c p) n = refl
of_both (fault c p) b n = refl

of_last : (a : Types) (b : Typing ExprType) (n : Node) → and_then a (λ (ts : List ExprType). and_then b (λ (t : ExprType). n (ts ++ (t ∷ [])))) ≡ and_then (both a (single b)) n
of_last (has ts) (has t) n = refl
of_last (has ts) (fault c p) n = refl
of_last (fault c p) b n = refl

of_sources : (a b : Types) (d : Typing ExprType) (n : Node)
    → and_then (both a b) (λ (ts : List ExprType). and_then d (λ (t : ExprType). n (ts ++ (t ∷ [])))) ≡ and_then (both a (both b (single d))) n
of_sources (has ts) (has us) (has t) n = ap n (append_assoc ts us (t ∷ []))
of_sources (has ts) (has us) (fault c p) n = refl
of_sources (has ts) (fault c p) d n = refl
of_sources (fault c p) b d n = refl

of_choice : (a b : Typing ExprType) (c : Types) (d : Typing ExprType) (n : Node)
    → and_then a (λ (t : ExprType). and_then b (λ (u : ExprType). and_then c (λ (ts : List ExprType). and_then d (λ (v : ExprType). n (t ∷ u ∷ (ts ++ (v ∷ [])))))))
    ≡ and_then (before a (before b (both c (single d)))) n
of_choice (has t) (has u) (has ts) (has v) n = refl
of_choice (has t) (has u) (has ts) (fault c p) n = refl
of_choice (has t) (has u) (fault c p) d n = refl
of_choice (has t) (fault c p) e d n = refl
of_choice (fault c p) b e d n = refl

of_arm : (a b : Typing ExprType) (c : Types) → and_then a (λ (t : ExprType). and_then b (λ (u : ExprType). and_then c (λ (ts : List ExprType). has (t ∷ u ∷ ts)))) ≡ before a (before b c)
of_arm (has t) (has u) (has ts) = refl
of_arm (has t) (has u) (fault c p) = refl
of_arm (has t) (fault c p) e = refl
of_arm (fault c p) b e = refl

of_link : (a b : Typing ExprType) (n : Node) (k : ExprType → Typing ExprType)
    → and_then a (λ (t : ExprType). and_then (and_then b (λ (u : ExprType). n (t ∷ u ∷ []))) k) ≡ and_then (and_then (before a (single b)) n) k
of_link (has t) (has u) n k = refl
of_link (has t) (fault c p) n k = refl
of_link (fault c p) b n k = refl

of_subscript : (a b : Typing ExprType) (c : Types) (n : Node) (k : ExprType → Typing ExprType)
    → and_then a (λ (t : ExprType). and_then (and_then b (λ (u : ExprType). and_then c (λ (us : List ExprType). n (t ∷ u ∷ us)))) k)
    ≡ and_then (and_then (before a (before b c)) n) k
of_subscript (has t) (has u) (has us) n k = refl
of_subscript (has t) (has u) (fault c p) n k = refl
of_subscript (has t) (fault c p) e n k = refl
of_subscript (fault c p) b e n k = refl

of_joined : (t : ExprType) (j : Typing ExprType) (n : Node) → and_then j (λ (v : ExprType). n (t ∷ v ∷ [])) ≡ and_then (before (has t) (single j)) n
of_joined t (has v) n = refl
of_joined t (fault c p) n = refl

of_right : (a b : Typing ExprType) (c : Types) (j : Node) (n : Node)
    → and_then a (λ (t : ExprType). and_then (before b c) (λ (ts : List ExprType). and_then (j ts) (λ (v : ExprType). n (t ∷ v ∷ []))))
    ≡ and_then (before a (single (and_then b (λ (u : ExprType). and_then c (λ (us : List ExprType). j (u ∷ us)))))) n
of_right (has t) (has u) (has us) j n = of_joined t (j (u ∷ us)) n
of_right (has t) (has u) (fault c p) j n = refl
of_right (has t) (fault c p) e j n = refl
of_right (fault c p) b e j n = refl

of_level : (b : Bool) (g h : ExprType → Typing ExprType) (r : Typing ExprType) (y z : Term) → and_then r g ≡ typing y → and_then r h ≡ typing z
    → and_then r (λ (t : ExprType). if b then g t else h t) ≡ typing (if b then y else z)
of_level true g h r y z k l = k
of_level false g h r y z k l = l

-- ---- parts one after the other

then_turn : (r : Typing ExprType) (a b : Types) → before r (both a b) ≡ both (before r a) b
then_turn (has t) (has ts) (has us) = refl
then_turn (has t) (has ts) (fault c p) = refl
then_turn (has t) (fault c p) b = refl
then_turn (fault c p) a b = refl

no_before : (r : Types) → r ≡ both (has []) r
no_before (has ts) = refl
no_before (fault c p) = refl

pub typings_then : (xs ys : Terms) → typings (then_terms xs ys) ≡ both (typings xs) (typings ys)
typings_then no_terms ys = no_before (typings ys)
typings_then (term y xs) ys = ap (λ (q : Types). before (typing y) q) (typings_then xs ys) ∙ then_turn (typing y) (typings xs) (typings ys)

-- ---- the walk

module _ (world : World) (s : Surroundings) where
  mutual
    unfolding at_node

    pub walked : (e : Ex) (ns : Names) → walk world s ns e ≡ typing (term_of world s ns e)
    walked (x.let_in p ds closed e) ns =
        rw (locals_walked ds ns, walked e (with_locals ds ns), typings_then (local_terms world s ns ds) (one_term (term_of world s (with_locals ds ns) e)))
        (of_last (typings (local_terms world s ns ds)) (typing (term_of world s (with_locals ds ns) e)) (at_node p (declaring s (f.lets (local_types s ds)))))
    walked (x.chain level e links) ns =
        rw (walked e ns)
        (of_level (level == of_concat) (λ (t : ExprType). and_then (walk_operands world s ns links) (λ (ts : List ExprType). joined_right (t ∷ ts) links))
        (λ (t : ExprType). walk_links world s ns t links) (typing (term_of world s ns e)) (right_term world s ns (term_of world s ns e) links) (left_term world s ns (term_of world s ns e) links)
        (right_walked links ns (term_of world s ns e)) (left_walked links ns (term_of world s ns e)))
    walked (x.prefix p sign e) ns = rw (walked e ns) (of_one (typing (term_of world s ns e)) (at_node p (f.prefix sign)))
    walked (x.access p e is) ns = rw (walked e ns) (subscripts_walked is ns p (term_of world s ns e))
    walked (x.number p n) ns = refl
    walked (x.text p w) ns = refl
    walked (x.truth p b) ns = refl
    walked (x.name p w) ns = refl
    walked (x.call p w es) ns = rw (all_walked es ns) refl
    walked (x.generator_call p w gs c e) ns =
        rw (
          sets_walked gs ns,
          maybe_walked c (with_gens gs ns),
          walked e (with_gens gs ns),
          typings_then (gens_terms world s ns gs) (then_terms (maybe_terms world s (with_gens gs ns) c) (one_term (term_of world s (with_gens gs ns) e))),
          typings_then (maybe_terms world s (with_gens gs ns) c) (one_term (term_of world s (with_gens gs ns) e)),
        )
        (of_sources (typings (gens_terms world s ns gs)) (typings (maybe_terms world s (with_gens gs ns) c)) (typing (term_of world s (with_gens gs ns) e))
        (at_node p (f.generates (tell s (look world p ns w)) (generator_types gs c) (is_one_name gs c))))
    walked (x.paren p e) ns = rw (walked e ns) (of_one (typing (term_of world s ns e)) (at_node p f.parenthesis))
    walked (x.array p es) ns = rw (all_walked es ns) refl
    walked (x.comprehension p e gs c) ns =
        rw (walked e (with_gens gs ns), sets_walked gs ns, maybe_walked c (with_gens gs ns), typings_then (gens_terms world s ns gs) (maybe_terms world s (with_gens gs ns) c))
        (of_first (typing (term_of world s (with_gens gs ns) e)) (both (typings (gens_terms world s ns gs)) (typings (maybe_terms world s (with_gens gs ns) c)))
        (at_node p (declaring s (f.comprehension (generator_types gs c)))))
    walked (x.rows p rs) ns = rw (rows_walked rs ns) refl
    walked (x.set p es) ns = rw (all_walked es ns) refl
    walked (x.if_else p c b arms e) ns =
        rw (walked c ns, walked b ns, arms_walked arms ns, walked e ns, typings_then (arms_terms world s ns arms) (one_term (term_of world s ns e)))
        (of_choice (typing (term_of world s ns c)) (typing (term_of world s ns b)) (typings (arms_terms world s ns arms)) (typing (term_of world s ns e)) (at_node p f.choice))

    pub all_walked : (es : Exs) (ns : Names) → walk_all world s ns es ≡ typings (exs_terms world s ns es)
    all_walked x.no_exs ns = refl
    all_walked (x.ex e es) ns = rw (walked e ns, all_walked es ns) refl

    left_walked : (links : Links) (ns : Names) (y : Term) → and_then (typing y) (λ (t : ExprType). walk_links world s ns t links) ≡ typing (left_term world s ns y links)
    left_walked x.no_links ns y = has_then (typing y)
    left_walked (x.link op p e links) ns y =
        rw (walked e ns) (of_link (typing y) (typing (term_of world s ns e)) (at_node p (f.operation op)) (λ (v : ExprType). walk_links world s ns v links))
        ∙ left_walked links ns (node p (f.operation op) (two_terms y (term_of world s ns e)))

    right_walked : (links : Links) (ns : Names) (y : Term)
        → and_then (typing y) (λ (t : ExprType). and_then (walk_operands world s ns links) (λ (ts : List ExprType). joined_right (t ∷ ts) links)) ≡ typing (right_term world s ns y links)
    right_walked x.no_links ns y = has_then (typing y)
    right_walked (x.link op p e links) ns y =
        rw (walked e ns, ← right_walked links ns (term_of world s ns e))
        (of_right (typing y) (typing (term_of world s ns e)) (walk_operands world s ns links) (λ (ts : List ExprType). joined_right ts links) (at_node p (f.operation op)))

    subscripts_walked : (is : Subscripts) (ns : Names) (p : Place) (y : Term) → and_then (typing y) (λ (t : ExprType). walk_subscripts world s ns p t is) ≡ typing (access_term world s ns p y is)
    subscripts_walked x.no_subscripts ns p y = has_then (typing y)
    subscripts_walked (x.subscript e other is) ns p y =
        rw (walked e ns, maybe_walked other ns)
        (of_subscript (typing y) (typing (term_of world s ns e)) (typings (maybe_terms world s ns other)) (at_node p f.access) (λ (v : ExprType). walk_subscripts world s ns p v is))
        ∙ subscripts_walked is ns p (node p f.access (term y (term (term_of world s ns e) (maybe_terms world s ns other))))

    maybe_walked : (m : Maybe) (ns : Names) → walk_maybe world s ns m ≡ typings (maybe_terms world s ns m)
    maybe_walked x.absent ns = refl
    maybe_walked (x.present e) ns = rw (walked e ns) refl

    rows_walked : (rs : Rows) (ns : Names) → walk_rows world s ns rs ≡ typings (rows_terms world s ns rs)
    rows_walked x.no_rows ns = refl
    rows_walked (x.row es rs) ns = rw (all_walked es ns, rows_walked rs ns) (sym (typings_then (exs_terms world s ns es) (rows_terms world s ns rs)))

    arms_walked : (arms : Arms) (ns : Names) → walk_arms world s ns arms ≡ typings (arms_terms world s ns arms)
    arms_walked x.no_arms ns = refl
    arms_walked (x.arm c b arms) ns =
        rw (walked c ns, walked b ns, arms_walked arms ns) (of_arm (typing (term_of world s ns c)) (typing (term_of world s ns b)) (typings (arms_terms world s ns arms)))

    sets_walked : (gs : Gens) (ns : Names) → walk_sets world s ns gs ≡ typings (gens_terms world s ns gs)
    sets_walked x.no_gens ns = refl
    sets_walked (x.gen bs e gs) ns = rw (walked e ns, sets_walked gs (with_names bs ns)) refl

    locals_walked : (ds : Decls) (ns : Names) → walk_locals world s ns ds ≡ typings (local_terms world s ns ds)
    locals_walked x.no_decls ns = refl
    locals_walked (x.decl d ds) ns = rw (local_walked d ns, locals_walked ds (with_local d ns)) refl

    local_walked : (d : Decl) (ns : Names) → walk_local world s ns d ≡ typing (local_term world s ns d)
    local_walked (x.declare p k w notes v) ns =
        rw (kind_walked k ns, maybe_walked v ns, typings_then (kind_terms world s ns k) (maybe_terms world s ns v))
        (of_both (typings (kind_terms world s ns k)) (typings (maybe_terms world s ns v))
        (at_node p (f.declares (stands_local k v) (kind_sets k ++ value_types (seen s (type_of_kind k)) v) (seen s (type_of_kind k)))))

    pub kind_walked : (k : Kd) (ns : Names) → walk_kind world s ns k ≡ typings (kind_terms world s ns k)
    kind_walked (x.kind is m base) ns = rw (indices_walked is ns, base_walked base ns) (sym (typings_then (index_terms world s ns is) (base_terms world s ns base)))

    indices_walked : (is : Indices) (ns : Names) → walk_indices world s ns is ≡ typings (index_terms world s ns is)
    indices_walked x.no_indices ns = refl
    indices_walked (x.index e is) ns = rw (maybe_walked e ns, indices_walked is ns) (sym (typings_then (maybe_terms world s ns e) (index_terms world s ns is)))

    base_walked : (base : Bs) (ns : Names) → walk_base world s ns base ≡ typings (base_terms world s ns base)
    base_walked x.of_bool ns = refl
    base_walked x.of_int ns = refl
    base_walked x.of_string ns = refl
    base_walked x.of_ann ns = refl
    base_walked x.set_of_int ns = refl
    base_walked (x.set_of e) ns = rw (walked e ns) refl
    base_walked (x.of_values e) ns = rw (walked e ns) refl
