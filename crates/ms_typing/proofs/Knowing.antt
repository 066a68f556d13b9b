-- A body that is typed in a model is typed where everything is known.
use Rattle.std.proofs.Common.{◌≡◌, Bool, true, false, List, [], ◌∷◌, ◌++◌, Option, Some, None, map, refl, sym, ap}
use Rattle.std.specs.Prelude.{if◌then◌else◌, ◌||◌, ◌==◌}
use Rattle.ms_syntax.specs.declared.token.Place.{Place}
use Rattle.ms_syntax.specs.Tree.{Arms, Bs, Decl, Decls, Ex, Exs, Gens, Indices, Kd, Links, Maybe, Rows, Subscripts, of_concat}
use Rattle.ms_syntax.specs.Tree as x
use Rattle.ms_typing.specs.declared.types.ExprType.{ExprType}
use Rattle.ms_typing.specs.declared.types.ExprType.TheVariants.{Plain, Text, Set, Search}
use Rattle.ms_typing.specs.declared.types.Surroundings.TheVariants as s
use Rattle.ms_built_ins.specs.BuiltIns.{Needs, anywhere, a_search, an_output, makes_array, needs_around}
use Rattle.ms_typing.specs.Conversion.{as_known}
use Rattle.ms_typing.specs.Kinds.{index_sets, kind_sets, stands_local, type_of_kind, value_set}
use Rattle.ms_typing.specs.Meaning.{Meaning, Names, Told, World, look, may_stand, meets_needs, seen, seen_meaning, tell}
use Rattle.ms_typing.specs.Meaning as m
use Rattle.ms_typing.specs.Term.{Form, Term, Terms, access_term, are_even, arms_terms, base_terms, condition_types, exs_terms, generator_types, gens_sets, gens_terms, index_terms, is_one_name, kind_terms, left_term, local_term, local_terms, local_types, maybe_terms, no_terms, node, one_term, right_term, rows_terms, term, term_of, then_terms, two_terms, value_types, with_gens, with_local, with_locals, with_names}
use Rattle.ms_typing.specs.Term as f
use Rattle.ms_typing.specs.HasType.{HasType, HaveTypes}
use Rattle.ms_typing.specs.HasType as h
use Rattle.ms_typing.specs.Judged.{TypedWhereKnown}
use Rattle.ms_typing.proofs.Converting.{known_kept}
use Rattle.ms_typing.proofs.Judging.{have_along}
use Rattle.ms_typing.proofs.KnownRows.{known_form, known_row, known_told}

abbrev mutual
  known_term : Term → Term
  known_term (node p g xs) = node p (known_form g) (known_terms xs)

  known_terms : Terms → Terms
  known_terms no_terms = no_terms
  known_terms (term t ts) = term (known_term t) (known_terms ts)

mutual
  typed_known : {e : Term} {t : ExprType} → HasType e t → HasType (known_term e) (as_known t)
  typed_known (h.row hs r) = let k = known_row r in h.converts (h.row (have_along (have_known hs) k.convert) k.is_row) k.below
  typed_known (h.converts k c) = h.converts (typed_known k) (known_kept c)

  have_known : {xs : Terms} {us : List ExprType} → HaveTypes xs us → HaveTypes (known_terms xs) (map as_known us)
  have_known h.none = h.none
  have_known (h.more k ks) = h.more (typed_known k) (have_known ks)

-- ---- names

seen_in_model : (ts : List ExprType) → map (seen s.Model) ts ≡ ts
seen_in_model [] = refl
seen_in_model (t ∷ ts) = ap (λ (us : List ExprType). t ∷ us) (seen_in_model ts)

function_known : (ts : List ExprType) (t : ExprType) → m.means (m.function (map as_known ts) (as_known t)) ≡ known_told (m.means (m.function (map (seen s.Model) ts) t))
function_known ts t = rw (seen_in_model ts) refl

needs_alike : (n : Needs) → meets_needs s.Called n ≡ meets_needs s.Model n
needs_alike anywhere = refl
needs_alike a_search = refl
needs_alike an_output = refl

built_in_known : (b : Bool) (w : Meaning) → known_told (m.means w) ≡ m.means w → (if b then m.means w else m.barred w) ≡ known_told (if b then m.means w else m.barred w)
built_in_known true w e = sym e
built_in_known false w e = refl

told_known : (o : Option Meaning) → tell s.Called o ≡ known_told (tell s.Model o)
told_known None = refl
told_known (Some (m.value t)) = refl
told_known (Some (m.function ts (Plain c q k))) = function_known ts (Plain c q k)
told_known (Some (m.function ts (Text q))) = function_known ts (Text q)
told_known (Some (m.function ts Set)) = function_known ts Set
told_known (Some (m.function ts Search)) = refl
told_known (Some (m.built_in w)) = rw (needs_alike (needs_around w)) (built_in_known (meets_needs s.Model (needs_around w) || makes_array w) (m.built_in w) refl)

-- ---- what parts are asked for

sets_known : (gs : Gens) (us vs : List ExprType) → us ≡ map as_known vs → (gens_sets gs ++ us) ≡ map as_known (gens_sets gs ++ vs)
sets_known x.no_gens us vs e = e
sets_known (x.gen bs d gs) us vs e = ap (λ (ts : List ExprType). Set ∷ ts) (sets_known gs us vs e)

condition_known : (c : Maybe) → condition_types c ≡ map as_known (condition_types c)
condition_known x.absent = refl
condition_known (x.present e) = refl

generators_known : (gs : Gens) (c : Maybe) → generator_types gs c ≡ map as_known (generator_types gs c)
generators_known gs c = sets_known gs (condition_types c) (condition_types c) (condition_known c)

locals_known : (ds : Decls) → local_types s.Called ds ≡ map as_known (local_types s.Model ds)
locals_known x.no_decls = refl
locals_known (x.decl (x.declare p k w notes v) ds) = ap (λ (ts : List ExprType). as_known (type_of_kind k) ∷ ts) (locals_known ds)

value_known : (t : ExprType) (v : Maybe) → value_types (as_known t) v ≡ map as_known (value_types t v)
value_known t x.absent = refl
value_known t (x.present e) = refl

base_known : (b : Bs) (us vs : List ExprType) → us ≡ map as_known vs → (value_set b ++ us) ≡ map as_known (value_set b ++ vs)
base_known x.of_bool us vs e = e
base_known x.of_int us vs e = e
base_known x.of_string us vs e = e
base_known x.of_ann us vs e = e
base_known x.set_of_int us vs e = e
base_known (x.set_of d) us vs e = ap (λ (ts : List ExprType). Set ∷ ts) e
base_known (x.of_values d) us vs e = ap (λ (ts : List ExprType). Set ∷ ts) e

indices_known : (is : Indices) (b : Bs) (us vs : List ExprType) → us ≡ map as_known vs → ((index_sets is ++ value_set b) ++ us) ≡ map as_known ((index_sets is ++ value_set b) ++ vs)
indices_known x.no_indices b us vs e = base_known b us vs e
indices_known (x.index x.absent is) b us vs e = indices_known is b us vs e
indices_known (x.index (x.present d) is) b us vs e = ap (λ (ts : List ExprType). Set ∷ ts) (indices_known is b us vs e)

declared_known : (k : Kd) (v : Maybe) → (kind_sets k ++ value_types (as_known (type_of_kind k)) v) ≡ map as_known (kind_sets k ++ value_types (type_of_kind k) v)
declared_known (x.kind is q b) v = let t = type_of_kind (x.kind is q b) in indices_known is b (value_types (as_known t) v) (value_types t v) (value_known t v)

-- ---- nodes

node_at : (p : Place) {g g' : Form} {xs ys : Terms} → g ≡ g' → xs ≡ ys → node p g xs ≡ node p g' ys
node_at p e k = rw (e, k) refl

term_at : {t u : Term} {ts us : Terms} → t ≡ u → ts ≡ us → term t ts ≡ term u us
term_at e k = rw (e, k) refl

then_known : (ts us : Terms) → known_terms (then_terms ts us) ≡ then_terms (known_terms ts) (known_terms us)
then_known no_terms us = refl
then_known (term t ts) us = ap (λ (vs : Terms). term (known_term t) vs) (then_known ts us)

then_at : {ts us : Terms} (vs ws : Terms) → ts ≡ known_terms vs → us ≡ known_terms ws → then_terms ts us ≡ known_terms (then_terms vs ws)
then_at vs ws e k = rw (e, k) (sym (then_known vs ws))

choose_at : (b : Bool) {t u : Term} (v w : Term) → t ≡ known_term v → u ≡ known_term w → (if b then t else u) ≡ known_term (if b then v else w)
choose_at true v w e k = e
choose_at false v w e k = k

generates_at : {w w' : Told} {us vs : List ExprType} → w ≡ w' → us ≡ vs → (one : Bool) → f.generates w us one ≡ f.generates w' vs one
generates_at e k one = rw (e, k) refl

-- ---- terms: those of a body that an output item calls are those of the model, with everything known

module _ (world : World) where
  mutual
    known_of : (ns : Names) (e : Ex) → term_of world s.Called ns e ≡ known_term (term_of world s.Model ns e)
    known_of ns (x.let_in p ds closed e) =
        node_at p (ap f.lets (locals_known ds)) (then_at (local_terms world s.Model ns ds) (one_term (term_of world s.Model (with_locals ds ns) e)) (known_locals ns ds) (term_at (known_of (with_locals ds ns) e) refl))
    known_of ns (x.chain level e links) =
        let first = term_of world s.Model ns e in
        choose_at (level == of_concat) (right_term world s.Model ns first links) (left_term world s.Model ns first links) (known_right ns _ first links (known_of ns e)) (known_left ns _ first links (known_of ns e))
    known_of ns (x.prefix p sign e) = node_at p refl (term_at (known_of ns e) refl)
    known_of ns (x.access p e is) = known_access ns p _ (term_of world s.Model ns e) is (known_of ns e)
    known_of ns (x.number p n) = refl
    known_of ns (x.text p w) = refl
    known_of ns (x.truth p b) = refl
    known_of ns (x.name p w) = node_at p (ap f.stands (told_known (look world p ns w))) refl
    known_of ns (x.call p w es) = node_at p (ap f.calls (told_known (look world p ns w))) (known_exs ns es)
    known_of ns (x.generator_call p w gs c e) =
        let inner = with_gens gs ns in
        node_at p (generates_at (told_known (look world p ns w)) (generators_known gs c) (is_one_name gs c))
        (then_at (gens_terms world s.Model ns gs) (then_terms (maybe_terms world s.Model inner c) (one_term (term_of world s.Model inner e))) (known_gens ns gs)
        (then_at (maybe_terms world s.Model inner c) (one_term (term_of world s.Model inner e)) (known_maybe inner c) (term_at (known_of inner e) refl)))
    known_of ns (x.paren p e) = node_at p refl (term_at (known_of ns e) refl)
    known_of ns (x.array p es) = node_at p refl (known_exs ns es)
    known_of ns (x.comprehension p e gs c) =
        let inner = with_gens gs ns in
        node_at p (ap f.comprehension (generators_known gs c)) (term_at (known_of inner e) (then_at (gens_terms world s.Model ns gs) (maybe_terms world s.Model inner c) (known_gens ns gs) (known_maybe inner c)))
    known_of ns (x.rows p rs) = node_at p refl (known_rows ns rs)
    known_of ns (x.set p es) = node_at p refl (known_exs ns es)
    known_of ns (x.if_else p c b arms e) =
        node_at p refl (term_at (known_of ns c) (term_at (known_of ns b) (then_at (arms_terms world s.Model ns arms) (one_term (term_of world s.Model ns e)) (known_arms ns arms) (term_at (known_of ns e) refl))))

    known_left : (ns : Names) (t u : Term) (links : Links) → t ≡ known_term u → left_term world s.Called ns t links ≡ known_term (left_term world s.Model ns u links)
    known_left ns t u x.no_links e = e
    known_left ns t u (x.link op p d links) e =
        known_left ns _ (node p (f.operation op) (two_terms u (term_of world s.Model ns d))) links (node_at p refl (term_at e (term_at (known_of ns d) refl)))

    known_right : (ns : Names) (t u : Term) (links : Links) → t ≡ known_term u → right_term world s.Called ns t links ≡ known_term (right_term world s.Model ns u links)
    known_right ns t u x.no_links e = e
    known_right ns t u (x.link op p d links) e = node_at p refl (term_at e (term_at (known_right ns _ (term_of world s.Model ns d) links (known_of ns d)) refl))

    known_access : (ns : Names) (p : Place) (t u : Term) (is : Subscripts) → t ≡ known_term u → access_term world s.Called ns p t is ≡ known_term (access_term world s.Model ns p u is)
    known_access ns p t u x.no_subscripts e = e
    known_access ns p t u (x.subscript d other is) e =
        known_access ns p _ (node p f.access (term u (term (term_of world s.Model ns d) (maybe_terms world s.Model ns other)))) is (node_at p refl (term_at e (term_at (known_of ns d) (known_maybe ns other))))

    known_exs : (ns : Names) (es : Exs) → exs_terms world s.Called ns es ≡ known_terms (exs_terms world s.Model ns es)
    known_exs ns x.no_exs = refl
    known_exs ns (x.ex e es) = term_at (known_of ns e) (known_exs ns es)

    known_maybe : (ns : Names) (c : Maybe) → maybe_terms world s.Called ns c ≡ known_terms (maybe_terms world s.Model ns c)
    known_maybe ns x.absent = refl
    known_maybe ns (x.present e) = term_at (known_of ns e) refl

    known_rows : (ns : Names) (rs : Rows) → rows_terms world s.Called ns rs ≡ known_terms (rows_terms world s.Model ns rs)
    known_rows ns x.no_rows = refl
    known_rows ns (x.row es rs) = then_at (exs_terms world s.Model ns es) (rows_terms world s.Model ns rs) (known_exs ns es) (known_rows ns rs)

    known_arms : (ns : Names) (arms : Arms) → arms_terms world s.Called ns arms ≡ known_terms (arms_terms world s.Model ns arms)
    known_arms ns x.no_arms = refl
    known_arms ns (x.arm c b arms) = term_at (known_of ns c) (term_at (known_of ns b) (known_arms ns arms))

    known_gens : (ns : Names) (gs : Gens) → gens_terms world s.Called ns gs ≡ known_terms (gens_terms world s.Model ns gs)
    known_gens ns x.no_gens = refl
    known_gens ns (x.gen bs e gs) = term_at (known_of ns e) (known_gens (with_names bs ns) gs)

    known_locals : (ns : Names) (ds : Decls) → local_terms world s.Called ns ds ≡ known_terms (local_terms world s.Model ns ds)
    known_locals ns x.no_decls = refl
    known_locals ns (x.decl d ds) = term_at (known_local ns d) (known_locals (with_local d ns) ds)

    known_local : (ns : Names) (d : Decl) → local_term world s.Called ns d ≡ known_term (local_term world s.Model ns d)
    known_local ns (x.declare p k w notes v) =
        node_at p (ap (λ (ts : List ExprType). f.declares (stands_local k v) ts (as_known (type_of_kind k))) (declared_known k v)) (then_at (kind_terms world s.Model ns k) (maybe_terms world s.Model ns v) (known_kind ns k) (known_maybe ns v))

    known_kind : (ns : Names) (k : Kd) → kind_terms world s.Called ns k ≡ known_terms (kind_terms world s.Model ns k)
    known_kind ns (x.kind is q b) = then_at (index_terms world s.Model ns is) (base_terms world s.Model ns b) (known_indices ns is) (known_base ns b)

    known_indices : (ns : Names) (is : Indices) → index_terms world s.Called ns is ≡ known_terms (index_terms world s.Model ns is)
    known_indices ns x.no_indices = refl
    known_indices ns (x.index e is) = then_at (maybe_terms world s.Model ns e) (index_terms world s.Model ns is) (known_maybe ns e) (known_indices ns is)

    known_base : (ns : Names) (b : Bs) → base_terms world s.Called ns b ≡ known_terms (base_terms world s.Model ns b)
    known_base ns x.of_bool = refl
    known_base ns x.of_int = refl
    known_base ns x.of_string = refl
    known_base ns x.of_ann = refl
    known_base ns x.set_of_int = refl
    known_base ns (x.set_of e) = term_at (known_of ns e) refl
    known_base ns (x.of_values e) = term_at (known_of ns e) refl

pub typed_where_known : TypedWhereKnown
typed_where_known world ns e t k = rw (known_of world ns e) (typed_known k)
