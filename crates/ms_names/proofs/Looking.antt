-- Looking for a name in a list of names, one part of it after the other.
use Rattle.std.proofs.Common.{◌≡◌, ℕ, suc, List, [], ◌∷◌, ◌++◌, refl, ap, sym, ◌∙◌, append_assoc, Bool, true, false, if◌then◌else◌, rules}
use Rattle.std.specs.Str.{bytes_eq}
use Rattle.ms_syntax.specs.declared.tree.Binder.{Binder}
use Rattle.ms_syntax.specs.declared.tree.Declaration.{Declaration, out-Declaration, the_lemmas}
use Rattle.ms_syntax.specs.declared.tree.Generator.{Generator}
use Rattle.ms_syntax.specs.declared.tree.Parameter.{Parameter}
use Rattle.ms_syntax.specs.Tree.{Decls, Gens, Params, declaration_view, decls_view, generator_view, gens_view, kind_view, names_view, parameter_view, params_view}
use Rattle.ms_syntax.specs.Tree as x
use Rattle.ms_typing.specs.Items.{with_params}
use Rattle.ms_typing.specs.Kinds.{type_of_kind}
use Rattle.ms_typing.specs.Meaning.{Names}
use Rattle.ms_typing.specs.Conversion.{numbers}
use Rattle.ms_typing.specs.Term.{with_gens, with_local, with_locals, with_names}
use Rattle.ms_names.specs.declared.scope.Looked.{Looked}
use Rattle.ms_names.specs.declared.scope.Looked.TheVariants.{Found, Passed}
use Rattle.ms_names.specs.Looked.{looked}

abbrev pub then_looked : Looked → (ℕ → Looked) → Looked
then_looked (Found k t) f = Found k t
then_looked (Passed k) f = f k

pub looked_append : (k : ℕ) (xs ys : Names) (w : List ℕ) → looked k (xs ++ ys) w ≡ then_looked (looked k xs w) (λ j. looked j ys w)
looked_append k [] ys w = refl
looked_append k (x ∷ xs) ys w =
    elim (bytes_eq x.0 w) as (λ b. (if b then Found k x.1 else looked (suc k) (xs ++ ys) w) ≡ then_looked (if b then Found k x.1 else looked (suc k) xs w) (λ j. looked j ys w))
    [ true ↦ refl | false ↦ looked_append (suc k) xs ys w ]

-- ---- names inside stand before those outside

pub locals_inside : (ds : Decls) (ns : Names) → with_locals ds ns ≡ with_locals ds [] ++ ns
locals_inside x.no_decls ns = refl
locals_inside (x.decl (x.declare p k w notes v) ds) ns =
    locals_inside ds ((w, type_of_kind k) ∷ ns) ∙ sym (ap (λ ms. ms ++ ns) (locals_inside ds ((w, type_of_kind k) ∷ [])) ∙ append_assoc (with_locals ds []) ((w, type_of_kind k) ∷ []) ns)

pub parameters_inside : (ps : Params) (ns : Names) → with_params ps ns ≡ with_params ps [] ++ ns
parameters_inside [] ns = refl
parameters_inside (q ∷ qs) ns =
    parameters_inside qs ((q.2, type_of_kind q.1) ∷ ns) ∙ sym (ap (λ ms. ms ++ ns) (parameters_inside qs ((q.2, type_of_kind q.1) ∷ [])) ∙ append_assoc (with_params qs []) ((q.2, type_of_kind q.1) ∷ []) ns)

pub binders_inside : (bs : x.Names) (ns : Names) → with_names bs ns ≡ with_names bs [] ++ ns
binders_inside [] ns = refl
binders_inside (b ∷ bs) ns =
    binders_inside bs ((b.1, numbers true) ∷ ns) ∙ sym (ap (λ ms. ms ++ ns) (binders_inside bs ((b.1, numbers true) ∷ [])) ∙ append_assoc (with_names bs []) ((b.1, numbers true) ∷ []) ns)

pub generators_inside : (gs : Gens) (ns : Names) → with_gens gs ns ≡ with_gens gs [] ++ ns
generators_inside x.no_gens ns = refl
generators_inside (x.gen bs e gs) ns =
    generators_inside gs (with_names bs ns) ∙ ap (λ ms. with_gens gs [] ++ ms) (binders_inside bs ns)
    ∙ sym (ap (λ ms. ms ++ ns) (generators_inside gs (with_names bs [])) ∙ append_assoc (with_gens gs []) (with_names bs []) ns)

-- ---- the last is the first to be seen

pub locals_last : (ds : List Declaration) (d : Declaration) (ns : Names) → with_locals (decls_view (ds ++ (d ∷ []))) ns ≡ with_local (declaration_view d) (with_locals (decls_view ds) ns)
locals_last [] d ns = refl
locals_last (e ∷ ds) d ns = locals_last ds d (with_local (declaration_view e) ns)

pub parameters_last : (ps : List Parameter) (p : Parameter) (ns : Names) → with_params (params_view (ps ++ (p ∷ []))) ns ≡ ((parameter_view p).2, type_of_kind (parameter_view p).1) ∷ with_params (params_view ps) ns
parameters_last [] p ns = refl
parameters_last (q ∷ ps) p ns = parameters_last ps p (((parameter_view q).2, type_of_kind (parameter_view q).1) ∷ ns)

pub binders_last : (bs : List Binder) (b : Binder) (ns : Names) → with_names (names_view (bs ++ (b ∷ []))) ns ≡ (b.name, numbers true) ∷ with_names (names_view bs) ns
binders_last [] b ns = refl
binders_last (c ∷ bs) b ns = binders_last bs b ((c.name, numbers true) ∷ ns)

pub generators_last : (gs : List Generator) (g : Generator) (ns : Names) → with_gens (gens_view (gs ++ (g ∷ []))) ns ≡ with_names (generator_view g).0 (with_gens (gens_view gs) ns)
generators_last [] g ns = refl
generators_last (h ∷ gs) g ns = generators_last gs g (with_names (generator_view h).0 ns)

-- ---- one step from the last

generator_names : (g : Generator) → (generator_view g).0 ≡ names_view g.names
generator_names g = search (rules, the_lemmas)

-- the first is the one, or is not
abbrev pub tested : Bool → Looked → Looked → Looked
tested b found other = if b then found else other

local_declares : (d : Declaration) (ns : Names) → with_local (declaration_view d) ns ≡ ((out-Declaration d).name, type_of_kind (kind_view (out-Declaration d).kind)) ∷ ns
local_declares d ns = search (rules, the_lemmas)

pub step_locals : (k : ℕ) (ds rest : List Declaration) (d : Declaration) (w : List ℕ) → rest ≡ ds ++ (d ∷ [])
    → looked k (with_locals (decls_view rest) []) w
    ≡ tested (bytes_eq (out-Declaration d).name w) (Found k (type_of_kind (kind_view (out-Declaration d).kind))) (looked (suc k) (with_locals (decls_view ds) []) w)
step_locals k ds rest d w h = ap (λ r. looked k (with_locals (decls_view r) []) w) h ∙ ap (λ ns. looked k ns w) (locals_last ds d [] ∙ local_declares d (with_locals (decls_view ds) []))

pub step_parameters : (k : ℕ) (ps rest : List Parameter) (p : Parameter) (w : List ℕ) → rest ≡ ps ++ (p ∷ [])
    → looked k (with_params (params_view rest) []) w ≡ tested (bytes_eq p.name w) (Found k (type_of_kind (kind_view p.kind))) (looked (suc k) (with_params (params_view ps) []) w)
step_parameters k ps rest p w h = ap (λ r. looked k (with_params (params_view r) []) w) h ∙ ap (λ ns. looked k ns w) (parameters_last ps p [])

pub step_binders : (k : ℕ) (bs rest : List Binder) (b : Binder) (w : List ℕ) → rest ≡ bs ++ (b ∷ [])
    → looked k (with_names (names_view rest) []) w ≡ tested (bytes_eq b.name w) (Found k (numbers true)) (looked (suc k) (with_names (names_view bs) []) w)
step_binders k bs rest b w h = ap (λ r. looked k (with_names (names_view r) []) w) h ∙ ap (λ ns. looked k ns w) (binders_last bs b [])

pub step_generators : (k : ℕ) (gs rest : List Generator) (g : Generator) (w : List ℕ) → rest ≡ gs ++ (g ∷ [])
    → looked k (with_gens (gens_view rest) []) w ≡ then_looked (looked k (with_names (names_view g.names) []) w) (λ j. looked j (with_gens (gens_view gs) []) w)
step_generators k gs rest g w h =
    ap (λ r. looked k (with_gens (gens_view r) []) w) h
    ∙ ap (λ ns. looked k ns w) (generators_last gs g [] ∙ ap (λ bs. with_names bs (with_gens (gens_view gs) [])) (generator_names g) ∙ binders_inside (names_view g.names) (with_gens (gens_view gs) []))
    ∙ looked_append k (with_names (names_view g.names) []) (with_gens (gens_view gs) []) w

-- ---- one scope, and then those around it

pub past_locals : (k : ℕ) (ds : Decls) (ns : Names) (w : List ℕ) → looked k (with_locals ds ns) w ≡ then_looked (looked k (with_locals ds []) w) (λ j. looked j ns w)
past_locals k ds ns w = ap (λ ms. looked k ms w) (locals_inside ds ns) ∙ looked_append k (with_locals ds []) ns w

pub past_generators : (k : ℕ) (gs : Gens) (ns : Names) (w : List ℕ) → looked k (with_gens gs ns) w ≡ then_looked (looked k (with_gens gs []) w) (λ j. looked j ns w)
past_generators k gs ns w = ap (λ ms. looked k ms w) (generators_inside gs ns) ∙ looked_append k (with_gens gs []) ns w

pub past_parameters : (k : ℕ) (ps : Params) (ns : Names) (w : List ℕ) → looked k (with_params ps ns) w ≡ then_looked (looked k (with_params ps []) w) (λ j. looked j ns w)
past_parameters k ps ns w = ap (λ ms. looked k ms w) (parameters_inside ps ns) ∙ looked_append k (with_params ps []) ns w
