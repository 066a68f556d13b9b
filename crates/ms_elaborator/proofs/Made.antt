-- The typed tree from the types of the walk is the typed tree.
use Rattle.std.proofs.Common.{◌≡◌, List, [], ◌∷◌, refl, ap}
use Rattle.ms_syntax.specs.Tree.{Arms, Decl, Decls, Ex, Exs, Gens, Links, Maybe, Rows, Subscripts}
use Rattle.ms_syntax.specs.Tree as x
use Rattle.ms_typing.specs.declared.types.ExprType.{ExprType}
use Rattle.ms_typing.specs.declared.types.Surroundings.{Surroundings}
use Rattle.ms_typing.specs.Least.{Typing}
use Rattle.ms_typing.specs.Meaning.{Names, World}
use Rattle.ms_typing.specs.Term.{with_gens, with_local, with_locals, with_names}
use Rattle.ms_code.specs.Code.{arguments_code, arms_code, code_of, elements_code, gens_code, least, links_code, local_code, locals_code, maybe_code, plain_code, rows_code, subscripts_code, type_of, types_of, value_code}
use Rattle.ms_elaborator.specs.Made.{arguments_made, arms_made, elements_made, gens_made, links_made, local_made, locals_made, made_of, maybe_made, plain_made, rows_made, subscripts_made, type_walked, types_walked, value_made}
use Rattle.ms_elaborator.proofs.Walked.{walked}

module _ (world : World) (s : Surroundings) where
  pub typed : (e : Ex) (ns : Names) → type_walked world s ns e ≡ type_of world s ns e
  typed e ns = ap (λ (r : Typing ExprType). least r) (walked world s e ns)

  all_typed : (es : Exs) (ns : Names) → types_walked world s ns es ≡ types_of world s ns es
  all_typed x.no_exs ns = refl
  all_typed (x.ex e es) ns = rw (typed e ns, all_typed es ns) refl

  mutual
    pub made : (e : Ex) (ns : Names) → made_of world s ns e ≡ code_of world s ns e
    made (x.let_in p ds closed e) ns = rw (locals_same ds ns, made e (with_locals ds ns)) refl
    made (x.chain level e links) ns =
        rw (typed (x.chain level e links) ns, typed e ns, made e ns, links_same links ns _, links_same links ns _) refl
    made (x.prefix p sign e) ns = rw (made e ns) refl
    made (x.access p e is) ns = rw (made e ns, subscripts_same is ns) refl
    made (x.number p n) ns = refl
    made (x.text p w) ns = refl
    made (x.truth p b) ns = refl
    made (x.name p w) ns = refl
    made (x.call p w es) ns = rw (all_typed es ns, arguments_same es ns _) refl
    made (x.generator_call p w gs c e) ns =
        rw (typed e (with_gens gs ns), gens_same gs ns, maybe_same c (with_gens gs ns), made e (with_gens gs ns)) refl
    made (x.paren p e) ns = rw (made e ns) refl
    made (x.array p es) ns = rw (typed (x.array p es) ns, elements_same es ns _) refl
    made (x.comprehension p e gs c) ns =
        rw (typed (x.comprehension p e gs c) ns, gens_same gs ns, maybe_same c (with_gens gs ns), made e (with_gens gs ns)) refl
    made (x.rows p rs) ns = rw (typed (x.rows p rs) ns, rows_same rs ns _) refl
    made (x.set p es) ns = rw (plain_same es ns) refl
    made (x.if_else p e b arms last) ns =
        rw (typed (x.if_else p e b arms last) ns, typed e ns, made e ns, typed b ns, made b ns, arms_same arms ns _, typed last ns, made last ns) refl

    links_same : (links : Links) (ns : Names) (t : ExprType) → links_made t world s ns links ≡ links_code t world s ns links
    links_same x.no_links ns t = refl
    links_same (x.link op p e links) ns t = rw (typed e ns, made e ns, links_same links ns t) refl

    subscripts_same : (is : Subscripts) (ns : Names) → subscripts_made world s ns is ≡ subscripts_code world s ns is
    subscripts_same x.no_subscripts ns = refl
    subscripts_same (x.subscript e other is) ns = rw (made e ns, maybe_same other ns, subscripts_same is ns) refl

    maybe_same : (m : Maybe) (ns : Names) → maybe_made world s ns m ≡ maybe_code world s ns m
    maybe_same x.absent ns = refl
    maybe_same (x.present e) ns = rw (made e ns) refl

    plain_same : (es : Exs) (ns : Names) → plain_made world s ns es ≡ plain_code world s ns es
    plain_same x.no_exs ns = refl
    plain_same (x.ex e es) ns = rw (made e ns, plain_same es ns) refl

    elements_same : (es : Exs) (ns : Names) (t : ExprType) → elements_made t world s ns es ≡ elements_code t world s ns es
    elements_same x.no_exs ns t = refl
    elements_same (x.ex e es) ns t = rw (typed e ns, made e ns, elements_same es ns t) refl

    arguments_same : (es : Exs) (ns : Names) (ts : List ExprType) → arguments_made ts world s ns es ≡ arguments_code ts world s ns es
    arguments_same x.no_exs ns ts = refl
    arguments_same (x.ex e es) ns [] = rw (made e ns, arguments_same es ns []) refl
    arguments_same (x.ex e es) ns (t ∷ ts) = rw (typed e ns, made e ns, arguments_same es ns ts) refl

    rows_same : (rs : Rows) (ns : Names) (t : ExprType) → rows_made t world s ns rs ≡ rows_code t world s ns rs
    rows_same x.no_rows ns t = refl
    rows_same (x.row es rs) ns t = rw (elements_same es ns t, rows_same rs ns t) refl

    arms_same : (arms : Arms) (ns : Names) (t : ExprType) → arms_made t world s ns arms ≡ arms_code t world s ns arms
    arms_same x.no_arms ns t = refl
    arms_same (x.arm e b arms) ns t = rw (typed e ns, made e ns, typed b ns, made b ns, arms_same arms ns t) refl

    gens_same : (gs : Gens) (ns : Names) → gens_made world s ns gs ≡ gens_code world s ns gs
    gens_same x.no_gens ns = refl
    gens_same (x.gen bs e gs) ns = rw (made e ns, gens_same gs (with_names bs ns)) refl

    locals_same : (ds : Decls) (ns : Names) → locals_made world s ns ds ≡ locals_code world s ns ds
    locals_same x.no_decls ns = refl
    locals_same (x.decl d ds) ns = rw (local_same d ns, locals_same ds (with_local d ns)) refl

    local_same : (d : Decl) (ns : Names) → local_made world s ns d ≡ local_code world s ns d
    local_same (x.declare p k w notes v) ns = value_same v ns _

    value_same : (v : Maybe) (ns : Names) (t : ExprType) → value_made t world s ns v ≡ value_code t world s ns v
    value_same x.absent ns t = refl
    value_same (x.present e) ns t = rw (typed e ns, made e ns) refl
