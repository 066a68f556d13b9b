-- Generators that are gathered from a list of expressions.
use Rattle.std.proofs.Common.{◌≡◌, ◌==◌, ℕ, List, [], ◌∷◌, ◌++◌, length, Bool, true, false, Option, Some, None, refl, sym, ap, ◌∙◌, eqb-true, arith}
use Rattle.std.specs.Prelude.{option_map, if◌then◌else◌}
use Rattle.ms_syntax.specs.declared.token.Place.{Place}
use Rattle.ms_syntax.specs.declared.tree.Operator.TheVariants as o
use Rattle.ms_syntax.specs.declared.tree.Binder.{Binder}
use Rattle.ms_syntax.specs.declared.tree.Expr.{Expr}
use Rattle.ms_syntax.specs.Tree as x
use Rattle.ms_syntax.specs.Tree.{Ex, Exs, Gens, Maybe, Names, gens_of, names_view, exs_view}
use Rattle.ms_expressions.specs.Rules.{generators_from}
use Rattle.ms_syntax.specs.Gathering.{part_of}

-- the generators that were found, before others
abbrev pub onto : List (Names × Ex) → Gens → Gens
onto [] gs = gs
onto (g ∷ found) gs = x.gen g.0 g.1 (onto found gs)

abbrev pub gathered : List (Names × Ex) → Option Gens → Option Gens
gathered found None = None
gathered found (Some gs) = Some (onto found gs)

pub gathered_none : (o : Option Gens) → gathered [] o ≡ o
gathered_none None = refl
gathered_none (Some gs) = refl

onto_end : (found : List (Names × Ex)) → onto found x.no_gens ≡ gens_of found
onto_end [] = refl
onto_end (g ∷ found) = ap (x.gen g.0 g.1) (onto_end found)

onto_more : (found : List (Names × Ex)) (ns : Names) (e : Ex) (gs : Gens) → onto (found ++ (ns, e) ∷ []) gs ≡ onto found (x.gen ns e gs)
onto_more [] ns e gs = refl
onto_more (g ∷ found) ns e gs = ap (x.gen g.0 g.1) (onto_more found ns e gs)

gathered_more : (found : List (Names × Ex)) (ns : Names) (e : Ex) (o : Option Gens) → gathered (found ++ (ns, e) ∷ []) o ≡ gathered found (option_map (x.gen ns e) o)
gathered_more found ns e None = refl
gathered_more found ns e (Some gs) = ap Some (onto_more found ns e gs)

-- what the first expression adds, and then the rest
abbrev pub with_part : Names → Exs → Option ((Place × List ℕ) × Maybe) → Option Gens
with_part ns rest None = None
with_part ns rest (Some (n, x.absent)) = generators_from (ns ++ n ∷ []) rest
with_part ns rest (Some (n, x.present e)) = option_map (x.gen (ns ++ n ∷ []) e) (generators_from [] rest)

pub by_part : (ns : Names) (head : Ex) (rest : Exs) → generators_from ns (x.ex head rest) ≡ with_part ns rest (part_of head)
by_part ns (x.name p w) rest = refl
by_part ns (x.chain l (x.name p w) (x.link o.In q e x.no_links)) rest = at_level (l == 6)
  where
    at_level : (b : Bool) → (if b then option_map (x.gen (ns ++ (p, w) ∷ []) e) (generators_from [] rest) else None) ≡ with_part ns rest (if b then Some ((p, w), x.present e) else None)
    at_level true = refl
    at_level false = refl
by_part ns _ rest = refl

pub none_left : (es : List Expr) → length es ≡ 0 → exs_view es ≡ x.no_exs
none_left [] h = refl
none_left (e ∷ es) h = absurd (omega arith)

module _ (found : List (Names × Ex)) (ns : Names) (es : Exs) (whole : Option Gens) (so_far : gathered found (generators_from ns es) ≡ whole) where
  module _ (head : Ex) (rest : Exs) (first : es ≡ x.ex head rest) (o : Option ((Place × List ℕ) × Maybe)) (says : o ≡ part_of head) where
    at_head : gathered found (with_part ns rest o) ≡ whole
    at_head = ap (λ k. gathered found (with_part ns rest k)) says ∙ ap (gathered found) (sym (by_part ns head rest)) ∙ ap (λ k. gathered found (generators_from ns k)) (sym first) ∙ so_far

    -- it is none of generators
    pub gather_none : o ≡ None → None ≡ whole
    gather_none h = ap (λ k. gathered found (with_part ns rest k)) (sym h) ∙ at_head

    -- a name
    pub gather_name : (n : Place × List ℕ) (names : Names) → o ≡ Some (n, x.absent) → names ≡ ns ++ n ∷ [] → gathered found (generators_from names rest) ≡ whole
    gather_name n names h g = ap (λ k. gathered found (generators_from k rest)) g ∙ ap (λ k. gathered found (with_part ns rest k)) (sym h) ∙ at_head

    -- a name with its set
    pub gather_set : (n : Place × List ℕ) (e : Ex) (names : Names) (more : List (Names × Ex)) → o ≡ Some (n, x.present e) → names ≡ ns ++ n ∷ [] → more ≡ found ++ (names, e) ∷ [] → gathered more (generators_from [] rest) ≡ whole
    gather_set n e names more h g q =
        ap (λ k. gathered k (generators_from [] rest)) (q ∙ ap (λ k. found ++ (k, e) ∷ []) g) ∙ gathered_more found (ns ++ n ∷ []) e (generators_from [] rest) ∙ ap (λ k. gathered found (with_part ns rest k)) (sym h) ∙ at_head

  -- nothing is left
  pub gather_end : (names : List Binder) (len : ℕ) → es ≡ x.no_exs → ns ≡ names_view names → true ≡ (len == 0) → len ≡ length names → Some (gens_of found) ≡ whole
  gather_end [] len h q e g = ap Some (sym (onto_end found)) ∙ ap (λ k. gathered found (generators_from k x.no_exs)) (sym q) ∙ ap (λ k. gathered found (generators_from ns k)) (sym h) ∙ so_far
  gather_end (b ∷ names) len h q e g = absurd (let z : len ≡ 0 = eqb-true len 0 (sym e) in omega arith)

  -- names without their set are left
  pub gather_open : (names : List Binder) (len : ℕ) → es ≡ x.no_exs → ns ≡ names_view names → false ≡ (len == 0) → len ≡ length names → None ≡ whole
  gather_open [] len h q e g = absurd (let w : false ≡ (0 == 0) = e ∙ ap (λ k. k == 0) g in cc)
  gather_open (b ∷ names) len h q e g = ap (λ k. gathered found (generators_from k x.no_exs)) (sym q) ∙ ap (λ k. gathered found (generators_from ns k)) (sym h) ∙ so_far
