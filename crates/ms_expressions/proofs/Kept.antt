-- Lists that a node keeps where they are not empty.
use Rattle.std.proofs.Common.{◌≡◌, ◌==◌, ℕ, List, [], ◌∷◌, length, refl, sym, ap, ◌∙◌, true, false, eqb-true, arith}
use Rattle.ms_syntax.specs.declared.token.Place.{Place}
use Rattle.ms_syntax.specs.declared.tree.Link.{Link}
use Rattle.ms_syntax.specs.declared.tree.Subscript.{Subscript}
use Rattle.ms_syntax.specs.Tree as x
use Rattle.ms_syntax.specs.Tree.{Ex, links_view, subscripts_view}
use Rattle.ms_expressions.specs.Rules.{chained, accessing}

pub chained_some : (n m : ℕ) (e : Ex) (ls : List Link) (len : ℕ) → false ≡ (len == 0) → len ≡ length ls → m ≡ n → x.chain m e (links_view ls) ≡ chained n e (links_view ls)
chained_some n m e [] len h g q = absurd (let w : false ≡ (0 == 0) = h ∙ ap (λ k. k == 0) g in cc)
chained_some n m e (l ∷ ls) len h g q = ap (λ k. x.chain k e (links_view (l ∷ ls))) q

pub chained_none : (n : ℕ) (e : Ex) (ls : List Link) (len : ℕ) → true ≡ (len == 0) → len ≡ length ls → e ≡ chained n e (links_view ls)
chained_none n e [] len h g = refl
chained_none n e (l ∷ ls) len h g = absurd (let z : len ≡ 0 = eqb-true len 0 (sym h) in omega arith)

pub accessing_some : (p : Place) (e : Ex) (is : List Subscript) (len : ℕ) → false ≡ (len == 0) → len ≡ length is → x.access p e (subscripts_view is) ≡ accessing p e (subscripts_view is)
accessing_some p e [] len h g = absurd (let w : false ≡ (0 == 0) = h ∙ ap (λ k. k == 0) g in cc)
accessing_some p e (i ∷ is) len h g = refl

pub accessing_none : (p : Place) (e : Ex) (is : List Subscript) (len : ℕ) → true ≡ (len == 0) → len ≡ length is → e ≡ accessing p e (subscripts_view is)
accessing_none p e [] len h g = refl
accessing_none p e (i ∷ is) len h g = absurd (let z : len ≡ 0 = eqb-true len 0 (sym h) in omega arith)
