-- How many parts there are.
use Rattle.std.proofs.Common.{◌≡◌, suc, false, Some, List, [], ◌∷◌, length, refl, ap, ◌==◌, arith}
use Rattle.ms_syntax.specs.declared.tree.Expr.{Expr}
use Rattle.ms_syntax.specs.declared.tree.Binder.{Binder}
use Rattle.ms_syntax.specs.Tree.{Ex, Gens, exs_view, names_view}
use Rattle.ms_syntax.specs.Tree as x
use Rattle.ms_syntax.specs.declared.token.Place.{Place}
use Rattle.ms_syntax.specs.Grouping.{first_place as grouped_place}
use Rattle.ms_code.specs.Code.{first_place}
use Rattle.ms_typing.specs.Term.{exs_count, is_one_name}

pub exs_counted : (es : List Expr) → exs_count (exs_view es) ≡ length es
exs_counted [] = refl
exs_counted (e ∷ es) = ap suc (exs_counted es)

pub one_name : (bs : List Binder) (e : Ex) → is_one_name (x.gen (names_view bs) e x.no_gens) x.absent ≡ (length bs == 1)
one_name [] e = refl
one_name (b ∷ []) e = refl
one_name (b ∷ (c ∷ bs)) e = grind arith

pub more_gens : (bs : x.Names) (e : Ex) (cs : x.Names) (d : Ex) (gs : Gens) → is_one_name (x.gen bs e (x.gen cs d gs)) x.absent ≡ false
more_gens [] e cs d gs = refl
more_gens (b ∷ []) e cs d gs = refl
more_gens (b ∷ (c ∷ bs)) e cs d gs = refl

pub not_one : (gs : Gens) (e : Ex) → is_one_name gs (x.present e) ≡ false
not_one x.no_gens e = refl
not_one (x.gen [] d gs) e = refl
not_one (x.gen (b ∷ []) d x.no_gens) e = refl
not_one (x.gen (b ∷ []) d (x.gen cs c gs)) e = refl
not_one (x.gen (b ∷ (c ∷ bs)) d gs) e = refl

pub no_more : {A : Type 0} → (xs : List A) → length xs ≡ 0 → xs ≡ []
no_more [] h = refl
no_more (x ∷ xs) h = absurd (grind arith)

-- the place of the first name
pub place_first : (ns : x.Names) (p : Place) → Some p ≡ grouped_place ns → first_place ns ≡ p
place_first [] p h = absurd cc
place_first (n ∷ ns) p h = cc
