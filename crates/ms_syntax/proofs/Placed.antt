-- The place of operators that group to the left or to the right.
use Rattle.std.proofs.Common.{◌≡◌, ℕ, zero, suc, List, [], ◌∷◌, length, Option, Some, None, refl, sym, ap, ◌∙◌, arith, rules}
use Rattle.std.specs.Prelude.{◌==◌, false, if◌then◌else◌, slice_get}
use Rattle.ms_syntax.specs.declared.token.Place.{Place}
use Rattle.ms_syntax.specs.declared.tree.Operator.{Operator}
use Rattle.ms_syntax.specs.declared.tree.Link.{Link, the_lemmas}
use Rattle.ms_syntax.specs.Tree.{Ex, Links, chain, no_links, link, links_of, link_view, of_concat}
use Rattle.ms_syntax.specs.Grouping.{Grouped, operand, operation, to_left, to_right, followed_by, root_place, place_of}

-- the last place of operators, and p where there is none
last_of : Place → Links → Place
last_of p no_links = p
last_of p (link op q e more) = last_of q more

root_left : (p : Place) (g : Grouped) (ls : Links) → root_place p (to_left g ls) ≡ last_of (root_place p g) ls
unfolding last_of
root_left p g no_links = refl
root_left p g (link op q e more) = root_left p (operation op q g (operand e)) more

last_found : (p : Place) (ls : List (Operator × Place × Ex)) (l : Operator × Place × Ex) (k : ℕ) → suc k ≡ length ls → slice_get ls k ≡ Some l → last_of p (links_of ls) ≡ l.1
unfolding last_of
last_found p [] l k h g = absurd (omega arith)
last_found p (x ∷ []) l zero h g = let same : x ≡ l = cc in ap (λ y. y.1) same
last_found p (x ∷ []) l (suc k) h g = absurd (omega arith)
last_found p (x ∷ (y ∷ r)) l zero h g = absurd (omega arith)
last_found p (x ∷ (y ∷ r)) l (suc k) h g = last_found x.1 (y ∷ r) l k (omega arith) g

pub placed_last : (p : Place) (e : Ex) (ls : List (Operator × Place × Ex)) (l : Operator × Place × Ex) (k : ℕ) → suc k ≡ length ls → slice_get ls k ≡ Some l
    → l.1 ≡ root_place p (to_left (operand e) (links_of ls))
placed_last p e ls l k h g = sym (root_left p (operand e) (links_of ls) ∙ last_found p ls l k h g)

pub link_place : (l : Link) → (link_view l).1 ≡ l.place
link_place l = search (rules, the_lemmas)

-- with an operator more at the end, they stand at it
root_followed : (q : Place) (g : Grouped) (ls : Links) (op : Operator) (p : Place) (e : Ex) → root_place q (to_left g (followed_by ls op p e)) ≡ p
root_followed q g no_links op p e = refl
root_followed q g (link op2 p2 e2 more) op p e = root_followed q (operation op2 p2 g (operand e2)) more op p e

pub left_at_last : (n : ℕ) (first : Ex) (ls : Links) (op : Operator) (p : Place) (e : Ex) → (n == of_concat) ≡ false → place_of (chain n first (followed_by ls op p e)) ≡ p
left_at_last n first ls op p e h =
    let all = followed_by ls op p e in
    ap (λ b. root_place (place_of first) (if b then to_right first all else to_left (operand first) all)) h ∙ root_followed (place_of first) (operand first) ls op p e
