-- Operators that group to the right.
use Rattle.std.proofs.Common.{◌≡◌, suc, true, List, [], ◌∷◌, ◌++◌, length, refl, ap, sym, subst, ◌∙◌, Result, Err}
use Rattle.ms_syntax.specs.declared.tree.Link.{Link}
use Rattle.ms_syntax.specs.Tree.{link_view, links_view}
use Rattle.ms_typing.specs.declared.types.ExprType.{ExprType}
use Rattle.ms_typing.specs.Conversion.{truths}
use Rattle.ms_typing.specs.Least.{Typing, and_then, fault, has, operand}
use Rattle.ms_rows.specs.declared.fault.TypeFault.{TypeFault}
use Rattle.ms_rows.specs.declared.fault.TypeFault.TheVariants as e
use Rattle.ms_rows.specs.Forms.{Tells}
use Rattle.ms_elaborator.specs.Walk.{at_link, from_right, links_count}

pub has_then : {A : Type 0} → (r : Typing A) → and_then r (λ (a : A). has a) ≡ r
has_then (has a) = refl
has_then (fault c p) = refl

pub then_then : {A B C : Type 0} → (r : Typing A) (g : A → Typing B) (h : B → Typing C) → and_then (and_then r g) h ≡ and_then r (λ (a : A). and_then (g a) h)
then_then (has a) g h = refl
then_then (fault c p) g h = refl

pub links_counted : (links : List Link) → links_count (links_view links) ≡ length links
links_counted [] = refl
links_counted (l ∷ links) = ap suc (links_counted links)

behind : (ts : List ExprType) (links : List Link) (l : Link) (t : ExprType)
    → from_right ts (links_view (links ++ (l ∷ []))) t ≡ and_then (at_link (link_view l) (operand (length links) ts) t) (λ (u : ExprType). from_right ts (links_view links) u)
behind [] [] l t = sym (has_then (at_link (link_view l) (truths true) t))
behind (u ∷ ts) [] l t = sym (has_then (at_link (link_view l) u t))
behind [] (k ∷ links) l t =
    ap (λ (r : Typing ExprType). and_then r (λ (u : ExprType). at_link (link_view k) (truths true) u)) (behind [] links l t)
    ∙ then_then (at_link (link_view l) (operand (length links) []) t) (λ (u : ExprType). from_right [] (links_view links) u) (λ (u : ExprType). at_link (link_view k) (truths true) u)
behind (u ∷ ts) (k ∷ links) l t =
    ap (λ (r : Typing ExprType). and_then r (λ (v : ExprType). at_link (link_view k) u v)) (behind ts links l t)
    ∙ then_then (at_link (link_view l) (operand (length links) ts) t) (λ (v : ExprType). from_right ts (links_view links) v) (λ (v : ExprType). at_link (link_view k) u v)

pub link_behind : (ts : List ExprType) (all links : List Link) (l : Link) (t : ExprType) → all ≡ links ++ (l ∷ [])
    → from_right ts (links_view all) t ≡ and_then (at_link (link_view l) (operand (length links) ts) t) (λ (u : ExprType). from_right ts (links_view links) u)
link_behind ts all links l t h = rw h (behind ts links l t)

-- a fault of the first step is one of both
pub tells_then : {A B : Type 0} → (r : Typing A) (k : A → Typing B) (g : TypeFault) → Tells r (Err g) → Tells (and_then r k) (Err g)
tells_then r k (e.Include p) h = h
tells_then r k (e.Twice p q) h = h
tells_then r k e.NoSolve h = h
tells_then r k (e.Cycle p) h = h
tells_then r k (e.Unknown p) h = rw h refl
tells_then r k (e.Arity p) h = rw h refl
tells_then r k (e.NotKnown p) h = rw h refl
tells_then r k (e.Unsupported p) h = rw h refl
tells_then r k (e.Mismatch p) h = rw h refl
tells_then r k e.Memory h = tt {0}

pub join_fails : (j : Typing ExprType) (ts : List ExprType) (rest others : List Link) (l : Link) (t before : ExprType) (g : TypeFault)
    → j ≡ from_right ts (links_view rest) t → rest ≡ others ++ (l ∷ []) → before ≡ operand (length others) ts → Tells (at_link (link_view l) before t) (Err g) → Tells j (Err g)
join_fails j ts rest others l t before g h i f k =
    subst (λ (r : Typing ExprType). Tells r (Err g)) (sym (h ∙ link_behind ts rest others l t i))
    (tells_then (at_link (link_view l) (operand (length others) ts) t) (λ (u : ExprType). from_right ts (links_view others) u) g
    (subst (λ (b : ExprType). Tells (at_link (link_view l) b t) (Err g)) f k))

pub join_goes_on : (j : Typing ExprType) (ts : List ExprType) (rest others : List Link) (l : Link) (t before u : ExprType)
    → j ≡ from_right ts (links_view rest) t → rest ≡ others ++ (l ∷ []) → before ≡ operand (length others) ts → at_link (link_view l) before t ≡ has u
    → j ≡ from_right ts (links_view others) u
join_goes_on j ts rest others l t before u h i f k =
    h ∙ link_behind ts rest others l t i
    ∙ ap (λ (b : ExprType). and_then (at_link (link_view l) b t) (λ (v : ExprType). from_right ts (links_view others) v)) (sym f)
    ∙ ap (λ (r : Typing ExprType). and_then r (λ (v : ExprType). from_right ts (links_view others) v)) k

-- what comes after two parts that are there
pub after_both : {A B C : Type 0} → (q : Typing A) (r : Typing B) (n : A → B → Typing C) (a : A) (b : B) (z : Result C TypeFault)
    → q ≡ has a → r ≡ has b → Tells (n a b) z → Tells (and_then q (λ (c : A). and_then r (λ (d : B). n c d))) z
after_both q r n a b z h k m = rw (h, k) m
