-- Quotients and remainders.
use Rattle.std.proofs.Common.{◌≡◌, Bool, true, false, ◌||◌, Option, Some, None, refl, sym, ap, ◌∙◌, subst, arith, IfSome}
use Rattle.std.proofs.lemmas.Bool.{false≢true}
use Rattle.std.proofs.lemmas.Int.{ints}
use Rattle.std.specs.Prelude.{ℤ, pos, ◌≤ℤ◌, int_le, is_some, ◌↔◌}
use Rattle.std.specs.Int.Signed.{≤ℤ_refl}
use Rattle.ms_num.specs.Numbers.{div_at, mod_at}
use Rattle.ms_num.specs.Span.{Span, Inside, IsResult, IsLeast, point, has, div_span, mod_span}
use Rattle.ms_num.proofs.SharedSpans.{least_inside, same_some}
use Rattle.ms_num.proofs.SharedQuotients.{div_least, div_none}
use Rattle.ms_num.proofs.SharedRemainders.{mod_single, mod_inside, mod_none}
use Rattle.ms_trees.specs.Value as v
use Rattle.ms_trees.specs.Enclosure as r
use Rattle.ms_trees.specs.Laws.{of_number, IsCoveredBy, MeansFewerNumbers}
use Rattle.ms_trees.specs.declared.tree.Enclosure.{Enclosure}
use Rattle.ms_trees.proofs.Bools.{ap2, and_left, and_right, or_left, or_right, or_less, is_false, le_of}
use Rattle.ms_trees.proofs.Lists.{has_grows}

-- an operation on intervals that has no result where 0 is the only second number
pub record IsShare (f : ℤ → ℤ → Option ℤ) (F : Span → Span → Option Span) : Type 0 where
  pub at_zero : (x : ℤ) → f x (pos 0) ≡ None
  pub none : (a b : Span) → b.lo ≤ℤ b.hi → (F a b ≡ None) ↔ (b ≡ point (pos 0))
  pub single : (x y : ℤ) → IfSome (F (point x) (point y)) (IsLeast (IsResult f (point x) (point y)))
  pub shrinks : (a b a' b' : Span) → Inside a a' → Inside b b' → IfSome (F a b) (λ s. IfSome (F a' b') (Inside s))

pub div_shares : IsShare div_at div_span
div_shares = record {
  at_zero = λ x. refl;
  none = div_none;
  single = λ x y. div_least (point x) (point y) (≤ℤ_refl x) (≤ℤ_refl y);
  shrinks = λ a b a' b' i j. inside (div_span a b) (div_span a' b') a b a' b' i j (div_least a b i.proper j.proper) (div_least a' b' (wide a a' i) (wide b b' j));
}
  where
    wide : (s t : Span) → Inside s t → t.lo ≤ℤ t.hi
    wide s t i = omega (arith, ints)

    inside : (o p : Option Span) (a b a' b' : Span) → Inside a a' → Inside b b' → IfSome o (IsLeast (IsResult div_at a b)) → IfSome p (IsLeast (IsResult div_at a' b')) → IfSome o (λ s. IfSome p (Inside s))
    inside None p a b a' b' i j l m = tt
    inside (Some s) None a b a' b' i j l m = tt
    inside (Some s) (Some t) a b a' b' i j l m = least_inside div_at a b a' b' s t l m i j

pub mod_shares : IsShare mod_at mod_span
mod_shares = record {
  at_zero = λ x. refl;
  none = λ a b l. mod_none a b;
  single = λ x y. mod_single (point x) (point y) refl refl;
  shrinks = mod_inside;
}

zero_in : (b : Span) → b ≡ point (pos 0) → has b (pos 0) ≡ true
zero_in b e = subst (λ s. has s (pos 0) ≡ true) (sym e) refl

-- the least interval of one result is that result
single_result : (f : ℤ → ℤ → Option ℤ) (x y : ℤ) (s : Span) → IsLeast (IsResult f (point x) (point y)) s → f x y ≡ Some s.lo
single_result f x y s l =
    let r = l.low in
    let p : r.left ≡ x = omega (arith, ints, r.left_in.from, r.left_in.to) in
    let q : r.right ≡ y = omega (arith, ints, r.right_in.from, r.right_in.to) in
    sym (ap2 f p q) ∙ r.gives

single_high : (f : ℤ → ℤ → Option ℤ) (x y : ℤ) (s : Span) → IsLeast (IsResult f (point x) (point y)) s → f x y ≡ Some s.hi
single_high f x y s l =
    let r = l.high in
    let p : r.left ≡ x = omega (arith, ints, r.left_in.from, r.left_in.to) in
    let q : r.right ≡ y = omega (arith, ints, r.right_in.from, r.right_in.to) in
    sym (ap2 f p q) ∙ r.gives

pub exact_division : (f : ℤ → ℤ → Option ℤ) (F : Span → Span → Option Span) → IsShare f F → (m n : Option ℤ) → r.division F (of_number m) (of_number n) ≡ of_number (v.both f m n)
exact_division f F p None n = refl
exact_division f F p (Some x) None = refl
exact_division f F p (Some x) (Some y) = one (F (point x) (point y)) refl (p.single x y)
  where
    some_none : {X : Type 0} (x : X) → Some x ≡ None → ⊥
    some_none x e = cc

    zero : (y : ℤ) → point y ≡ point (pos 0) → y ≡ pos 0
    zero y e = ap (λ (s : Span). s.lo) e

    one : (o : Option Span) → F (point x) (point y) ≡ o → IfSome o (IsLeast (IsResult f (point x) (point y))) → r.numeric_enclosure o (has (point y) (pos 0)) ≡ of_number (f x y)
    one None e l =
        let z = zero y ((p.none (point x) (point y) (≤ℤ_refl y)).0 e) in
        ap (r.numeric_enclosure None) (zero_in (point y) (ap point z)) ∙ sym (ap of_number (ap (f x) z ∙ p.at_zero x))
    one (Some s) e l =
        let lo = single_result f x y s l in
        let hi = single_high f x y s l in
        let same : s.lo ≡ s.hi = same_some (sym lo ∙ hi) in
        let no : has (point y) (pos 0) ≡ false = is_false (has (point y) (pos 0)) (λ h. some_none s (sym e ∙ (p.none (point x) (point y) (≤ℤ_refl y)).1 (ap point (here y h)))) in
        ap (r.numeric_enclosure (Some s)) no ∙ ap (λ t. r.numeric_enclosure (Some t) false) (ap (λ z. record { lo = s.lo; hi = z }) (sym same)) ∙ sym (ap of_number lo)
      where
        here : (y : ℤ) → has (point y) (pos 0) ≡ true → y ≡ pos 0
        here y h =
            let a = le_of y (pos 0) (and_left (int_le y (pos 0)) (int_le (pos 0) y) h) in
            let b = le_of (pos 0) y (and_right (int_le y (pos 0)) (int_le (pos 0) y) h) in
            omega (arith, ints)

pub division_less : (f : ℤ → ℤ → Option ℤ) (F : Span → Span → Option Span) → IsShare f F → (x y x' y' : Enclosure) → MeansFewerNumbers x x' → MeansFewerNumbers y y' → MeansFewerNumbers (r.division F x y) (r.division F x' y')
division_less f F p x y x' y' n m = record {
  some = some x.interval y.interval x'.interval y'.interval x.may_be_undefined y.may_be_undefined n.some m.some n.interval m.interval;
  interval = fewer x.interval y.interval x'.interval y'.interval n.interval m.interval;
  may_be_undefined = or_less (x.may_be_undefined || y.may_be_undefined) _ (x'.may_be_undefined || y'.may_be_undefined) _ (or_less x.may_be_undefined y.may_be_undefined x'.may_be_undefined y'.may_be_undefined n.may_be_undefined m.may_be_undefined) (zero y.interval y'.interval m.interval);
}
  where
    zero : (o o' : Option Span) → IsCoveredBy o o' → r.test_interval (λ s. has s (pos 0)) o ≡ true → r.test_interval (λ s. has s (pos 0)) o' ≡ true
    zero None o' g e = absurd (false≢true e)
    zero (Some s) None g e = absurd g
    zero (Some s) (Some t) g e = has_grows s t (pos 0) g e

    made : (o : Option Span) (u v : Bool) (b : Bool) → (o ≡ None → b ≡ true) → (is_some o || (u || v || b)) ≡ true
    made None u v b h = or_right (u || v) b (h refl)
    made (Some s) u v b h = refl

    some : (o q o' q' : Option Span) (u v : Bool) → (is_some o || u) ≡ true → (is_some q || v) ≡ true → IsCoveredBy o o' → IsCoveredBy q q' → (is_some (r.both_partial F o q) || (u || v || r.test_interval (λ s. has s (pos 0)) q)) ≡ true
    some None q o' q' u v h k g l = or_left (u || v) (r.test_interval (λ s. has s (pos 0)) q) (or_left u v h)
    some (Some s) None o' q' u v h k g l = or_left (u || v) false (or_right u v k)
    some (Some s) (Some t) o' None u v h k g l = absurd l
    some (Some s) (Some t) o' (Some t') u v h k g l = made (F s t) u v (has t (pos 0)) (λ e. zero_in t ((p.none s t l.proper).0 e))

    pair : (o o' : Option Span) → (o' ≡ None → o ≡ None) → IfSome o (λ s. IfSome o' (Inside s)) → IsCoveredBy o o'
    pair None o' h k = tt
    pair (Some s) None h k = none (h refl)
      where
        none : Some s ≡ None → ⊥
        none e = cc
    pair (Some s) (Some t) h k = k

    only : (t t' : Span) → Inside t t' → t' ≡ point (pos 0) → t ≡ point (pos 0)
    only t t' i e =
        let a : t'.lo ≡ pos 0 = ap (λ (s : Span). s.lo) e in
        let b : t'.hi ≡ pos 0 = ap (λ (s : Span). s.hi) e in
        let c : t.lo ≡ pos 0 = omega (arith, ints, a, b, i.lo, i.hi, i.proper) in
        let d : t.hi ≡ pos 0 = omega (arith, ints, a, b, i.lo, i.hi, i.proper) in
        ap2 (λ x y. record { lo = x; hi = y }) c d

    wide : (s t : Span) → Inside s t → t.lo ≤ℤ t.hi
    wide s t i = omega (arith, ints)

    fewer : (o q o' q' : Option Span) → IsCoveredBy o o' → IsCoveredBy q q' → IsCoveredBy (r.both_partial F o q) (r.both_partial F o' q')
    fewer None q o' q' g l = tt
    fewer (Some s) None o' q' g l = tt
    fewer (Some s) (Some t) None q' g l = absurd g
    fewer (Some s) (Some t) (Some s') None g l = absurd l
    fewer (Some s) (Some t) (Some s') (Some t') g l = pair (F s t) (F s' t') (λ e. (p.none s t l.proper).1 (only t t' l ((p.none s' t' (wide t t' l)).0 e))) (p.shrinks s t s' t' g l)
