-- Tests and the order of integers.
use Rattle.std.proofs.Common.{◌≡◌, Bool, true, false, not, ◌&&◌, ◌||◌, T, refl, sym, ap, ◌∙◌, subst, arith}
use Rattle.std.specs.Prelude.{ℤ, pos, negsuc, ◌≤ℤ◌, ◌<ℤ◌, int_le, int_lt}
use Rattle.std.proofs.lemmas.Int.{ints}
use Rattle.std.proofs.lemmas.Bool.{false≢true}
use Rattle.std.proofs.lemmas.Bool.Decides.{nat_tests}
use Rattle.ms_num.specs.Numbers.{int_eq}

pub ap2 : {X Y Z : Type 0} (f : X → Y → Z) {p p' : X} {q q' : Y} → p ≡ p' → q ≡ q' → f p q ≡ f p' q'
ap2 f {p'} {q} e k = ap (λ x. f x q) e ∙ ap (f p') k

pub and_left : (a b : Bool) → (a && b) ≡ true → a ≡ true
and_left true b h = refl
and_left false b h = h

pub and_right : (a b : Bool) → (a && b) ≡ true → b ≡ true
and_right true b h = h
and_right false b h = absurd (false≢true h)

pub and_true : (a b : Bool) → a ≡ true → b ≡ true → (a && b) ≡ true
and_true true b p q = q
and_true false b p q = p

pub and_one : (b : Bool) → (b && true) ≡ b
and_one true = refl
and_one false = refl

pub and_less : (a b a' b' : Bool) → (a ≡ true → a' ≡ true) → (b ≡ true → b' ≡ true) → (a && b) ≡ true → (a' && b') ≡ true
and_less true b a' b' f g h = and_true a' b' (f refl) (g h)
and_less false b a' b' f g h = absurd (false≢true h)

pub or_left : (a b : Bool) → a ≡ true → (a || b) ≡ true
or_left true b e = refl
or_left false b e = absurd (false≢true e)

pub or_right : (a b : Bool) → b ≡ true → (a || b) ≡ true
or_right true b e = refl
or_right false b e = e

pub or_split : {X : Type 0} (a b : Bool) → (a || b) ≡ true → (a ≡ true → X) → (b ≡ true → X) → X
or_split true b h f g = f refl
or_split false b h f g = g h

pub or_swap : (a b : Bool) → (a || b) ≡ true → (b || a) ≡ true
or_swap a b h = or_split a b h (or_right b a) (or_left b a)

pub or_less : (a b a' b' : Bool) → (a ≡ true → a' ≡ true) → (b ≡ true → b' ≡ true) → (a || b) ≡ true → (a' || b') ≡ true
or_less a b a' b' f g h = or_split a b h (λ e. or_left a' b' (f e)) (λ e. or_right a' b' (g e))

pub or_false : (a b : Bool) → (a || b) ≡ false → (a ≡ false) × (b ≡ false)
or_false true b h = absurd (false≢true (sym h))
or_false false b h = (refl, h)

pub or_none : (b : Bool) → (b || false) ≡ b
or_none true = refl
or_none false = refl

pub not_true : (b : Bool) → not b ≡ true → b ≡ false
not_true true h = absurd (false≢true h)
not_true false h = refl

pub true_not : (b : Bool) → b ≡ false → not b ≡ true
true_not true h = absurd (false≢true (sym h))
true_not false h = refl

pub is_false : (b : Bool) → (b ≡ true → ⊥) → b ≡ false
is_false true f = absurd (f refl)
is_false false f = refl

pub both_ways : {X : Type 0} (b : Bool) → (b ≡ true → X) → (b ≡ false → X) → X
both_ways true f g = f refl
both_ways false f g = g refl

pub not_grows : (a b : Bool) → (b ≡ true → a ≡ true) → not a ≡ true → not b ≡ true
not_grows a b f h = both_ways b (λ e. absurd (false≢true (sym (not_true a h) ∙ f e))) (true_not b)

pub twice_not : (b : Bool) → b ≡ not (not b)
twice_not true = refl
twice_not false = refl

pub same_tests : (a b : Bool) → (a ≡ true → b ≡ true) → (b ≡ true → a ≡ true) → a ≡ b
same_tests true b f g = sym (f refl)
same_tests false true f g = g refl
same_tests false false f g = refl

pub opposite_tests : (a b : Bool) → (a ≡ true → b ≡ false) → (a ≡ false → b ≡ true) → a ≡ not b
opposite_tests true true f g = f refl
opposite_tests true false f g = refl
opposite_tests false true f g = refl
opposite_tests false false f g = g refl

pub le_same : (x : ℤ) → int_le x x ≡ true
le_same (pos a) = grind (arith, nat_tests)
le_same (negsuc a) = grind (arith, nat_tests)

pub lt_flip : (x y : ℤ) → int_le y x ≡ not (int_lt x y)
lt_flip (pos a) (pos b) = grind (arith, nat_tests)
lt_flip (pos a) (negsuc b) = refl
lt_flip (negsuc a) (pos b) = refl
lt_flip (negsuc a) (negsuc b) = grind (arith, nat_tests)

pub le_flip : (x y : ℤ) → int_lt y x ≡ not (int_le x y)
le_flip x y = twice_not (int_lt y x) ∙ ap not (sym (lt_flip y x))

is_true : (b : Bool) → T b → b ≡ true
is_true true t = refl
is_true false t = absurd t

pub le_of : (a b : ℤ) → int_le a b ≡ true → a ≤ℤ b
le_of a b h = record { le = subst T (sym h) tt }

pub of_le : (a b : ℤ) → a ≤ℤ b → int_le a b ≡ true
of_le a b h = is_true (int_le a b) h.le

pub lt_of : (a b : ℤ) → int_lt a b ≡ true → a <ℤ b
lt_of a b h = record { lt = subst T (sym h) tt }

pub of_lt : (a b : ℤ) → a <ℤ b → int_lt a b ≡ true
of_lt a b h = is_true (int_lt a b) h.lt

pub not_le : (a b : ℤ) → int_le a b ≡ false → b <ℤ a
not_le a b h = lt_of b a (le_flip a b ∙ true_not (int_le a b) h)

pub not_lt : (a b : ℤ) → int_lt a b ≡ false → b ≤ℤ a
not_lt a b h = le_of b a (lt_flip a b ∙ true_not (int_lt a b) h)

pub lt_not : (a b : ℤ) → b ≤ℤ a → int_lt a b ≡ false
lt_not a b h = is_false (int_lt a b) (λ e. absurd (false≢true (sym (not_true (int_lt a b) (sym (lt_flip a b) ∙ of_le b a h)) ∙ e)))

pub le_not : (a b : ℤ) → b <ℤ a → int_le a b ≡ false
le_not a b h = is_false (int_le a b) (λ e. absurd (false≢true (sym (not_true (int_le a b) (sym (le_flip a b) ∙ of_lt b a h)) ∙ e)))

pub eq_of : (a b : ℤ) → int_eq a b ≡ true → a ≡ b
eq_of a b h =
    let p = le_of a b (and_left (int_le a b) (int_le b a) h) in
    let q = le_of b a (and_right (int_le a b) (int_le b a) h) in
    omega (arith, ints, p, q)

pub of_eq : (a b : ℤ) → a ≡ b → int_eq a b ≡ true
of_eq a b e = subst (λ c. int_eq a c ≡ true) e (and_true (int_le a a) (int_le a a) (le_same a) (le_same a))
