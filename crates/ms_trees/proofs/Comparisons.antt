-- Comparisons of smaller intervals, and the numbers of a truth value.
use Rattle.std.proofs.Common.{◌≡◌, Bool, true, false, not, ◌&&◌, ◌||◌, Option, Some, None, refl, arith}
use Rattle.std.specs.Prelude.{ℤ, ◌≤ℤ◌, ◌<ℤ◌, int_le, int_lt, is_some}
use Rattle.std.specs.Int.Signed.{≤ℤ_refl}
use Rattle.std.proofs.lemmas.Int.{ints, by_lt_z}
use Rattle.std.proofs.lemmas.Bool.{false≢true}
use Rattle.ms_num.specs.Numbers.{int_eq}
use Rattle.ms_num.specs.Span.{Span, Inside}
use Rattle.ms_trees.specs.Laws.{IsCoveredBy}
use Rattle.ms_trees.specs.Enclosure as r
use Rattle.ms_trees.proofs.Bools.{and_left, and_right, or_left, or_right, or_split, or_swap, not_grows, le_of, of_le, lt_of, of_lt}
use Rattle.ms_trees.proofs.Apart.{meets_more}

-- a test of two intervals that holds of greater ones too
pub record Grows (f : Span → Span → Bool) : Type 0 where
  pub by : (a b a' b' : Span) → Inside a a' → Inside b b' → f a b ≡ true → f a' b' ≡ true

pub compare_less : (f : Span → Span → Bool) → Grows f → (o p o' p' : Option Span) → IsCoveredBy o o' → IsCoveredBy p p' → r.compare_intervals f o p ≡ true → r.compare_intervals f o' p' ≡ true
compare_less f g None p o' p' h k e = absurd (false≢true e)
compare_less f g (Some x) None o' p' h k e = absurd (false≢true e)
compare_less f g (Some x) (Some y) None p' h k e = absurd h
compare_less f g (Some x) (Some y) (Some x') None h k e = absurd k
compare_less f g (Some x) (Some y) (Some x') (Some y') h k e = g.by x y x' y' h k e

less_grows : Grows r.may_be_less
less_grows = record { by = λ a b a' b' i j e. of_lt _ _ (step a b a' b' i j (lt_of _ _ e)) }
  where
    step : (a b a' b' : Span) → Inside a a' → Inside b b' → a.lo <ℤ b.hi → a'.lo <ℤ b'.hi
    step a b a' b' i j e = omega (arith, ints)

at_most_grows : Grows r.may_be_at_most
at_most_grows = record { by = λ a b a' b' i j e. of_le _ _ (step a b a' b' i j (le_of _ _ e)) }
  where
    step : (a b a' b' : Span) → Inside a a' → Inside b b' → a.lo ≤ℤ b.hi → a'.lo ≤ℤ b'.hi
    step a b a' b' i j e = omega (arith, ints)

at_least_grows : Grows r.may_be_at_least
at_least_grows = record { by = λ a b a' b' i j e. at_most_grows.by b a b' a' j i e }

greater_grows : Grows r.may_be_greater
greater_grows = record { by = λ a b a' b' i j e. less_grows.by b a b' a' j i e }

meets_grows : Grows r.meets
meets_grows = record { by = meets_more }

-- what it says that two intervals are the same single number
pub record Single (s t : Span) : Type 0 where
  pub one : s.hi ≤ℤ s.lo
  pub up : s.lo ≤ℤ t.lo
  pub down : t.lo ≤ℤ s.lo
  pub two : t.hi ≤ℤ t.lo
  pub one_up : s.lo ≤ℤ s.hi
  pub two_up : t.lo ≤ℤ t.hi

pub single_of : (s t : Span) → r.same_single s t ≡ true → Single s t
single_of s t h =
    let ab = and_left (int_eq s.lo s.hi && int_eq s.lo t.lo) (int_eq t.lo t.hi) h in
    let a = and_left (int_eq s.lo s.hi) (int_eq s.lo t.lo) ab in
    let b = and_right (int_eq s.lo s.hi) (int_eq s.lo t.lo) ab in
    let c = and_right (int_eq s.lo s.hi && int_eq s.lo t.lo) (int_eq t.lo t.hi) h in
    record {
      one_up = le_of _ _ (and_left (int_le s.lo s.hi) (int_le s.hi s.lo) a);
      one = le_of _ _ (and_right (int_le s.lo s.hi) (int_le s.hi s.lo) a);
      up = le_of _ _ (and_left (int_le s.lo t.lo) (int_le t.lo s.lo) b);
      down = le_of _ _ (and_right (int_le s.lo t.lo) (int_le t.lo s.lo) b);
      two_up = le_of _ _ (and_left (int_le t.lo t.hi) (int_le t.hi t.lo) c);
      two = le_of _ _ (and_right (int_le t.lo t.hi) (int_le t.hi t.lo) c);
    }

of_single : (s t : Span) → Single s t → r.same_single s t ≡ true
of_single s t h =
    let e1 : s.lo ≡ s.hi = omega (arith, ints, h.one, h.one_up) in
    let e2 : s.lo ≡ t.lo = omega (arith, ints, h.up, h.down) in
    let e3 : t.lo ≡ t.hi = omega (arith, ints, h.two, h.two_up) in
    three _ _ _ (eq_true _ _ e1) (eq_true _ _ e2) (eq_true _ _ e3)
  where
    eq_true : (x y : ℤ) → x ≡ y → int_eq x y ≡ true
    eq_true x y e = rw (← e) (both (int_le x x) (of_le x x (≤ℤ_refl x)))
      where
        both : (b : Bool) → b ≡ true → (b && b) ≡ true
        both b e = rw e refl

    three : (a b c : Bool) → a ≡ true → b ≡ true → c ≡ true → (a && b && c) ≡ true
    three a b c p q r = rw (p, q, r) refl

pub same_falls : (a b a' b' : Span) → Inside a a' → Inside b b' → r.same_single a' b' ≡ true → r.same_single a b ≡ true
same_falls a b a' b' i j e = let s = single_of a' b' e in of_single a b (record { one = omega (arith, ints); up = omega (arith, ints); down = omega (arith, ints); two = omega (arith, ints); one_up = i.proper; two_up = j.proper })

differ_grows : Grows r.may_differ
differ_grows = record { by = λ a b a' b' i j e. not_grows (r.same_single a b) (r.same_single a' b') (same_falls a b a' b' i j) e }

-- two tests on intervals, of which one holds
pub record AreTests (may may_not : Span → Span → Bool) : Type 0 where
  pub yes_grows : Grows may
  pub no_grows : Grows may_not
  pub some : (a b : Span) → a.lo ≤ℤ a.hi → b.lo ≤ℤ b.hi → (may a b || may_not a b) ≡ true

pub less_tests : AreTests r.may_be_less r.may_be_at_least
less_tests = record {
  yes_grows = less_grows;
  no_grows = at_least_grows;
  some = λ a b p q. by_lt_z a.lo b.hi (λ l. or_left (int_lt a.lo b.hi) (int_le b.lo a.hi) (of_lt _ _ l)) (λ l. or_right (int_lt a.lo b.hi) (int_le b.lo a.hi) (of_le b.lo a.hi (omega (arith, ints))));
}

pub at_most_tests : AreTests r.may_be_at_most r.may_be_greater
at_most_tests = record {
  yes_grows = at_most_grows;
  no_grows = greater_grows;
  some = λ a b p q. by_lt_z b.lo a.hi (λ l. or_right (int_le a.lo b.hi) (int_lt b.lo a.hi) (of_lt _ _ l)) (λ l. or_left (int_le a.lo b.hi) (int_lt b.lo a.hi) (of_le a.lo b.hi (omega (arith, ints))));
}

meet_or_differ : (a b : Span) → a.lo ≤ℤ a.hi → b.lo ≤ℤ b.hi → (r.meets a b || r.may_differ a b) ≡ true
meet_or_differ a b p q = pick (r.same_single a b) (λ e. meet (single_of a b e))
  where
    meet : Single a b → r.meets a b ≡ true
    meet s = let k : int_le a.lo b.hi ≡ true = of_le a.lo b.hi (omega (arith, ints)) in let l : int_le b.lo a.hi ≡ true = of_le b.lo a.hi (omega (arith, ints)) in rw (k, l) refl

    pick : (s : Bool) → (s ≡ true → r.meets a b ≡ true) → (r.meets a b || not s) ≡ true
    pick true m = or_left (r.meets a b) false (m refl)
    pick false m = or_right (r.meets a b) true refl

pub eq_tests : AreTests r.meets r.may_differ
eq_tests = record { yes_grows = meets_grows; no_grows = differ_grows; some = meet_or_differ }

pub ne_tests : AreTests r.may_differ r.meets
ne_tests = record { yes_grows = differ_grows; no_grows = meets_grows; some = λ a b p q. or_swap (r.meets a b) (r.may_differ a b) (meet_or_differ a b p q) }

pub compare_some : (may may_not : Span → Span → Bool) → AreTests may may_not → (o p o' p' : Option Span) (u v : Bool) → (is_some o || u) ≡ true → (is_some p || v) ≡ true → IsCoveredBy o o' → IsCoveredBy p p' →
    (r.compare_intervals may o p || (u || v || r.compare_intervals may_not o p)) ≡ true
compare_some may may_not t None p o' p' u v h k f g = or_left (u || v) false (or_left u v h)
compare_some may may_not t (Some x) None o' p' u v h k f g = or_left (u || v) false (or_right u v k)
compare_some may may_not t (Some x) (Some y) None p' u v h k f g = absurd f
compare_some may may_not t (Some x) (Some y) (Some x') None u v h k f g = absurd g
compare_some may may_not t (Some x) (Some y) (Some x') (Some y') u v h k f g =
    or_split (may x y) (may_not x y) (t.some x y f.proper g.proper) (or_left (may x y) (u || v || may_not x y)) (λ e. or_right (may x y) (u || v || may_not x y) (or_right (u || v) (may_not x y) e))

-- the numbers of a truth value
pub bits_inside : (y n y' n' : Bool) → (y || n) ≡ true → (y ≡ true → y' ≡ true) → (n ≡ true → n' ≡ true) → Inside (r.bits y n) (r.bits y' n')
bits_inside y n y' n' s f g = record { lo = low n n' g; proper = mid y n s; hi = high y y' f }
  where
    low : (n n' : Bool) → (n ≡ true → n' ≡ true) → (r.bits y' n').lo ≤ℤ (r.bits y n).lo
    low true true g = record { le = tt }
    low true false g = absurd (false≢true (g refl))
    low false true g = record { le = tt }
    low false false g = record { le = tt }

    high : (y y' : Bool) → (y ≡ true → y' ≡ true) → (r.bits y n).hi ≤ℤ (r.bits y' n').hi
    high true true g = record { le = tt }
    high true false g = absurd (false≢true (g refl))
    high false true g = record { le = tt }
    high false false g = record { le = tt }

    mid : (y n : Bool) → (y || n) ≡ true → (r.bits y n).lo ≤ℤ (r.bits y n).hi
    mid true true s = record { le = tt }
    mid true false s = record { le = tt }
    mid false true s = record { le = tt }
    mid false false s = absurd (false≢true s)
