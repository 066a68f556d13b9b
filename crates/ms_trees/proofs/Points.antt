-- What operations on integer parts give on one assignment.
use Rattle.std.proofs.Common.{◌≡◌, ℕ, List, [], ◌∷◌, Bool, true, false, not, cond, ◌&&◌, ◌||◌, Option, Some, None, map, suc, refl, sym, ap, ◌∙◌, arith}
use Rattle.std.proofs.lemmas.Bool.{false≢true}
use Rattle.std.specs.Prelude.{ℤ, pos, ◌*ℤ◌, int_lt, neg_ℤ, unsigned_abs, is_some, if◌then◌else◌}
use Rattle.std.specs.Int.{int_min, int_max}
use Rattle.std.specs.List.{list_any}
use Rattle.std.proofs.lemmas.Int.{ints, int_max_is}
use Rattle.ms_num.proofs.SharedImages.{abs_is}
use Rattle.ms_num.specs.Numbers.{int_eq, neg_at, abs_at, add_at, sub_at, mul_at, min_at, max_at}
use Rattle.ms_num.specs.Span.{Span, has, point, neg_span, abs_span, add_span, sub_span, mul_span, min_span, max_span}
use Rattle.ms_num.specs.Ranges.{is_member}
use Rattle.ms_trees.specs.Value as v
use Rattle.ms_trees.specs.Value.{Meaning}
use Rattle.ms_trees.specs.Enclosure as r
use Rattle.ms_trees.specs.Laws.{of_number}
use Rattle.ms_trees.specs.declared.tree.Enclosure.{Enclosure}
use Rattle.ms_trees.proofs.Bools.{ap2, and_one, le_same, lt_flip, not_true}

-- what integer parts may mean on the assignment
abbrev pub spans : List Meaning → List Enclosure
spans ms = map (λ m. of_number m.number) ms

-- the operation on intervals gives single numbers on single numbers
pub record IsPointwise (f : ℤ → ℤ → Option ℤ) (F : Span → Span → Span) : Type 0 where
  pub at : (x y : ℤ) → of_number (f x y) ≡ r.numeric_enclosure (Some (F (point x) (point y))) false

min_same : (z : ℤ) → int_min z z ≡ z
min_same z = same (int_lt z z)
  where
    same : (b : Bool) → cond b z z ≡ z
    same true = refl
    same false = refl

max_same : (z : ℤ) → int_max z z ≡ z
max_same z = same (int_lt z z)
  where
    same : (b : Bool) → cond b z z ≡ z
    same true = refl
    same false = refl

mul_point : (x y : ℤ) → mul_span (point x) (point y) ≡ point (x *ℤ y)
mul_point x y = simp (min_same, max_same)

pub add_points : IsPointwise add_at add_span
add_points = record { at = λ x y. refl }

pub sub_points : IsPointwise sub_at sub_span
sub_points = record { at = λ x y. refl }

pub mul_points : IsPointwise mul_at mul_span
mul_points = record { at = λ x y. ap (λ s. r.numeric_enclosure (Some s) false) (sym (mul_point x y)) }

pub min_points : IsPointwise min_at min_span
min_points = record { at = λ x y. refl }

pub max_points : IsPointwise max_at max_span
max_points = record { at = λ x y. refl }

pub exact_operation : (f : ℤ → ℤ → Option ℤ) (F : Span → Span → Span) → IsPointwise f F → (m n : Option ℤ) → r.operation F (of_number m) (of_number n) ≡ of_number (v.both f m n)
exact_operation f F p None n = refl
exact_operation f F p (Some x) None = refl
exact_operation f F p (Some x) (Some y) = sym (p.at x y)

pub exact_neg : (m : Option ℤ) → r.image_enclosure neg_span (of_number m) ≡ of_number (v.image neg_at m)
exact_neg None = refl
exact_neg (Some x) = refl

abs_point : (x : ℤ) → abs_span (point x) ≡ point (pos (unsigned_abs x))
abs_point x = ap2 (λ l h. record { lo = l; hi = h }) low high
  where
    low : int_max (int_max x (neg_ℤ x)) (pos 0) ≡ pos (unsigned_abs x)
    low = omega (arith, ints, abs_is x, int_max_is (int_max x (neg_ℤ x)) (pos 0))

    high : int_max (neg_ℤ x) x ≡ pos (unsigned_abs x)
    high = omega (arith, ints, abs_is x, int_max_is x (neg_ℤ x), int_max_is (neg_ℤ x) x)

pub exact_abs : (m : Option ℤ) → r.image_enclosure abs_span (of_number m) ≡ of_number (v.image abs_at m)
exact_abs None = refl
exact_abs (Some x) = ap (λ s. r.numeric_enclosure (Some s) false) (abs_point x)

-- an operation that has come to a number or to nothing
pub exact_folded : (f : ℤ → ℤ → Option ℤ) (F : Span → Span → Span) → IsPointwise f F → (o : Option ℤ) (ms : List Meaning) →
    r.numeric_enclosure (r.folded_intervals F (of_number o).interval (spans ms)) ((of_number o).may_be_undefined || r.any_may_be_undefined (spans ms)) ≡ of_number (v.folded f o ms)
exact_folded f F p None [] = refl
exact_folded f F p (Some z) [] = refl
exact_folded f F p o (m ∷ ms) = step o m.number (spans ms) ∙ exact_folded f F p (v.both f o m.number) ms
  where
    step : (o n : Option ℤ) (rs : List Enclosure) →
        r.numeric_enclosure (r.folded_intervals F (r.both_intervals F (of_number o).interval (of_number n).interval) rs) ((of_number o).may_be_undefined || ((of_number n).may_be_undefined || r.any_may_be_undefined rs))
        ≡ r.numeric_enclosure (r.folded_intervals F (of_number (v.both f o n)).interval rs) ((of_number (v.both f o n)).may_be_undefined || r.any_may_be_undefined rs)
    step None n rs = refl
    step (Some x) None rs = refl
    step (Some x) (Some y) rs = ap (λ (q : Enclosure). r.numeric_enclosure (r.folded_intervals F q.interval rs) (q.may_be_undefined || r.any_may_be_undefined rs)) (sym (p.at x y))

pub exact_extreme : (f : ℤ → ℤ → Option ℤ) (F : Span → Span → Span) → IsPointwise f F → (ms : List Meaning) → r.extreme_enclosure F (spans ms) ≡ of_number (v.extreme f ms)
exact_extreme f F p [] = refl
exact_extreme f F p (m ∷ ms) = exact_folded f F p m.number ms

pub single : (x y : ℤ) → r.same_single (point x) (point y) ≡ int_eq x y
single x y = rw (le_same x, le_same y) (and_one (int_eq x y))

-- a comparison of single numbers is that of the numbers
pub exact_comparison : (may may_not : Span → Span → Bool) (f : ℤ → ℤ → Bool) → ((x y : ℤ) → may (point x) (point y) ≡ f x y) → ((x y : ℤ) → may_not (point x) (point y) ≡ not (f x y)) → (m n : Option ℤ) →
    r.comparison may may_not (of_number m) (of_number n) ≡ r.boolean_enclosure (v.compare f m n) (not (v.compare f m n))
exact_comparison may may_not f p q None n = refl
exact_comparison may may_not f p q (Some x) None = refl
exact_comparison may may_not f p q (Some x) (Some y) = ap2 r.boolean_enclosure (p x y) (q x y)

-- ---- the number of parts that are the same number

pub all_defined : (ms : List Meaning) → r.all_some (spans ms) ≡ v.all_defined ms
all_defined [] = refl
all_defined (m ∷ ms) = one m.number (r.all_some (spans ms)) (v.all_defined ms) (all_defined ms)
  where
    one : (o : Option ℤ) (p q : Bool) → p ≡ q → (is_some (of_number o).interval && p) ≡ (is_some o && q)
    one None p q e = refl
    one (Some x) p q e = e

pub any_undefined : (ms : List Meaning) → r.any_may_be_undefined (spans ms) ≡ not (v.all_defined ms)
any_undefined [] = refl
any_undefined (m ∷ ms) = one m.number (r.any_may_be_undefined (spans ms)) (v.all_defined ms) (any_undefined ms)
  where
    one : (o : Option ℤ) (p q : Bool) → p ≡ not q → ((of_number o).may_be_undefined || p) ≡ not (is_some o && q)
    one None p q e = refl
    one (Some x) p q e = e

same_count : (F : Span → Span → Bool) → ((x y : ℤ) → F (point x) (point y) ≡ int_eq x y) → (n : Option ℤ) (ms : List Meaning) →
    v.how_many (λ q. r.compare_intervals F q.interval (of_number n).interval) (spans ms) ≡ v.how_many (λ m. v.compare int_eq m.number n) ms
same_count F p n [] = refl
same_count F p n (m ∷ ms) = ap2 (λ b k. if b then suc k else k) (one m.number n) (same_count F p n ms)
  where
    one : (o n : Option ℤ) → r.compare_intervals F (of_number o).interval (of_number n).interval ≡ v.compare int_eq o n
    one None n = refl
    one (Some x) None = refl
    one (Some x) (Some y) = p x y

pub exact_counted : (ms : List Meaning) (n : Option ℤ) → r.counted_enclosure (spans ms) (of_number n) ≡ of_number (v.counted ms n)
exact_counted ms n =
    all (r.all_some (spans ms)) (v.all_defined ms) (r.any_may_be_undefined (spans ms)) n _ _ _ (all_defined ms) (any_undefined ms) (same_count r.same_single single n ms) (same_count r.meets (λ x y. refl) n ms)
  where
    all : (p q u : Bool) (n : Option ℤ) (lo hi k : ℕ) → p ≡ q → u ≡ not q → lo ≡ k → hi ≡ k →
        r.numeric_enclosure (if p && is_some (of_number n).interval then Some (record { lo = pos lo; hi = pos hi }) else None) ((of_number n).may_be_undefined || u) ≡ of_number (if q && is_some n then Some (pos k) else None)
    all p true u None lo hi k e d f g = rw e refl
    all p false u None lo hi k e d f g = rw e refl
    all p true u (Some x) lo hi k e d f g = rw (e, d, f, g) refl
    all p false u (Some x) lo hi k e d f g = rw (e, d) refl

-- ---- conditionals

pub exact_either : (t : Bool) (m n : Option ℤ) → r.either_number (r.boolean_enclosure t (not t)) (of_number m) (of_number n) ≡ of_number (if t then m else n)
exact_either true None n = refl
exact_either true (Some x) n = refl
exact_either false m None = refl
exact_either false m (Some y) = refl

pub exact_either_truth : (t a b : Bool) → r.either_truth (r.boolean_enclosure t (not t)) (r.boolean_enclosure a (not a)) (r.boolean_enclosure b (not b)) ≡ r.boolean_enclosure (if t then a else b) (not (if t then a else b))
exact_either_truth true true b = refl
exact_either_truth true false b = refl
exact_either_truth false a b = refl

-- ---- sets and tables

pub exact_in : (rs : List Span) (m : Option ℤ) →
    r.boolean_enclosure (r.test_interval (r.may_be_in rs) (of_number m).interval) ((of_number m).may_be_undefined || r.test_interval (λ s. not (r.is_inside rs s)) (of_number m).interval) ≡ r.boolean_enclosure (v.test (is_member rs) m) (not (v.test (is_member rs) m))
exact_in rs None = refl
exact_in rs (Some x) = refl

exact_row : (ms : List Meaning) (zs : List ℤ) → r.may_be_row (spans ms) zs ≡ v.is_row ms zs
exact_row [] [] = refl
exact_row [] (z ∷ zs) = refl
exact_row (m ∷ ms) [] = refl
exact_row (m ∷ ms) (z ∷ zs) = ap2 (λ a b. a && b) (one m.number z) (exact_row ms zs)
  where
    one : (o : Option ℤ) (z : ℤ) → r.test_interval (λ s. has s z) (of_number o).interval ≡ v.test (λ x. int_eq x z) o
    one None z = refl
    one (Some x) z = refl

exact_rows : (ms : List Meaning) (rows : List (List ℤ)) → list_any (r.may_be_row (spans ms)) rows ≡ list_any (v.is_row ms) rows
exact_rows ms [] = refl
exact_rows ms (zs ∷ rows) = ap2 (λ a b. a || b) (exact_row ms zs) (exact_rows ms rows)

none_several : (ms : List Meaning) → r.some_several (spans ms) ≡ false
none_several [] = refl
none_several (m ∷ ms) = ap2 (λ a b. a || b) (one m.number) (none_several ms)
  where
    one : (o : Option ℤ) → r.test_interval (λ s. int_lt s.lo s.hi) (of_number o).interval ≡ false
    one None = refl
    one (Some x) = not_true (int_lt x x) (sym (lt_flip x x) ∙ le_same x)

no_row : (ms : List Meaning) (zs : List ℤ) → v.all_defined ms ≡ false → v.is_row ms zs ≡ false
no_row [] [] h = absurd (false≢true (sym h))
no_row [] (z ∷ zs) h = refl
no_row (m ∷ ms) [] h = refl
no_row (m ∷ ms) (z ∷ zs) h = one m.number h (no_row ms zs)
  where
    none : (b : Bool) → (b && false) ≡ false
    none true = refl
    none false = refl

    one : (o : Option ℤ) → (is_some o && v.all_defined ms) ≡ false → (v.all_defined ms ≡ false → v.is_row ms zs ≡ false) → (v.test (λ x. int_eq x z) o && v.is_row ms zs) ≡ false
    one None e k = refl
    one (Some x) e k = ap (λ b. int_eq x z && b) (k e) ∙ none (int_eq x z)

no_rows : (ms : List Meaning) (rows : List (List ℤ)) → v.all_defined ms ≡ false → list_any (v.is_row ms) rows ≡ false
no_rows ms [] h = refl
no_rows ms (zs ∷ rows) h = ap2 (λ a b. a || b) (no_row ms zs h) (no_rows ms rows h)

pub exact_rowed : (rows : List (List ℤ)) (ms : List Meaning) → r.rowed rows (spans ms) ≡ r.boolean_enclosure (list_any (v.is_row ms) rows) (not (list_any (v.is_row ms) rows))
exact_rowed rows ms = all (v.all_defined ms) _ (list_any (v.is_row ms) rows) _ _ (exact_rows ms rows) (any_undefined ms) (none_several ms) (no_rows ms rows)
  where
    all : (d p q u s : Bool) → p ≡ q → u ≡ not d → s ≡ false → (d ≡ false → q ≡ false) → r.boolean_enclosure p (u || s || not p) ≡ r.boolean_enclosure q (not q)
    all true p q u s e f g h = ap2 (λ x y. r.boolean_enclosure x (u || y || not x)) e g ∙ ap (λ y. r.boolean_enclosure q (y || false || not q)) f
    all false p q u s e f g h = ap2 (λ x y. r.boolean_enclosure x (y || s || not x)) (e ∙ h refl) f ∙ sym (ap (λ x. r.boolean_enclosure x (not x)) (h refl))
