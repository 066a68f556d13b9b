-- Counts over smaller intervals.
use Rattle.std.proofs.Common.{◌≡◌, ℕ, ◌≤◌, List, [], ◌∷◌, Bool, true, false, ◌&&◌, ◌||◌, Option, Some, None, suc, refl, sym, ◌∙◌, arith}
use Rattle.std.specs.Prelude.{int_le, is_some, if◌then◌else◌}
use Rattle.std.proofs.lemmas.Int.{ints}
use Rattle.std.proofs.lemmas.Bool.{false≢true}
use Rattle.ms_num.specs.Span.{Span, Inside}
use Rattle.ms_trees.specs.Laws.{IsCoveredBy, MeansFewerNumbers}
use Rattle.ms_trees.specs.Value.{how_many}
use Rattle.ms_trees.specs.Enclosure as r
use Rattle.ms_trees.specs.declared.tree.Enclosure.{Enclosure}
use Rattle.ms_trees.proofs.Bools.{and_left, and_right, and_true, or_left, or_right, or_less, of_le}
use Rattle.ms_trees.proofs.Lists.{AllLess, any_undefined_less}
use Rattle.ms_trees.proofs.Apart.{meets_more, all_some_more, all_some_of}
use Rattle.ms_trees.proofs.Comparisons.{single_of, same_falls}

count_more : (f g : Enclosure → Bool) → ((s l : Enclosure) → MeansFewerNumbers s l → f s ≡ true → g l ≡ true) → (ss ls : List Enclosure) → AllLess ss ls → how_many f ss ≤ how_many g ls
count_more f g h [] [] a = omega arith
count_more f g h [] (y ∷ ys) a = absurd a
count_more f g h (x ∷ xs) [] a = absurd a
count_more f g h (x ∷ xs) (y ∷ ys) a = one (f x) (g y) (how_many f xs) (how_many g ys) (h x y a.0) (count_more f g h xs ys a.1)
  where
    one : (b c : Bool) (m n : ℕ) → (b ≡ true → c ≡ true) → m ≤ n → (if b then suc m else m) ≤ (if c then suc n else n)
    one true true m n k l = omega arith
    one true false m n k l = absurd (false≢true (k refl))
    one false true m n k l = omega arith
    one false false m n k l = l

-- where all parts have intervals, a count on the greater intervals is one on the smaller
count_less : (f g : Enclosure → Bool) → ((s l : Enclosure) → MeansFewerNumbers s l → is_some s.interval ≡ true → g l ≡ true → f s ≡ true) → (ss ls : List Enclosure) → AllLess ss ls → r.all_some ss ≡ true → how_many g ls ≤ how_many f ss
count_less f g h [] [] a e = omega arith
count_less f g h [] (y ∷ ys) a e = absurd a
count_less f g h (x ∷ xs) [] a e = absurd a
count_less f g h (x ∷ xs) (y ∷ ys) a e =
    one (g y) (f x) (how_many g ys) (how_many f xs) (h x y a.0 (and_left (is_some x.interval) (r.all_some xs) e)) (count_less f g h xs ys a.1 (and_right (is_some x.interval) (r.all_some xs) e))
  where
    one : (b c : Bool) (m n : ℕ) → (b ≡ true → c ≡ true) → m ≤ n → (if b then suc m else m) ≤ (if c then suc n else n)
    one true true m n k l = omega arith
    one true false m n k l = absurd (false≢true (k refl))
    one false true m n k l = omega arith
    one false false m n k l = l

count_proper : (f g : Enclosure → Bool) → ((s l : Enclosure) → MeansFewerNumbers s l → f s ≡ true → g s ≡ true) → (ss ls : List Enclosure) → AllLess ss ls → how_many f ss ≤ how_many g ss
count_proper f g h [] ls a = omega arith
count_proper f g h (x ∷ xs) [] a = absurd a
count_proper f g h (x ∷ xs) (y ∷ ys) a = one (f x) (g x) (how_many f xs) (how_many g xs) (h x y a.0) (count_proper f g h xs ys a.1)
  where
    one : (b c : Bool) (m n : ℕ) → (b ≡ true → c ≡ true) → m ≤ n → (if b then suc m else m) ≤ (if c then suc n else n)
    one true true m n k l = omega arith
    one true false m n k l = absurd (false≢true (k refl))
    one false true m n k l = omega arith
    one false false m n k l = l

same_meets : (s t : Span) → r.same_single s t ≡ true → r.meets s t ≡ true
same_meets s t e = let k = single_of s t e in and_true (int_le s.lo t.hi) (int_le t.lo s.hi) (of_le s.lo t.hi (omega (arith, ints, k.up, k.two_up))) (of_le t.lo s.hi (omega (arith, ints, k.down, k.one_up)))

counts_inside : (ss ls : List Enclosure) (s t : Span) → AllLess ss ls → r.all_some ss ≡ true → Inside s t → Inside (r.counts ss (Some s)) (r.counts ls (Some t))
counts_inside ss ls s t a e i =
    let low = count_less (λ q. r.compare_intervals r.same_single q.interval (Some s)) (λ q. r.compare_intervals r.same_single q.interval (Some t)) (λ x y n. falls x.interval y.interval n.interval) ss ls a e in
    let mid = count_proper (λ q. r.compare_intervals r.same_single q.interval (Some s)) (λ q. r.compare_intervals r.meets q.interval (Some s)) (λ x y n. meet x.interval) ss ls a in
    let high = count_more (λ q. r.compare_intervals r.meets q.interval (Some s)) (λ q. r.compare_intervals r.meets q.interval (Some t)) (λ x y n. grow x.interval y.interval n.interval) ss ls a in
    record { lo = omega (arith, ints, low); proper = omega (arith, ints, mid); hi = omega (arith, ints, high) }
  where
    falls : (o p : Option Span) → IsCoveredBy o p → is_some o ≡ true → r.compare_intervals r.same_single p (Some t) ≡ true → r.compare_intervals r.same_single o (Some s) ≡ true
    falls None p f k g = absurd (false≢true k)
    falls (Some x) None f k g = absurd f
    falls (Some x) (Some y) f k g = same_falls x s y t f i g

    meet : (o : Option Span) → r.compare_intervals r.same_single o (Some s) ≡ true → r.compare_intervals r.meets o (Some s) ≡ true
    meet None g = g
    meet (Some x) g = same_meets x s g

    grow : (o p : Option Span) → IsCoveredBy o p → r.compare_intervals r.meets o (Some s) ≡ true → r.compare_intervals r.meets p (Some t) ≡ true
    grow None p f g = absurd (false≢true g)
    grow (Some x) None f g = absurd f
    grow (Some x) (Some y) f g = meets_more x s y t f i g

pub counted_less : (ss ls : List Enclosure) (s l : Enclosure) → AllLess ss ls → MeansFewerNumbers s l → MeansFewerNumbers (r.counted_enclosure ss s) (r.counted_enclosure ls l)
counted_less ss ls s l a n = record {
  some = some s.interval s.may_be_undefined n.some;
  interval = fewer s.interval l.interval n.interval;
  may_be_undefined = or_less s.may_be_undefined (r.any_may_be_undefined ss) l.may_be_undefined (r.any_may_be_undefined ls) n.may_be_undefined (any_undefined_less ss ls a);
}
  where
    made : (b : Bool) (x : Span) (u : Bool) → (b ≡ false → u ≡ true) → (is_some (if b && true then Some x else None) || u) ≡ true
    made true x u f = refl
    made false x u f = f refl

    missing : (b : Bool) → r.any_may_be_undefined ss ≡ b → r.all_some ss ≡ false → b ≡ true
    missing true e k = refl
    missing false e k = absurd (false≢true (sym k ∙ all_some_of ss ls a e))

    some : (o : Option Span) (u : Bool) → (is_some o || u) ≡ true → (is_some (if r.all_some ss && is_some o then Some (r.counts ss o) else None) || (u || r.any_may_be_undefined ss)) ≡ true
    some None u h = or_right (is_some (if r.all_some ss && false then Some (r.counts ss None) else None)) (u || r.any_may_be_undefined ss) (or_left u (r.any_may_be_undefined ss) h)
    some (Some x) u h = made (r.all_some ss) (r.counts ss (Some x)) (u || r.any_may_be_undefined ss) (λ k. or_right u (r.any_may_be_undefined ss) (missing (r.any_may_be_undefined ss) refl k))

    pair : (b c : Bool) (x y : Span) → (b ≡ true → c ≡ true) → (b ≡ true → Inside x y) → IsCoveredBy (if b && true then Some x else None) (if c && true then Some y else None)
    pair true true x y f g = g refl
    pair true false x y f g = absurd (false≢true (f refl))
    pair false c x y f g = tt

    none : (b : Bool) (x : Span) (q : Option Span) → IsCoveredBy (if b && false then Some x else None) q
    none true x q = tt
    none false x q = tt

    fewer : (o p : Option Span) → IsCoveredBy o p → IsCoveredBy (if r.all_some ss && is_some o then Some (r.counts ss o) else None) (if r.all_some ls && is_some p then Some (r.counts ls p) else None)
    fewer None p f = none (r.all_some ss) (r.counts ss None) (if r.all_some ls && is_some p then Some (r.counts ls p) else None)
    fewer (Some x) None f = absurd f
    fewer (Some x) (Some y) f = pair (r.all_some ss) (r.all_some ls) (r.counts ss (Some x)) (r.counts ls (Some y)) (all_some_more ss ls a) (λ e. counts_inside ss ls x y a e f)
