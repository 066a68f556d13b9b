-- Sets and tables on smaller intervals.
use Rattle.std.proofs.Common.{◌≡◌, List, [], ◌∷◌, Bool, true, false, not, ◌&&◌, ◌||◌, Option, Some, None, sym, ◌∙◌, arith}
use Rattle.std.specs.Prelude.{ℤ, ◌≤ℤ◌, int_le, int_lt, is_some}
use Rattle.std.specs.List.{list_any}
use Rattle.std.proofs.lemmas.Int.{ints}
use Rattle.std.proofs.lemmas.Bool.{false≢true}
use Rattle.ms_num.specs.Span.{Span, Inside, has}
use Rattle.ms_trees.specs.Laws.{IsCoveredBy, MeansFewerNumbers, MeansFewerTruths}
use Rattle.ms_trees.specs.Enclosure as r
use Rattle.ms_trees.specs.declared.tree.Enclosure.{Enclosure}
use Rattle.ms_trees.proofs.Bools.{and_left, and_right, and_true, and_less, or_left, or_right, or_split, or_less, or_false, not_grows, true_not, is_false, both_ways, le_of, of_le, lt_of, of_lt, not_lt}
use Rattle.ms_trees.proofs.Lists.{AllLess, any_undefined_less, has_grows}
use Rattle.ms_trees.proofs.Apart.{all_some_of}

in_more : (rs : List Span) (s t : Span) → Inside s t → r.may_be_in rs s ≡ true → r.may_be_in rs t ≡ true
in_more [] s t i e = e
in_more (q ∷ rs) s t i e = or_less (r.meets q s) (r.may_be_in rs s) (r.meets q t) (r.may_be_in rs t) here (in_more rs s t i) e
  where
    here : r.meets q s ≡ true → r.meets q t ≡ true
    here e =
        let a = le_of q.lo s.hi (and_left (int_le q.lo s.hi) (int_le s.lo q.hi) e) in
        let b = le_of s.lo q.hi (and_right (int_le q.lo s.hi) (int_le s.lo q.hi) e) in
        and_true (int_le q.lo t.hi) (int_le t.lo q.hi) (of_le q.lo t.hi (omega (arith, ints))) (of_le t.lo q.hi (omega (arith, ints)))

inside_less : (rs : List Span) (s t : Span) → Inside s t → r.is_inside rs t ≡ true → r.is_inside rs s ≡ true
inside_less [] s t i e = e
inside_less (q ∷ rs) s t i e = or_less (int_le q.lo t.lo && int_le t.hi q.hi) (r.is_inside rs t) (int_le q.lo s.lo && int_le s.hi q.hi) (r.is_inside rs s) here (inside_less rs s t i) e
  where
    here : (int_le q.lo t.lo && int_le t.hi q.hi) ≡ true → (int_le q.lo s.lo && int_le s.hi q.hi) ≡ true
    here e =
        let a = le_of q.lo t.lo (and_left (int_le q.lo t.lo) (int_le t.hi q.hi) e) in
        let b = le_of t.hi q.hi (and_right (int_le q.lo t.lo) (int_le t.hi q.hi) e) in
        and_true (int_le q.lo s.lo) (int_le s.hi q.hi) (of_le q.lo s.lo (omega (arith, ints))) (of_le s.hi q.hi (omega (arith, ints)))

inside_in : (rs : List Span) (s : Span) → s.lo ≤ℤ s.hi → r.is_inside rs s ≡ true → r.may_be_in rs s ≡ true
inside_in [] s h e = e
inside_in (q ∷ rs) s h e = or_less (int_le q.lo s.lo && int_le s.hi q.hi) (r.is_inside rs s) (r.meets q s) (r.may_be_in rs s) here (inside_in rs s h) e
  where
    here : (int_le q.lo s.lo && int_le s.hi q.hi) ≡ true → r.meets q s ≡ true
    here e =
        let a = le_of q.lo s.lo (and_left (int_le q.lo s.lo) (int_le s.hi q.hi) e) in
        let b = le_of s.hi q.hi (and_right (int_le q.lo s.lo) (int_le s.hi q.hi) e) in
        and_true (int_le q.lo s.hi) (int_le s.lo q.hi) (of_le q.lo s.hi (omega (arith, ints))) (of_le s.lo q.hi (omega (arith, ints)))

pub in_less : (rs : List Span) (s l : Enclosure) → MeansFewerNumbers s l →
    MeansFewerTruths (r.boolean_enclosure (r.test_interval (r.may_be_in rs) s.interval) (s.may_be_undefined || r.test_interval (λ s. not (r.is_inside rs s)) s.interval)) (r.boolean_enclosure (r.test_interval (r.may_be_in rs) l.interval) (l.may_be_undefined || r.test_interval (λ s. not (r.is_inside rs s)) l.interval))
in_less rs s l n = record {
  some = some s.interval l.interval s.may_be_undefined n.interval n.some;
  may_be_true = met s.interval l.interval n.interval;
  may_be_false = or_less s.may_be_undefined _ l.may_be_undefined _ n.may_be_undefined (no s.interval l.interval n.interval);
}
  where
    some : (o p : Option Span) (u : Bool) → IsCoveredBy o p → (is_some o || u) ≡ true → (r.test_interval (r.may_be_in rs) o || (u || r.test_interval (λ s. not (r.is_inside rs s)) o)) ≡ true
    some None p u f h = or_left u false h
    some (Some x) None u f h = absurd f
    some (Some x) (Some y) u f h =
        both_ways (r.is_inside rs x) (λ e. or_left (r.may_be_in rs x) (u || not (r.is_inside rs x)) (inside_in rs x f.proper e))
        (λ e. or_right (r.may_be_in rs x) (u || not (r.is_inside rs x)) (or_right u (not (r.is_inside rs x)) (true_not (r.is_inside rs x) e)))

    met : (o p : Option Span) → IsCoveredBy o p → r.test_interval (r.may_be_in rs) o ≡ true → r.test_interval (r.may_be_in rs) p ≡ true
    met None p f e = absurd (false≢true e)
    met (Some x) None f e = absurd f
    met (Some x) (Some y) f e = in_more rs x y f e

    no : (o p : Option Span) → IsCoveredBy o p → r.test_interval (λ s. not (r.is_inside rs s)) o ≡ true → r.test_interval (λ s. not (r.is_inside rs s)) p ≡ true
    no None p f e = absurd (false≢true e)
    no (Some x) None f e = absurd f
    no (Some x) (Some y) f e = not_grows (r.is_inside rs x) (r.is_inside rs y) (inside_less rs x y f) e

row_more : (zs : List ℤ) (ss ls : List Enclosure) → AllLess ss ls → r.may_be_row ss zs ≡ true → r.may_be_row ls zs ≡ true
row_more [] [] [] a e = e
row_more [] [] (y ∷ ys) a e = absurd a
row_more [] (x ∷ xs) ls a e = absurd (false≢true e)
row_more (z ∷ zs) [] ls a e = absurd (false≢true e)
row_more (z ∷ zs) (x ∷ xs) [] a e = absurd a
row_more (z ∷ zs) (x ∷ xs) (y ∷ ys) a e = and_less (r.test_interval (λ s. has s z) x.interval) (r.may_be_row xs zs) (r.test_interval (λ s. has s z) y.interval) (r.may_be_row ys zs) (one x.interval y.interval a.0.interval) (row_more zs xs ys a.1) e
  where
    one : (o p : Option Span) → IsCoveredBy o p → r.test_interval (λ s. has s z) o ≡ true → r.test_interval (λ s. has s z) p ≡ true
    one None p f e = absurd (false≢true e)
    one (Some s) None f e = absurd f
    one (Some s) (Some t) f e = has_grows s t z f e

rows_more : (rows : List (List ℤ)) (ss ls : List Enclosure) → AllLess ss ls → list_any (r.may_be_row ss) rows ≡ true → list_any (r.may_be_row ls) rows ≡ true
rows_more [] ss ls a e = e
rows_more (zs ∷ rows) ss ls a e = or_less (r.may_be_row ss zs) (list_any (r.may_be_row ss) rows) (r.may_be_row ls zs) (list_any (r.may_be_row ls) rows) (row_more zs ss ls a) (rows_more rows ss ls a) e

several_more : (ss ls : List Enclosure) → AllLess ss ls → r.some_several ss ≡ true → r.some_several ls ≡ true
several_more [] ls a e = absurd (false≢true e)
several_more (x ∷ xs) [] a e = absurd a
several_more (x ∷ xs) (y ∷ ys) a e = or_less (r.test_interval (λ s. int_lt s.lo s.hi) x.interval) (r.some_several xs) (r.test_interval (λ s. int_lt s.lo s.hi) y.interval) (r.some_several ys) (one x.interval y.interval a.0.interval) (several_more xs ys a.1) e
  where
    one : (o p : Option Span) → IsCoveredBy o p → r.test_interval (λ s. int_lt s.lo s.hi) o ≡ true → r.test_interval (λ s. int_lt s.lo s.hi) p ≡ true
    one None p f e = absurd (false≢true e)
    one (Some s) None f e = absurd f
    one (Some s) (Some t) f e = let k = lt_of s.lo s.hi e in of_lt t.lo t.hi (omega (arith, ints))

-- where the parts of the greater box are single numbers, those of the smaller are the same
row_less : (zs : List ℤ) (ss ls : List Enclosure) → AllLess ss ls → r.all_some ss ≡ true → r.some_several ls ≡ false → r.may_be_row ls zs ≡ true → r.may_be_row ss zs ≡ true
row_less zs [] [] a f g e = e
row_less zs [] (y ∷ ys) a f g e = absurd a
row_less zs (x ∷ xs) [] a f g e = absurd a
row_less [] (x ∷ xs) (y ∷ ys) a f g e = absurd (false≢true e)
row_less (z ∷ zs) (x ∷ xs) (y ∷ ys) a f g e =
    let k = or_false (r.test_interval (λ s. int_lt s.lo s.hi) y.interval) (r.some_several ys) g in
    and_less (r.test_interval (λ s. has s z) y.interval) (r.may_be_row ys zs) (r.test_interval (λ s. has s z) x.interval) (r.may_be_row xs zs) (one x.interval y.interval a.0.interval (and_left (is_some x.interval) (r.all_some xs) f) k.0) (row_less zs xs ys a.1 (and_right (is_some x.interval) (r.all_some xs) f) k.1) e
  where
    one : (o p : Option Span) → IsCoveredBy o p → is_some o ≡ true → r.test_interval (λ s. int_lt s.lo s.hi) p ≡ false → r.test_interval (λ s. has s z) p ≡ true → r.test_interval (λ s. has s z) o ≡ true
    one None p f g h e = absurd (false≢true g)
    one (Some s) None f g h e = absurd f
    one (Some s) (Some t) f g h e =
        let k = not_lt t.lo t.hi h in
        let b = le_of t.lo z (and_left (int_le t.lo z) (int_le z t.hi) e) in
        let c = le_of z t.hi (and_right (int_le t.lo z) (int_le z t.hi) e) in
        and_true (int_le s.lo z) (int_le z s.hi) (of_le s.lo z (omega (arith, ints))) (of_le z s.hi (omega (arith, ints)))

rows_less : (rows : List (List ℤ)) (ss ls : List Enclosure) → AllLess ss ls → r.all_some ss ≡ true → r.some_several ls ≡ false → list_any (r.may_be_row ls) rows ≡ true → list_any (r.may_be_row ss) rows ≡ true
rows_less [] ss ls a f g e = e
rows_less (zs ∷ rows) ss ls a f g e = or_less (r.may_be_row ls zs) (list_any (r.may_be_row ls) rows) (r.may_be_row ss zs) (list_any (r.may_be_row ss) rows) (row_less zs ss ls a f g) (rows_less rows ss ls a f g) e

pub rowed_less : (rows : List (List ℤ)) (ss ls : List Enclosure) → AllLess ss ls → MeansFewerTruths (r.rowed rows ss) (r.rowed rows ls)
rowed_less rows ss ls a = record {
  some = both_ways (list_any (r.may_be_row ss) rows) (λ e. or_left (list_any (r.may_be_row ss) rows) (r.any_may_be_undefined ss || r.some_several ss || not (list_any (r.may_be_row ss) rows)) e)
      (λ e. or_right (list_any (r.may_be_row ss) rows) (r.any_may_be_undefined ss || r.some_several ss || not (list_any (r.may_be_row ss) rows)) (or_right (r.any_may_be_undefined ss || r.some_several ss) (not (list_any (r.may_be_row ss) rows)) (true_not (list_any (r.may_be_row ss) rows) e)));
  may_be_true = rows_more rows ss ls a;
  may_be_false = λ e.
      both_ways (r.any_may_be_undefined ls || r.some_several ls) (λ k. or_left (r.any_may_be_undefined ls || r.some_several ls) (not (list_any (r.may_be_row ls) rows)) k)
      (λ k.
      or_split (r.any_may_be_undefined ss || r.some_several ss) (not (list_any (r.may_be_row ss) rows)) e
      (λ h. or_left (r.any_may_be_undefined ls || r.some_several ls) (not (list_any (r.may_be_row ls) rows)) (or_less (r.any_may_be_undefined ss) (r.some_several ss) (r.any_may_be_undefined ls) (r.some_several ls) (any_undefined_less ss ls a) (several_more ss ls a) h))
      (λ h.
      let p = or_false (r.any_may_be_undefined ls) (r.some_several ls) k in
      let u : r.any_may_be_undefined ss ≡ false = is_false (r.any_may_be_undefined ss) (λ g. false≢true (sym p.0 ∙ any_undefined_less ss ls a g)) in
      or_right (r.any_may_be_undefined ls || r.some_several ls) (not (list_any (r.may_be_row ls) rows))
      (not_grows (list_any (r.may_be_row ss) rows) (list_any (r.may_be_row ls) rows) (rows_less rows ss ls a (all_some_of ss ls a u) p.1) h)));
}
