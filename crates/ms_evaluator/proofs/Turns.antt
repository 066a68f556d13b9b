-- Walks over lists of enclosures.
use Rattle.std.proofs.Common.{◌≡◌, ℕ, ◌+◌, ◌<◌, ◌≤◌, List, [], ◌∷◌, length, drop, get_or, Option, Some, None, Bool, true, false, not, ◌&&◌, ◌||◌, refl, sym, ap, ◌∙◌, arith, suc, zero, add-one}
use Rattle.std.specs.Prelude.{ℤ, pos, int_le, if◌then◌else◌}
use Rattle.std.proofs.lemmas.Int.{ints}
use Rattle.ms_num.proofs.SharedSpans.{of_le}
use Rattle.ms_num.specs.Numbers.{int_eq}
use Rattle.std.specs.List.{list_any, list_all}
use Rattle.std.proofs.lemmas.Bool.{false≢true}
use Rattle.ms_num.specs.Span.{Span, has, join_some}
use Rattle.ms_trees.specs.Value.{how_many}
use Rattle.ms_trees.specs.Enclosure as r
use Rattle.ms_trees.specs.declared.tree.Enclosure.{Enclosure}
use Rattle.ms_trees.proofs.Bools.{and_left, and_right, and_true, or_left, or_right, is_false, eq_of}
use Rattle.ms_trees.proofs.Fits.{drop_here, read_default}
use Rattle.ms_evaluator.specs.Claims.{part_at}

-- the rest of a list from a place on
pub part_here : (ps : List Enclosure) (k : ℕ) → k < length ps → drop k ps ≡ part_at ps k ∷ drop (k + 1) ps
part_here ps k b = drop_here ps k (part_at ps k) b (read_default ps k (r.numeric_enclosure None false) (part_at ps k) b)

-- the rest, where the item is known by another default
pub item_here : (ps : List Enclosure) (k : ℕ) (x : Enclosure) → k < length ps → x ≡ get_or ps k x → drop k ps ≡ x ∷ drop (k + 1) ps
item_here ps k x b e = drop_here ps k x b e

pub read : (ps : List Enclosure) (k : ℕ) (x : Enclosure) → k < length ps → x ≡ get_or ps k x → x ≡ part_at ps k
read ps k x b e = e ∙ read_default ps k x (r.numeric_enclosure None false) b

pub any_at : (f : Enclosure → Bool) (ps : List Enclosure) (k : ℕ) → k < length ps → f (part_at ps k) ≡ true → list_any f ps ≡ true
any_at f [] k b e = absurd (omega (arith, b))
any_at f (p ∷ ps) zero b e = or_left (f p) (list_any f ps) e
any_at f (p ∷ ps) (suc k) b e = or_right (f p) (list_any f ps) (any_at f ps k (omega (arith, b)) e)

pub all_at : (f : Enclosure → Bool) (ps : List Enclosure) (k : ℕ) → k < length ps → list_all f ps ≡ true → f (part_at ps k) ≡ true
all_at f [] k b e = absurd (omega (arith, b))
all_at f (p ∷ ps) zero b e = and_left (f p) (list_all f ps) e
all_at f (p ∷ ps) (suc k) b e = all_at f ps k (omega (arith, b)) (and_right (f p) (list_all f ps) e)

-- ---- tests of all or of one

pub undefined_any : (ps : List Enclosure) → list_any (λ (q : Enclosure). q.may_be_undefined) ps ≡ r.any_may_be_undefined ps
undefined_any [] = refl
undefined_any (p ∷ ps) = ap (λ b. p.may_be_undefined || b) (undefined_any ps)

pub true_all : (ps : List Enclosure) → list_all (λ (q : Enclosure). q.may_be_true) ps ≡ r.all_may_be_true ps
true_all [] = refl
true_all (p ∷ ps) = ap (λ b. p.may_be_true && b) (true_all ps)

pub false_any : (ps : List Enclosure) → list_any (λ (q : Enclosure). q.may_be_false) ps ≡ r.any_may_be_false ps
false_any [] = refl
false_any (p ∷ ps) = ap (λ b. p.may_be_false || b) (false_any ps)

pub true_any : (ps : List Enclosure) → list_any (λ (q : Enclosure). q.may_be_true) ps ≡ r.any_may_be_true ps
true_any [] = refl
true_any (p ∷ ps) = ap (λ b. p.may_be_true || b) (true_any ps)

pub false_all : (ps : List Enclosure) → list_all (λ (q : Enclosure). q.may_be_false) ps ≡ r.all_may_be_false ps
false_all [] = refl
false_all (p ∷ ps) = ap (λ b. p.may_be_false && b) (false_all ps)

-- ---- two that meet

pub meet_turn : (ps : List Enclosure) (k : ℕ) (b : Bool) → k < length ps → b ≡ list_any (λ q. r.compare_intervals r.meets (part_at ps k).interval q.interval) (drop (k + 1) ps) → r.some_meet (drop k ps) ≡ (b || r.some_meet (drop (k + 1) ps))
meet_turn ps k b l e = ap r.some_meet (part_here ps k l) ∙ ap (λ c. c || r.some_meet (drop (k + 1) ps)) (sym e)

pub pair_meets : (ps : List Enclosure) (j k : ℕ) → j < k → k < length ps → r.compare_intervals r.meets (part_at ps j).interval (part_at ps k).interval ≡ true → r.some_meet ps ≡ true
pair_meets [] j k l b e = absurd (omega (arith, b))
pair_meets (p ∷ ps) zero zero l b e = absurd (omega (arith, l))
pair_meets (p ∷ ps) zero (suc k) l b e = or_left (list_any (λ q. r.compare_intervals r.meets p.interval q.interval) ps) (r.some_meet ps) (any_at (λ q. r.compare_intervals r.meets p.interval q.interval) ps k (omega (arith, b)) e)
pair_meets (p ∷ ps) (suc j) zero l b e = absurd (omega (arith, l))
pair_meets (p ∷ ps) (suc j) (suc k) l b e = or_right (list_any (λ q. r.compare_intervals r.meets p.interval q.interval) ps) (r.some_meet ps) (pair_meets ps j k (omega (arith, l)) (omega (arith, b)) e)

-- ---- room

-- a range between two ends that has no room
pub crowded : (ps : List Enclosure) (first last : ℕ) (start : Span) → first < length ps → last < length ps → (part_at ps first).interval ≡ Some start →
    not (r.compare_intervals (λ s t. not (r.has_room s.lo t.hi ps)) (Some start) (part_at ps last).interval) ≡ false → r.have_room ps ≡ false
crowded ps first last start b c e h = is_false (r.have_room ps) (λ k.
    let row = ap (r.room_from ps) (sym e) ∙ all_at (λ q. r.room_from ps q.interval) ps first b k in
    false≢true (sym h ∙ all_at (λ q. not (r.compare_intervals (λ s t. not (r.has_room s.lo t.hi ps)) (Some start) q.interval)) ps last c row))

-- from no interval there is no range
pub no_range : (ps qs : List Enclosure) → list_all (λ (q : Enclosure). not (r.compare_intervals (λ s t. not (r.has_room s.lo t.hi ps)) None q.interval)) qs ≡ true
no_range ps [] = refl
no_range ps (q ∷ qs) = no_range ps qs

-- ---- counts

pub count_turn : (p : Enclosure → Bool) (ps rest : List Enclosure) (x : Enclosure) (n m one : ℕ) → ps ≡ x ∷ rest → one ≡ (if p x then 1 else 0) → n + how_many p ps ≡ m → (n + one) + how_many p rest ≡ m
count_turn p ps rest x n m one e o h = at (p x) o (ap (λ zs. n + how_many p zs) (sym e) ∙ h)
  where
    at : (b : Bool) → one ≡ (if b then 1 else 0) → n + (if b then suc (how_many p rest) else how_many p rest) ≡ m → (n + one) + how_many p rest ≡ m
    at true o h = omega (arith, o, h)
    at false o h = omega (arith, o, h)

-- the same single number lies in both
meets_of_same : (o p : Option Span) → r.compare_intervals r.same_single o p ≡ true → r.compare_intervals r.meets o p ≡ true
meets_of_same None p h = h
meets_of_same (Some s) None h = h
meets_of_same (Some s) (Some t) h =
    let a = eq_of s.lo s.hi (and_left (int_eq s.lo s.hi) (int_eq s.lo t.lo) (and_left (int_eq s.lo s.hi && int_eq s.lo t.lo) (int_eq t.lo t.hi) h)) in
    let c = eq_of s.lo t.lo (and_right (int_eq s.lo s.hi) (int_eq s.lo t.lo) (and_left (int_eq s.lo s.hi && int_eq s.lo t.lo) (int_eq t.lo t.hi) h)) in
    let d = eq_of t.lo t.hi (and_right (int_eq s.lo s.hi && int_eq s.lo t.lo) (int_eq t.lo t.hi) h) in
    and_true (int_le s.lo t.hi) (int_le t.lo s.hi) (of_le s.lo t.hi (omega (arith, ints, a, c, d))) (of_le t.lo s.hi (omega (arith, ints, a, c, d)))

-- what is certain is possible
pub certain_possible : (o : Option Span) (ps : List Enclosure) → how_many (λ (q : Enclosure). r.compare_intervals r.same_single q.interval o) ps ≤ how_many (λ (q : Enclosure). r.compare_intervals r.meets q.interval o) ps
certain_possible o [] = omega arith
certain_possible o (p ∷ ps) = at (r.compare_intervals r.same_single p.interval o) (r.compare_intervals r.meets p.interval o) (meets_of_same p.interval o) _ _ (certain_possible o ps)
  where
    at : (a b : Bool) → (a ≡ true → b ≡ true) → (m n : ℕ) → m ≤ n → (if a then suc m else m) ≤ (if b then suc n else n)
    at true true f m n h = omega (arith, h)
    at true false f m n h = absurd (false≢true (f refl))
    at false true f m n h = omega (arith, h)
    at false false f m n h = h

pub one_at_most : (b : Bool) (n : ℕ) → n ≡ (if b then 1 else 0) → n ≤ 1
one_at_most true n e = omega (arith, e)
one_at_most false n e = omega (arith, e)

-- ---- access by index

pub joined_turn : (at : ℕ → Bool) (ps : List Enclosure) (k : ℕ) (x : Enclosure) (c : Bool) → drop k ps ≡ x ∷ drop (k + 1) ps → at k ≡ c →
    r.numeric_enclosure (r.joined at k (drop k ps)) (r.reached_undefined at k (drop k ps))
    ≡ r.numeric_enclosure (if c then join_some x.interval (r.joined at (k + 1) (drop (k + 1) ps)) else r.joined at (k + 1) (drop (k + 1) ps)) (c && x.may_be_undefined || r.reached_undefined at (k + 1) (drop (k + 1) ps))
joined_turn at ps k x c h e =
    ap (λ zs. r.numeric_enclosure (r.joined at k zs) (r.reached_undefined at k zs)) h
    ∙ ap (λ d. r.numeric_enclosure (if d then join_some x.interval (r.joined at (suc k) (drop (k + 1) ps)) else r.joined at (suc k) (drop (k + 1) ps)) (d && x.may_be_undefined || r.reached_undefined at (suc k) (drop (k + 1) ps))) e
    ∙ ap (λ n. r.numeric_enclosure (if c then join_some x.interval (r.joined at n (drop (k + 1) ps)) else r.joined at n (drop (k + 1) ps)) (c && x.may_be_undefined || r.reached_undefined at n (drop (k + 1) ps))) (sym (add-one k))

pub selected_turn : (at : ℕ → Bool) (ps : List Enclosure) (p k : ℕ) (x s t : Enclosure) (b : Bool) → k + 1 ≡ p → k < length ps → x ≡ get_or ps k x → b ≡ at k →
    s ≡ r.numeric_enclosure (r.joined at p (drop p ps)) (r.reached_undefined at p (drop p ps)) →
    t ≡ r.numeric_enclosure (if b then join_some x.interval s.interval else s.interval) (b && x.may_be_undefined || s.may_be_undefined) →
    t ≡ r.numeric_enclosure (r.joined at k (drop k ps)) (r.reached_undefined at k (drop k ps))
selected_turn at ps p k x s t b e l i h u w =
    w ∙ ap (λ (q : Enclosure). r.numeric_enclosure (if b then join_some x.interval q.interval else q.interval) (b && x.may_be_undefined || q.may_be_undefined)) (u ∙ ap (λ n. r.numeric_enclosure (r.joined at n (drop n ps)) (r.reached_undefined at n (drop n ps))) (sym e))
    ∙ sym (joined_turn at ps k x b (item_here ps k x l i) (sym h))

-- ---- rows

none : (b : Bool) → (b && false) ≡ false
none true = refl
none false = refl

-- a row of another length fits no parts
pub longer : (ps : List Enclosure) (zs : List ℤ) → (length ps ≡ length zs → ⊥) → r.may_be_row ps zs ≡ false
longer [] [] h = absurd (h refl)
longer [] (z ∷ zs) h = refl
longer (p ∷ ps) [] h = refl
longer (p ∷ ps) (z ∷ zs) h = ap (λ b. r.test_interval (λ s. has s z) p.interval && b) (longer ps zs (λ e. h (ap suc e))) ∙ none (r.test_interval (λ s. has s z) p.interval)

pub row_turn : (ps : List Enclosure) (zs : List ℤ) (k : ℕ) (x : Enclosure) (z : ℤ) (b : Bool) → drop k ps ≡ x ∷ drop (k + 1) ps → drop k zs ≡ z ∷ drop (k + 1) zs → b ≡ r.test_interval (λ s. has s z) x.interval → r.may_be_row (drop k ps) (drop k zs) ≡ (b && r.may_be_row (drop (k + 1) ps) (drop (k + 1) zs))
row_turn ps zs k x z b e f h = ap (λ us. r.may_be_row us (drop k zs)) e ∙ ap (r.may_be_row (x ∷ drop (k + 1) ps)) f ∙ ap (λ c. c && r.may_be_row (drop (k + 1) ps) (drop (k + 1) zs)) (sym h)

pub entry_here : (zs : List ℤ) (k : ℕ) → k < length zs → drop k zs ≡ get_or zs k (pos 0) ∷ drop (k + 1) zs
entry_here zs k lt = drop_here zs k (get_or zs k (pos 0)) lt (read_default zs k (pos 0) (get_or zs k (pos 0)) lt)
