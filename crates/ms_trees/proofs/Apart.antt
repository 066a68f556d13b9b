-- Parts that are to be distinct.
use Rattle.std.proofs.Common.{◌≡◌, ℕ, ◌+◌, ◌≤◌, List, [], ◌∷◌, Bool, true, false, not, ◌&&◌, ◌||◌, Option, Some, None, zero, suc, refl, sym, ap, ◌∙◌, arith}
use Rattle.std.proofs.lemmas.Bool.{false≢true}
use Rattle.std.proofs.lemmas.Int.{ints, by_lt_z}
use Rattle.std.proofs.Math.IntN.{nat_abs}
use Rattle.std.specs.Prelude.{ℤ, pos, ◌+ℤ◌, ◌-ℤ◌, ◌≤ℤ◌, ◌<ℤ◌, int_le, int_lt, is_some, if◌then◌else◌}
use Rattle.std.specs.Int.Signed.{≤ℤ_refl}
use Rattle.std.specs.List.{list_any, list_all}
use Rattle.ms_num.specs.Numbers.{int_eq}
use Rattle.ms_num.specs.Span.{Span, Inside, point}
use Rattle.ms_trees.specs.Value as v
use Rattle.ms_trees.specs.Value.{Meaning, how_many}
use Rattle.ms_trees.specs.Enclosure as r
use Rattle.ms_trees.specs.Laws.{of_number, IsCoveredBy, MeansFewerTruths, IsProper, AreProper, EndsDecideRoom}
use Rattle.ms_trees.specs.declared.tree.Enclosure.{Enclosure}
use Rattle.ms_trees.proofs.Bools.{ap2, and_left, and_right, and_true, or_left, or_right, or_split, or_less, or_false, not_true, true_not, is_false, both_ways, same_tests, le_of, of_le, lt_of, of_lt, not_le, eq_of}
use Rattle.ms_trees.proofs.Points.{spans, all_defined, any_undefined}
use Rattle.ms_trees.proofs.Lists.{AllLess, any_undefined_less}

-- ---- lists and tests

all_of : {X : Type 0} (p : X → Bool) (xs : List X) → ((x : X) → p x ≡ true) → list_all p xs ≡ true
all_of p [] f = refl
all_of p (x ∷ xs) f = and_true (p x) (list_all p xs) (f x) (all_of p xs f)

-- an item that passes, and of which all holds that holds of all
record Witness {X : Type 0} (p : X → Bool) (xs : List X) : Type 0 where
  item : X
  passes : p item ≡ true
  member : (q : X → Bool) → list_all q xs ≡ true → q item ≡ true

witness : {X : Type 0} (p : X → Bool) (xs : List X) → list_any p xs ≡ true → Witness p xs
witness p [] e = absurd (false≢true e)
witness p (x ∷ xs) e = or_split (p x) (list_any p xs) e (λ h. record { item = x; passes = h; member = λ q k. and_left (q x) (list_all q xs) k }) (λ h. later (witness p xs h))
  where
    later : Witness p xs → Witness p (x ∷ xs)
    later w = record { item = w.item; passes = w.passes; member = λ q k. w.member q (and_right (q x) (list_all q xs) k) }

one_more : (b c : Bool) (m n : ℕ) → m ≤ n → (b ≡ true → c ≡ true) → (if b then suc m else m) ≤ (if c then suc n else n)
one_more true true m n h f = omega arith
one_more true false m n h f = absurd (false≢true (f refl))
one_more false true m n h f = omega arith
one_more false false m n h f = h

more_pass : {X : Type 0} (p q e : X → Bool) → ((x : X) → e x ≡ false → p x ≡ true → q x ≡ true) → (xs : List X) → list_any e xs ≡ false → how_many p xs ≤ how_many q xs
more_pass p q e f [] h = omega arith
more_pass p q e f (x ∷ xs) h =
    let k = or_false (e x) (list_any e xs) h in
    one_more (p x) (q x) (how_many p xs) (how_many q xs) (more_pass p q e f xs k.1) (f x k.0)

-- ---- intervals that do not meet

abbrev lies : ℤ → ℤ → Span → Bool
lies lo hi s = int_le lo s.lo && int_le s.hi hi

split_more : (b c d : Bool) (m n k : ℕ) → m ≤ n + k → (b ≡ true → (c || d) ≡ true) → (if b then suc m else m) ≤ (if c then suc n else n) + (if d then suc k else k)
split_more true true true m n k h f = omega arith
split_more true true false m n k h f = omega arith
split_more true false true m n k h f = omega arith
split_more true false false m n k h f = absurd (false≢true (f refl))
split_more false true true m n k h f = omega arith
split_more false true false m n k h f = omega arith
split_more false false true m n k h f = omega arith
split_more false false false m n k h f = omega arith

-- what does not meet s lies before or after it
aside : (lo hi : ℤ) (s t : Span) → r.meets s t ≡ false → lies lo hi t ≡ true → (lies lo (s.lo -ℤ pos 1) t || lies (s.hi +ℤ pos 1) hi t) ≡ true
aside lo hi s t h e =
    let a = le_of lo t.lo (and_left (int_le lo t.lo) (int_le t.hi hi) e) in
    let b = le_of t.hi hi (and_right (int_le lo t.lo) (int_le t.hi hi) e) in
    both_ways (int_le s.lo t.hi) (λ k. after a b k) (λ k. before a b k)
  where
    before : lo ≤ℤ t.lo → t.hi ≤ℤ hi → int_le s.lo t.hi ≡ false → (lies lo (s.lo -ℤ pos 1) t || lies (s.hi +ℤ pos 1) hi t) ≡ true
    before a b k =
        let c = not_le s.lo t.hi k in
        or_left (lies lo (s.lo -ℤ pos 1) t) (lies (s.hi +ℤ pos 1) hi t) (and_true (int_le lo t.lo) (int_le t.hi (s.lo -ℤ pos 1)) (of_le lo t.lo a) (of_le t.hi (s.lo -ℤ pos 1) (omega (arith, ints))))

    after : lo ≤ℤ t.lo → t.hi ≤ℤ hi → int_le s.lo t.hi ≡ true → (lies lo (s.lo -ℤ pos 1) t || lies (s.hi +ℤ pos 1) hi t) ≡ true
    after a b k =
        let d : int_le t.lo s.hi ≡ false = is_false (int_le t.lo s.hi) (λ g. false≢true (sym h ∙ and_true (int_le s.lo t.hi) (int_le t.lo s.hi) k g)) in
        let c = not_le t.lo s.hi d in
        or_right (lies lo (s.lo -ℤ pos 1) t) (lies (s.hi +ℤ pos 1) hi t) (and_true (int_le (s.hi +ℤ pos 1) t.lo) (int_le t.hi hi) (of_le (s.hi +ℤ pos 1) t.lo (omega (arith, ints))) (of_le t.hi hi b))

split : (lo hi : ℤ) (s : Span) (rs : List Enclosure) → list_any (λ q. r.compare_intervals r.meets (Some s) q.interval) rs ≡ false → r.held lo hi rs ≤ r.held lo (s.lo -ℤ pos 1) rs + r.held (s.hi +ℤ pos 1) hi rs
split lo hi s [] h = omega arith
split lo hi s (q ∷ rs) h =
    let k = or_false (r.compare_intervals r.meets (Some s) q.interval) (list_any (λ q. r.compare_intervals r.meets (Some s) q.interval) rs) h in
    split_more (r.test_interval (lies lo hi) q.interval) (r.test_interval (lies lo (s.lo -ℤ pos 1)) q.interval) (r.test_interval (lies (s.hi +ℤ pos 1) hi) q.interval) (r.held lo hi rs) (r.held lo (s.lo -ℤ pos 1) rs) (r.held (s.hi +ℤ pos 1) hi rs)
    (split lo hi s rs k.1) (one q.interval k.0)
  where
    one : (o : Option Span) → r.compare_intervals r.meets (Some s) o ≡ false → r.test_interval (lies lo hi) o ≡ true → (r.test_interval (lies lo (s.lo -ℤ pos 1)) o || r.test_interval (lies (s.hi +ℤ pos 1) hi) o) ≡ true
    one None f e = absurd (false≢true e)
    one (Some t) f e = aside lo hi s t f e

-- of intervals that do not meet, a range holds no more than it has numbers
few : (rs : List Enclosure) → AreProper rs → r.some_meet rs ≡ false → (lo hi : ℤ) → lo ≤ℤ (hi +ℤ pos 1) → pos (r.held lo hi rs) ≤ℤ (hi -ℤ lo +ℤ pos 1)
few [] p h lo hi l = omega (arith, ints)
few (q ∷ rs) p h lo hi l = one q.interval p.0 (or_false (list_any (λ x. r.compare_intervals r.meets q.interval x.interval) rs) (r.some_meet rs) h).0 (few rs p.1 (or_false (list_any (λ x. r.compare_intervals r.meets q.interval x.interval) rs) (r.some_meet rs) h).1)
  where
    counted : (s : Span) → s.lo ≤ℤ s.hi → list_any (λ x. r.compare_intervals r.meets (Some s) x.interval) rs ≡ false → ((lo hi : ℤ) → lo ≤ℤ (hi +ℤ pos 1) → pos (r.held lo hi rs) ≤ℤ (hi -ℤ lo +ℤ pos 1)) →
        (b : Bool) → lies lo hi s ≡ b → pos (if b then suc (r.held lo hi rs) else r.held lo hi rs) ≤ℤ (hi -ℤ lo +ℤ pos 1)
    counted s o d f true e =
        let a = le_of lo s.lo (and_left (int_le lo s.lo) (int_le s.hi hi) e) in
        let b = le_of s.hi hi (and_right (int_le lo s.lo) (int_le s.hi hi) e) in
        let k = split lo hi s rs d in
        let x = f lo (s.lo -ℤ pos 1) (omega (arith, ints)) in
        let y = f (s.hi +ℤ pos 1) hi (omega (arith, ints)) in
        omega (arith, ints, k, x, y, a, b, o)
    counted s o d f false e = f lo hi l

    one : (o : Option Span) → IsProper o → list_any (λ x. r.compare_intervals r.meets o x.interval) rs ≡ false → ((lo hi : ℤ) → lo ≤ℤ (hi +ℤ pos 1) → pos (r.held lo hi rs) ≤ℤ (hi -ℤ lo +ℤ pos 1)) →
        pos (if r.test_interval (lies lo hi) o then suc (r.held lo hi rs) else r.held lo hi rs) ≤ℤ (hi -ℤ lo +ℤ pos 1)
    one None k d f = f lo hi l
    one (Some s) k d f = counted s k d f (lies lo hi s) refl

room_of : (lo hi : ℤ) (rs : List Enclosure) → (lo ≤ℤ hi → pos (r.held lo hi rs) ≤ℤ (hi -ℤ lo +ℤ pos 1)) → r.has_room lo hi rs ≡ true
room_of lo hi rs f =
    by_lt_z hi lo (λ l. or_left (int_lt hi lo) (int_le (pos (r.held lo hi rs)) (hi -ℤ lo +ℤ pos 1)) (of_lt hi lo l))
    (λ l. or_right (int_lt hi lo) (int_le (pos (r.held lo hi rs)) (hi -ℤ lo +ℤ pos 1)) (of_le (pos (r.held lo hi rs)) (hi -ℤ lo +ℤ pos 1) (f l)))

of_room : (lo hi : ℤ) (rs : List Enclosure) → r.has_room lo hi rs ≡ true → lo ≤ℤ hi → pos (r.held lo hi rs) ≤ℤ (hi -ℤ lo +ℤ pos 1)
of_room lo hi rs e l =
    or_split (int_lt hi lo) (int_le (pos (r.held lo hi rs)) (hi -ℤ lo +ℤ pos 1)) e (λ k. let a = lt_of hi lo k in absurd (omega (arith, ints))) (λ k. le_of (pos (r.held lo hi rs)) (hi -ℤ lo +ℤ pos 1) k)

all_room : (rs : List Enclosure) → ((lo hi : ℤ) → r.has_room lo hi rs ≡ true) → r.have_room rs ≡ true
all_room rs f = all_of _ rs (λ q. all_of _ rs (λ x. one q.interval x.interval))
  where
    one : (o p : Option Span) → not (r.compare_intervals (λ s t. not (r.has_room s.lo t.hi rs)) o p) ≡ true
    one None p = refl
    one (Some s) None = refl
    one (Some s) (Some t) = true_not (not (r.has_room s.lo t.hi rs)) (ap not (f s.lo t.hi))

apart_room : (rs : List Enclosure) → AreProper rs → r.some_meet rs ≡ false → r.have_room rs ≡ true
apart_room rs p h = all_room rs (λ lo hi. room_of lo hi rs (λ l. few rs p h lo hi (omega (arith, ints))))

-- ---- each range of integers has room where those between ends have

none_held : (rs : List Enclosure) → AreProper rs → (lo hi : ℤ) → hi <ℤ lo → r.held lo hi rs ≤ 0
none_held [] p lo hi l = omega arith
none_held (q ∷ rs) p lo hi l = one_more (r.test_interval (lies lo hi) q.interval) false (r.held lo hi rs) 0 (none_held rs p.1 lo hi l) (one q.interval p.0)
  where
    one : (o : Option Span) → IsProper o → r.test_interval (lies lo hi) o ≡ true → false ≡ true
    one None k e = e
    one (Some s) k e =
        let a = le_of lo s.lo (and_left (int_le lo s.lo) (int_le s.hi hi) e) in
        let b = le_of s.hi hi (and_right (int_le lo s.lo) (int_le s.hi hi) e) in
        absurd (omega (arith, ints))

abbrev starts : ℤ → ℤ → Span → Bool
starts lo hi s = int_eq lo s.lo && int_le s.hi hi

abbrev ends : ℤ → ℤ → Span → Bool
ends lo hi s = int_eq hi s.hi && int_le lo s.lo

from_next : (lo hi : ℤ) (rs : List Enclosure) → list_any (λ q. r.test_interval (starts lo hi) q.interval) rs ≡ false → r.held lo hi rs ≤ r.held (lo +ℤ pos 1) hi rs
from_next lo hi rs h = more_pass (λ q. r.test_interval (lies lo hi) q.interval) (λ q. r.test_interval (lies (lo +ℤ pos 1) hi) q.interval) (λ q. r.test_interval (starts lo hi) q.interval) (λ q. one q.interval) rs h
  where
    one : (o : Option Span) → r.test_interval (starts lo hi) o ≡ false → r.test_interval (lies lo hi) o ≡ true → r.test_interval (lies (lo +ℤ pos 1) hi) o ≡ true
    one None f e = e
    one (Some s) f e =
        let a = le_of lo s.lo (and_left (int_le lo s.lo) (int_le s.hi hi) e) in
        let b = and_right (int_le lo s.lo) (int_le s.hi hi) e in
        let n : int_le s.lo lo ≡ false = is_false (int_le s.lo lo) (λ g. false≢true (sym f ∙ and_true (int_eq lo s.lo) (int_le s.hi hi) (and_true (int_le lo s.lo) (int_le s.lo lo) (of_le lo s.lo a) g) b)) in
        let c = not_le s.lo lo n in
        and_true (int_le (lo +ℤ pos 1) s.lo) (int_le s.hi hi) (of_le (lo +ℤ pos 1) s.lo (omega (arith, ints))) b

to_last : (lo hi : ℤ) (rs : List Enclosure) → list_any (λ q. r.test_interval (ends lo hi) q.interval) rs ≡ false → r.held lo hi rs ≤ r.held lo (hi -ℤ pos 1) rs
to_last lo hi rs h = more_pass (λ q. r.test_interval (lies lo hi) q.interval) (λ q. r.test_interval (lies lo (hi -ℤ pos 1)) q.interval) (λ q. r.test_interval (ends lo hi) q.interval) (λ q. one q.interval) rs h
  where
    one : (o : Option Span) → r.test_interval (ends lo hi) o ≡ false → r.test_interval (lies lo hi) o ≡ true → r.test_interval (lies lo (hi -ℤ pos 1)) o ≡ true
    one None f e = e
    one (Some s) f e =
        let a = and_left (int_le lo s.lo) (int_le s.hi hi) e in
        let b = le_of s.hi hi (and_right (int_le lo s.lo) (int_le s.hi hi) e) in
        let n : int_le hi s.hi ≡ false = is_false (int_le hi s.hi) (λ g. false≢true (sym f ∙ and_true (int_eq hi s.hi) (int_le lo s.lo) (and_true (int_le hi s.hi) (int_le s.hi hi) g (of_le s.hi hi b)) a)) in
        let c = not_le hi s.hi n in
        and_true (int_le lo s.lo) (int_le s.hi (hi -ℤ pos 1)) a (of_le s.hi (hi -ℤ pos 1) (omega (arith, ints)))

-- a part that starts at lo and one that ends at hi
between_ends : (lo hi : ℤ) (rs : List Enclosure) → r.have_room rs ≡ true → Witness (λ q. r.test_interval (starts lo hi) q.interval) rs → Witness (λ q. r.test_interval (ends lo hi) q.interval) rs → r.has_room lo hi rs ≡ true
between_ends lo hi rs h a b =
    let row = a.member (λ q. list_all (λ x. not (r.compare_intervals (λ s t. not (r.has_room s.lo t.hi rs)) q.interval x.interval)) rs) h in
    let cell = b.member (λ x. not (r.compare_intervals (λ s t. not (r.has_room s.lo t.hi rs)) a.item.interval x.interval)) row in
    one a.item.interval b.item.interval a.passes b.passes cell
  where
    one : (o p : Option Span) → r.test_interval (starts lo hi) o ≡ true → r.test_interval (ends lo hi) p ≡ true → not (r.compare_intervals (λ s t. not (r.has_room s.lo t.hi rs)) o p) ≡ true → r.has_room lo hi rs ≡ true
    one None p e f g = absurd (false≢true e)
    one (Some s) None e f g = absurd (false≢true f)
    one (Some s) (Some t) e f g =
        let x = eq_of lo s.lo (and_left (int_eq lo s.lo) (int_le s.hi hi) e) in
        let y = eq_of hi t.hi (and_left (int_eq hi t.hi) (int_le lo t.lo) f) in
        ap2 (λ a b. r.has_room a b rs) x y ∙ twice (r.has_room s.lo t.hi rs) g
      where
        twice : (b : Bool) → not (not b) ≡ true → b ≡ true
        twice true k = refl
        twice false k = k

everywhere : (rs : List Enclosure) → AreProper rs → r.have_room rs ≡ true → (d : ℕ) (lo hi : ℤ) → (hi +ℤ pos 1) ≡ (lo +ℤ pos d) → pos (r.held lo hi rs) ≤ℤ pos d
everywhere rs p h zero lo hi e = let k = none_held rs p lo hi (omega (arith, ints)) in omega (arith, ints, k)
everywhere rs p h (suc d) lo hi e =
    both_ways (list_any (λ q. r.test_interval (starts lo hi) q.interval) rs)
    (λ f. both_ways (list_any (λ q. r.test_interval (ends lo hi) q.interval) rs)
    (λ g. let k = of_room lo hi rs (between_ends lo hi rs h (witness _ rs f) (witness _ rs g)) (omega (arith, ints)) in omega (arith, ints, k))
    (λ g. let k = to_last lo hi rs g in let m = everywhere rs p h d lo (hi -ℤ pos 1) (omega (arith, ints)) in omega (arith, ints, k, m)))
    (λ f. let k = from_next lo hi rs f in let m = everywhere rs p h d (lo +ℤ pos 1) hi (omega (arith, ints)) in omega (arith, ints, k, m))

-- where the ranges between ends have room, each range of integers has
pub room_everywhere : (rs : List Enclosure) → AreProper rs → r.have_room rs ≡ true → (lo hi : ℤ) → lo ≤ℤ hi → pos (r.held lo hi rs) ≤ℤ (hi -ℤ lo +ℤ pos 1)
room_everywhere rs p h lo hi l =
    let d = nat_abs (hi -ℤ lo) + 1 in
    let e : pos d ≡ (hi -ℤ lo +ℤ pos 1) = omega (arith, ints) in
    let k = everywhere rs p h d lo hi (omega (arith, ints, e)) in
    omega (arith, ints, k, e)

pub ends_decide : EndsDecideRoom
ends_decide rs p = (λ h lo hi l. room_everywhere rs p h lo hi l, λ f. all_room rs (λ lo hi. room_of lo hi rs (f lo hi)))

-- ---- smaller boxes

proper_parts : (ss ls : List Enclosure) → AllLess ss ls → AreProper ss
proper_parts [] ls h = tt
proper_parts (s ∷ ss) [] h = absurd h
proper_parts (s ∷ ss) (l ∷ ls) h = (one s.interval l.interval h.0.interval, proper_parts ss ls h.1)
  where
    one : (o p : Option Span) → IsCoveredBy o p → IsProper o
    one None p f = tt
    one (Some s) None f = absurd f
    one (Some s) (Some t) f = f.proper

pub all_some_more : (ss ls : List Enclosure) → AllLess ss ls → r.all_some ss ≡ true → r.all_some ls ≡ true
all_some_more [] [] h e = refl
all_some_more [] (l ∷ ls) h e = absurd h
all_some_more (s ∷ ss) [] h e = absurd h
all_some_more (s ∷ ss) (l ∷ ls) h e =
    and_true (is_some l.interval) (r.all_some ls) (one s.interval l.interval h.0.interval (and_left (is_some s.interval) (r.all_some ss) e)) (all_some_more ss ls h.1 (and_right (is_some s.interval) (r.all_some ss) e))
  where
    one : (o p : Option Span) → IsCoveredBy o p → is_some o ≡ true → is_some p ≡ true
    one None p f e = absurd (false≢true e)
    one (Some s) None f e = absurd f
    one (Some s) (Some t) f e = refl

held_less : (lo hi : ℤ) (ss ls : List Enclosure) → AllLess ss ls → r.all_some ss ≡ true → r.held lo hi ls ≤ r.held lo hi ss
held_less lo hi [] [] h e = omega arith
held_less lo hi [] (l ∷ ls) h e = absurd h
held_less lo hi (s ∷ ss) [] h e = absurd h
held_less lo hi (s ∷ ss) (l ∷ ls) h e =
    one_more (r.test_interval (lies lo hi) l.interval) (r.test_interval (lies lo hi) s.interval) (r.held lo hi ls) (r.held lo hi ss) (held_less lo hi ss ls h.1 (and_right (is_some s.interval) (r.all_some ss) e))
    (one s.interval l.interval h.0.interval (and_left (is_some s.interval) (r.all_some ss) e))
  where
    one : (o p : Option Span) → IsCoveredBy o p → is_some o ≡ true → r.test_interval (lies lo hi) p ≡ true → r.test_interval (lies lo hi) o ≡ true
    one None p f k e = absurd (false≢true k)
    one (Some s) None f k e = absurd f
    one (Some s) (Some t) f k e =
        let a = le_of lo t.lo (and_left (int_le lo t.lo) (int_le t.hi hi) e) in
        let b = le_of t.hi hi (and_right (int_le lo t.lo) (int_le t.hi hi) e) in
        and_true (int_le lo s.lo) (int_le s.hi hi) (of_le lo s.lo (omega (arith, ints, f.lo))) (of_le s.hi hi (omega (arith, ints, f.hi)))

pub meets_more : (s t s' t' : Span) → Inside s s' → Inside t t' → r.meets s t ≡ true → r.meets s' t' ≡ true
meets_more s t s' t' i j e =
    let a = le_of s.lo t.hi (and_left (int_le s.lo t.hi) (int_le t.lo s.hi) e) in
    let b = le_of t.lo s.hi (and_right (int_le s.lo t.hi) (int_le t.lo s.hi) e) in
    and_true (int_le s'.lo t'.hi) (int_le t'.lo s'.hi) (of_le s'.lo t'.hi (omega (arith, ints, i.lo, j.hi))) (of_le t'.lo s'.hi (omega (arith, ints, i.hi, j.lo)))

some_meet_less : (ss ls : List Enclosure) → AllLess ss ls → r.some_meet ss ≡ true → r.some_meet ls ≡ true
some_meet_less [] ls h e = absurd (false≢true e)
some_meet_less (s ∷ ss) [] h e = absurd h
some_meet_less (s ∷ ss) (l ∷ ls) h e =
    or_less (list_any (λ q. r.compare_intervals r.meets s.interval q.interval) ss) (r.some_meet ss) (list_any (λ q. r.compare_intervals r.meets l.interval q.interval) ls) (r.some_meet ls) (any ss ls h.1) (some_meet_less ss ls h.1) e
  where
    one : (o p o' p' : Option Span) → IsCoveredBy o o' → IsCoveredBy p p' → r.compare_intervals r.meets o p ≡ true → r.compare_intervals r.meets o' p' ≡ true
    one None p o' p' f g e = absurd (false≢true e)
    one (Some s) None o' p' f g e = absurd (false≢true e)
    one (Some s) (Some t) None p' f g e = absurd f
    one (Some s) (Some t) (Some s') None f g e = absurd g
    one (Some s) (Some t) (Some s') (Some t') f g e = meets_more s t s' t' f g e

    any : (xs ys : List Enclosure) → AllLess xs ys → list_any (λ q. r.compare_intervals r.meets s.interval q.interval) xs ≡ true → list_any (λ q. r.compare_intervals r.meets l.interval q.interval) ys ≡ true
    any [] ys k e = absurd (false≢true e)
    any (x ∷ xs) [] k e = absurd k
    any (x ∷ xs) (y ∷ ys) k e =
        or_less (r.compare_intervals r.meets s.interval x.interval) (list_any (λ q. r.compare_intervals r.meets s.interval q.interval) xs) (r.compare_intervals r.meets l.interval y.interval) (list_any (λ q. r.compare_intervals r.meets l.interval q.interval) ys)
        (one s.interval x.interval l.interval y.interval h.0.interval k.0.interval) (any xs ys k.1) e

pub all_some_of : (ss ls : List Enclosure) → AllLess ss ls → r.any_may_be_undefined ss ≡ false → r.all_some ss ≡ true
all_some_of [] ls h e = refl
all_some_of (s ∷ ss) [] h e = absurd h
all_some_of (s ∷ ss) (l ∷ ls) h e =
    let k = or_false s.may_be_undefined (r.any_may_be_undefined ss) e in
    and_true (is_some s.interval) (r.all_some ss) (or_split (is_some s.interval) s.may_be_undefined h.0.some (λ f. f) (λ f. absurd (false≢true (sym k.0 ∙ f)))) (all_some_of ss ls h.1 k.1)

pub distinct_less : (ss ls : List Enclosure) → AllLess ss ls → MeansFewerTruths (r.distinct ss) (r.distinct ls)
distinct_less ss ls h = record {
  some = both_ways (r.any_may_be_undefined ss || r.some_meet ss) (λ e. or_right (r.all_some ss && r.have_room ss) (r.any_may_be_undefined ss || r.some_meet ss) e)
      (λ e.
      let k = or_false (r.any_may_be_undefined ss) (r.some_meet ss) e in
      or_left (r.all_some ss && r.have_room ss) (r.any_may_be_undefined ss || r.some_meet ss) (and_true (r.all_some ss) (r.have_room ss) (all_some_of ss ls h k.0) (apart_room ss (proper_parts ss ls h) k.1)));
  may_be_true = λ e.
      let a = and_left (r.all_some ss) (r.have_room ss) e in
      let b = and_right (r.all_some ss) (r.have_room ss) e in
      and_true (r.all_some ls) (r.have_room ls) (all_some_more ss ls h a)
      (all_room ls (λ lo hi. room_of lo hi ls (λ l. let x = room_everywhere ss (proper_parts ss ls h) b lo hi l in let y = held_less lo hi ss ls h a in omega (arith, ints, x, y))));
  may_be_false = or_less (r.any_may_be_undefined ss) (r.some_meet ss) (r.any_may_be_undefined ls) (r.some_meet ls) (any_undefined_less ss ls h) (some_meet_less ss ls h);
}

-- ---- one assignment

point_parts : (ms : List Meaning) → AreProper (spans ms)
point_parts [] = tt
point_parts (m ∷ ms) = (one m.number, point_parts ms)
  where
    one : (o : Option ℤ) → IsProper (of_number o).interval
    one None = tt
    one (Some x) = ≤ℤ_refl x

held_one : (x : ℤ) (ms : List Meaning) → list_any (λ q. r.compare_intervals r.meets (Some (point x)) q.interval) (spans ms) ≡ true → 1 ≤ r.held x x (spans ms)
held_one x [] e = absurd (false≢true e)
held_one x (m ∷ ms) e =
    or_split (r.compare_intervals r.meets (Some (point x)) (of_number m.number).interval) (list_any (λ q. r.compare_intervals r.meets (Some (point x)) q.interval) (spans ms)) e
    (λ f. here m.number f) (λ f. there (r.test_interval (lies x x) (of_number m.number).interval) (held_one x ms f))
  where
    there : (b : Bool) → 1 ≤ r.held x x (spans ms) → 1 ≤ (if b then suc (r.held x x (spans ms)) else r.held x x (spans ms))
    there true k = omega arith
    there false k = k

    counted : (b : Bool) → b ≡ true → 1 ≤ (if b then suc (r.held x x (spans ms)) else r.held x x (spans ms))
    counted true k = omega arith
    counted false k = absurd (false≢true k)

    here : (o : Option ℤ) → r.compare_intervals r.meets (Some (point x)) (of_number o).interval ≡ true → 1 ≤ (if r.test_interval (lies x x) (of_number o).interval then suc (r.held x x (spans ms)) else r.held x x (spans ms))
    here None f = absurd (false≢true f)
    here (Some y) f = counted (lies x x (point y)) f

two_held : (ms : List Meaning) → r.some_meet (spans ms) ≡ true → (x : ℤ) × (2 ≤ r.held x x (spans ms))
two_held [] e = absurd (false≢true e)
two_held (m ∷ ms) e =
    or_split (list_any (λ q. r.compare_intervals r.meets (of_number m.number).interval q.interval) (spans ms)) (r.some_meet (spans ms)) e (λ f. here m.number f) (λ f. there (two_held ms f))
  where
    more : (b : Bool) (n k : ℕ) → n ≤ k → n ≤ (if b then suc k else k)
    more true n k h = omega arith
    more false n k h = h

    there : ((x : ℤ) × (2 ≤ r.held x x (spans ms))) → (x : ℤ) × (2 ≤ r.held x x (of_number m.number ∷ spans ms))
    there w = (w.0, more (r.test_interval (lies w.0 w.0) (of_number m.number).interval) 2 (r.held w.0 w.0 (spans ms)) w.1)

    counted : (b : Bool) (k : ℕ) → b ≡ true → 1 ≤ k → 2 ≤ (if b then suc k else k)
    counted true k e l = omega arith
    counted false k e l = absurd (false≢true e)

    same : (x : ℤ) → lies x x (point x) ≡ true
    same x = and_true (int_le x x) (int_le x x) (of_le x x (≤ℤ_refl x)) (of_le x x (≤ℤ_refl x))

    here : (o : Option ℤ) → list_any (λ q. r.compare_intervals r.meets (of_number o).interval q.interval) (spans ms) ≡ true → (x : ℤ) × (2 ≤ r.held x x (of_number o ∷ spans ms))
    here None f = absurd (none (spans ms) f)
      where
        none : (rs : List Enclosure) → list_any (λ q. r.compare_intervals r.meets None q.interval) rs ≡ true → ⊥
        none [] e = false≢true e
        none (q ∷ rs) e = none rs e
    here (Some x) f = (x, counted (lies x x (point x)) (r.held x x (spans ms)) (same x) (held_one x ms f))

crowded : (ms : List Meaning) → r.some_meet (spans ms) ≡ true → r.have_room (spans ms) ≡ false
crowded ms e = is_false (r.have_room (spans ms)) (λ h. let w = two_held ms e in let k = room_everywhere (spans ms) (point_parts ms) h w.0 w.0 (≤ℤ_refl w.0) in absurd (omega (arith, ints, k, w.1)))

-- where all are defined, the parts that are the number x are those that do not differ from it
meets_or_differs : (x : ℤ) (ms : List Meaning) → v.all_defined ms ≡ true → list_any (λ q. r.compare_intervals r.meets (Some (point x)) q.interval) (spans ms) ≡ not (list_all (λ n. v.compare v.int_ne (Some x) n.number) ms)
meets_or_differs x [] h = refl
meets_or_differs x (m ∷ ms) h = one m.number h (meets_or_differs x ms)
  where
    join : (b p q : Bool) → p ≡ not q → (b || p) ≡ not (not b && q)
    join true p q e = refl
    join false p q e = e

    one : (o : Option ℤ) → (is_some o && v.all_defined ms) ≡ true → (v.all_defined ms ≡ true → list_any (λ q. r.compare_intervals r.meets (Some (point x)) q.interval) (spans ms) ≡ not (list_all (λ n. v.compare v.int_ne (Some x) n.number) ms)) →
        (r.compare_intervals r.meets (Some (point x)) (of_number o).interval || list_any (λ q. r.compare_intervals r.meets (Some (point x)) q.interval) (spans ms)) ≡ not (v.compare v.int_ne (Some x) o && list_all (λ n. v.compare v.int_ne (Some x) n.number) ms)
    one None e f = absurd (false≢true e)
    one (Some y) e f = join (int_eq x y) _ _ (f e)

exact_not : (ms : List Meaning) → (r.any_may_be_undefined (spans ms) || r.some_meet (spans ms)) ≡ not (v.are_distinct ms)
exact_not [] = refl
exact_not (m ∷ ms) = one m.number (exact_not ms)
  where
    none : (b : Bool) → (b && false) ≡ false
    none true = refl
    none false = refl

    join : (u d a l s e : Bool) → u ≡ not d → (d ≡ true → a ≡ not l) → (u || s) ≡ not e → (u || (a || s)) ≡ not (l && e)
    join u true a true s e f g h = ap2 (λ x y. x || (y || s)) f (g refl) ∙ ap (λ x. x || s) (sym f) ∙ h
    join u true a false s e f g h = ap2 (λ x y. x || (y || s)) f (g refl)
    join u false a l s e f g h = ap (λ x. x || (a || s)) f ∙ sym (ap not (ap (λ x. l && x) (off e (sym h ∙ ap (λ x. x || s) f)) ∙ none l))
      where
        off : (e : Bool) → not e ≡ true → e ≡ false
        off true k = absurd (false≢true k)
        off false k = refl

    one : (o : Option ℤ) → (r.any_may_be_undefined (spans ms) || r.some_meet (spans ms)) ≡ not (v.are_distinct ms) →
        (((of_number o).may_be_undefined || r.any_may_be_undefined (spans ms)) || (list_any (λ q. r.compare_intervals r.meets (of_number o).interval q.interval) (spans ms) || r.some_meet (spans ms))) ≡ not (is_some o && list_all (λ n. v.compare v.int_ne o n.number) ms && v.are_distinct ms)
    one None h = refl
    one (Some x) h = join (r.any_may_be_undefined (spans ms)) (v.all_defined ms) _ _ (r.some_meet (spans ms)) (v.are_distinct ms) (any_undefined ms) (meets_or_differs x ms) h

pub exact_distinct : (ms : List Meaning) → r.distinct (spans ms) ≡ r.boolean_enclosure (v.are_distinct ms) (not (v.are_distinct ms))
exact_distinct ms = ap2 r.boolean_enclosure whether (exact_not ms)
  where
    forth : (r.all_some (spans ms) && r.have_room (spans ms)) ≡ true → v.are_distinct ms ≡ true
    forth e = both_ways (v.are_distinct ms) (λ k. k) (λ k.
        or_split (r.any_may_be_undefined (spans ms)) (r.some_meet (spans ms)) (exact_not ms ∙ ap not k)
        (λ u. absurd (false≢true (sym (not_true (r.all_some (spans ms)) (ap not (all_defined ms) ∙ sym (any_undefined ms) ∙ u)) ∙ and_left (r.all_some (spans ms)) (r.have_room (spans ms)) e)))
        (λ s. absurd (false≢true (sym (crowded ms s) ∙ and_right (r.all_some (spans ms)) (r.have_room (spans ms)) e))))

    back : v.are_distinct ms ≡ true → (r.all_some (spans ms) && r.have_room (spans ms)) ≡ true
    back e =
        let k = or_false (r.any_may_be_undefined (spans ms)) (r.some_meet (spans ms)) (exact_not ms ∙ ap not e) in
        and_true (r.all_some (spans ms)) (r.have_room (spans ms)) (all_defined ms ∙ defined (v.all_defined ms) (sym (any_undefined ms) ∙ k.0)) (apart_room (spans ms) (point_parts ms) k.1)
      where
        defined : (b : Bool) → not b ≡ false → b ≡ true
        defined true h = refl
        defined false h = sym h

    whether : (r.all_some (spans ms) && r.have_room (spans ms)) ≡ v.are_distinct ms
    whether = same_tests (r.all_some (spans ms) && r.have_room (spans ms)) (v.are_distinct ms) forth back
