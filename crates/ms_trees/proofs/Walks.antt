-- One turn of the walks over parts, on an assignment.
use Rattle.std.proofs.Common.{◌≡◌, ℕ, ◌+◌, ◌≤◌, List, [], ◌∷◌, Bool, true, false, ◌&&◌, Option, Some, None, map, length, IfSome, ◌^◌, suc, refl, sym, ap, ◌∙◌, subst, arith}
use Rattle.std.proofs.lemmas.Int.{ints}
use Rattle.std.proofs.Math.ListN.{length-map}
use Rattle.std.specs.Prelude.{ℤ, pos, ◌+ℤ◌, ◌/◌, nat_lt, is_some, if◌then◌else◌}
use Rattle.ms_num.specs.Numbers.{int_eq}
use Rattle.ms_num.specs.Span.{IsWithin}
use Rattle.ms_trees.specs.Value as v
use Rattle.ms_trees.specs.Value.{Meaning, value, how_many}
use Rattle.ms_trees.specs.Extreme.{so_far}
use Rattle.ms_trees.proofs.Onward.{onward}
use Rattle.ms_trees.specs.Enclosure.{points}
use Rattle.ms_trees.specs.WellFormed.{is_well_formed, is_numeric, is_number, are_numbers, checked}
use Rattle.ms_trees.proofs.Parts.{IsNumber}
use Rattle.ms_trees.specs.declared.tree.Ground.{Ground}
use Rattle.ms_trees.specs.declared.tree.Ground.TheVariants as g
use Rattle.ms_trees.specs.declared.tree.Ground.TheFolds.{the_lemmas}
use Rattle.ms_trees.proofs.Bools.{and_left, and_right}
use Rattle.ms_trees.proofs.Fits.{value_within}

-- the number of a part is within the limits
pub number_within : (a : List ℤ) (x : Ground) → IsNumber (points a) x → (z : ℤ) → Some z ≡ (value a x).number → IsWithin z
number_within a x n z e = value_within a x z n.fit n.numeric (sym e)

pub first_of_pair : (m n : Option ℤ) (p q : ℤ) → Some (p, q) ≡ v.pair m n → Some p ≡ m
first_of_pair None n p q e = absurd (no (p, q) e)
  where
    no : (x : ℤ × ℤ) → Some x ≡ None → ⊥
    no x e = cc
first_of_pair (Some x) None p q e = absurd (no (p, q) e)
  where
    no : (x : ℤ × ℤ) → Some x ≡ None → ⊥
    no x e = cc
first_of_pair (Some x) (Some y) p q e = ap (λ o. v.image (λ z. Some z) (v.apply (λ s t. Some s) o)) e

-- ---- the least or the greatest

pub onward_one : (f : ℤ → ℤ → Option ℤ) (o m : Option ℤ) (x y : ℤ) (ms : List Meaning) → Some x ≡ m → Some y ≡ so_far f o x → v.folded f (Some y) ms ≡ onward f o (record { number = m; truth = false } ∷ ms)
onward_one f None m x y ms e k = ap (λ o. v.folded f o ms) (k ∙ e)
onward_one f (Some b) m x y ms e k = ap (λ o. v.folded f o ms) k ∙ ap (λ o. v.folded f (v.both f (Some b) o) ms) e

folded_none : (f : ℤ → ℤ → Option ℤ) (ms : List Meaning) → v.folded f None ms ≡ None
folded_none f [] = refl
folded_none f (m ∷ ms) = folded_none f ms

pub onward_none : (f : ℤ → ℤ → Option ℤ) (o m : Option ℤ) (ms : List Meaning) → None ≡ m → None ≡ onward f o (record { number = m; truth = false } ∷ ms)
onward_none f None m ms e = sym (folded_none f ms) ∙ ap (λ o. v.folded f o ms) e
onward_none f (Some b) m ms e = sym (folded_none f ms) ∙ ap (λ o. v.folded f (v.both f (Some b) o) ms) e

-- only the number of the first part counts
pub onward_number : (f : ℤ → ℤ → Option ℤ) (o : Option ℤ) (m : Meaning) (ms : List Meaning) → onward f o (record { number = m.number; truth = false } ∷ ms) ≡ onward f o (m ∷ ms)
onward_number f None m ms = refl
onward_number f (Some b) m ms = refl

-- one turn over integer parts
pub record NumbersOn (a : List ℤ) (ys rest : List Ground) (x : Ground) : Type 0 where
  pub fit : are_numbers (map (checked (points a)) rest) ≡ true
  pub here : IsNumber (points a) x
  pub onward : (f : ℤ → ℤ → Option ℤ) (o : Option ℤ) → onward f o (map (value a) ys) ≡ onward f o (value a x ∷ map (value a) rest)
  pub defined : v.all_defined (map (value a) ys) ≡ (is_some (value a x).number && v.all_defined (map (value a) rest))
  pub many : (p : Meaning → Bool) → how_many p (map (value a) ys) ≡ (if p (value a x) then suc (how_many p (map (value a) rest)) else how_many p (map (value a) rest))

pub numbers_on : (a : List ℤ) (ys rest : List Ground) (x : Ground) → ys ≡ x ∷ rest → are_numbers (map (checked (points a)) ys) ≡ true → NumbersOn a ys rest x
numbers_on a ys rest x e fit =
    let f : are_numbers (map (checked (points a)) (x ∷ rest)) ≡ true = ap (λ zs. are_numbers (map (checked (points a)) zs)) (sym e) ∙ fit in
    let n = and_left (is_number (checked (points a) x)) (are_numbers (map (checked (points a)) rest)) f in
    record {
      fit = and_right (is_number (checked (points a) x)) (are_numbers (map (checked (points a)) rest)) f;
      here = record { fit = and_left (is_well_formed (points a) x) (is_numeric x) n; numeric = and_right (is_well_formed (points a) x) (is_numeric x) n };
      onward = λ f o. ap (λ zs. onward f o (map (value a) zs)) e;
      defined = ap (λ zs. v.all_defined (map (value a) zs)) e;
      many = λ p. ap (λ zs. how_many p (map (value a) zs)) e;
    }

-- a part that is a number, counted where it is the one
pub counted_one : (b : Bool) (c k n m : ℕ) → k ≡ (if b then 1 else 0) → m ≡ (if b then suc n else n) → (c + k) + n ≡ c + m
counted_one true c k n m e f = omega (arith, e, f)
counted_one false c k n m e f = omega (arith, e, f)

-- a part that is undefined
pub not_counted : (ms : List Meaning) (n : ℤ) → v.all_defined ms ≡ false → None ≡ v.counted ms (Some n)
not_counted ms n e = sym (ap (λ b. if b && true then Some (pos (how_many (λ (m : Meaning). v.compare int_eq m.number (Some n)) ms)) else None) e)

pub all_counted : (ms : List Meaning) (n : ℤ) (k : ℕ) → v.all_defined ms ≡ true → k ≡ how_many (λ (m : Meaning). v.compare int_eq m.number (Some n)) ms → Some (pos k) ≡ v.counted ms (Some n)
all_counted ms n k e f = ap (λ c. Some (pos c)) f ∙ sym (ap (λ b. if b && true then Some (pos (how_many (λ (m : Meaning). v.compare int_eq m.number (Some n)) ms)) else None) e)

pub many_below : {X : Type 0} (p : X → Bool) (xs : List X) → how_many p xs ≤ length xs
many_below p [] = omega arith
many_below p (x ∷ xs) = one (p x) (many_below p xs)
  where
    one : (b : Bool) → how_many p xs ≤ length xs → (if b then suc (how_many p xs) else how_many p xs) ≤ suc (length xs)
    one true h = omega arith
    one false h = omega arith

pub unselected : (low : ℤ) (k : ℕ) (ms : List Meaning) → v.selected (v.is_place low None) k ms ≡ None
unselected low k [] = refl
unselected low k (m ∷ ms) = unselected low (suc k) ms

and_none : (b c : Bool) → (b && false && c) ≡ false
and_none true c = refl
and_none false c = refl

pub unselected2 : (k l : ℤ) (w n : ℕ) (i j : Option ℤ) → None ≡ v.pair i j → (p : ℕ) (ms : List Meaning) → v.selected (v.is_place2 k l w n i j) p ms ≡ None
unselected2 k l w n None j e p [] = refl
unselected2 k l w n None j e p (m ∷ ms) = unselected2 k l w n None j e (suc p) ms
unselected2 k l w n (Some y) None e p [] = refl
unselected2 k l w n (Some y) None e p (m ∷ ms) =
    ap (λ b. if b then m.number else v.selected (v.is_place2 k l w n (Some y) None) (suc p) ms) (and_none (int_eq y (k +ℤ pos (p / w))) (nat_lt (p / w) (n / w))) ∙ unselected2 k l w n (Some y) None e (suc p) ms
unselected2 k l w n (Some y) (Some z) e p ms = absurd (no (y, z) e)
  where
    no : (x : ℤ × ℤ) → None ≡ Some x → ⊥
    no x e = cc

-- ---- access by index, as the value of a tree

pub elem_value : (a : List ℤ) (low : ℤ) (xs : List Ground) (i : Ground) → v.selected (v.is_place low (value a i).number) 0 (map (value a) xs) ≡ (value a (g.Elem low xs i)).number
elem_value a low xs i = sym (search the_lemmas)

elem2_fold : (a : List ℤ) (k l : ℤ) (w : ℕ) (xs : List Ground) (i j : Ground) → (value a (g.Elem2 k l w xs i j)).number ≡ v.selected (v.is_place2 k l w (length (map (value a) xs)) (value a i).number (value a j).number) 0 (map (value a) xs)
elem2_fold a k l w xs i j = search the_lemmas

pub elem2_value : (a : List ℤ) (k l : ℤ) (w : ℕ) (xs : List Ground) (i j : Ground) (p q : Option ℤ) → v.pair p q ≡ v.pair (value a i).number (value a j).number →
    v.selected (v.is_place2 k l w (length xs) p q) 0 (map (value a) xs) ≡ (value a (g.Elem2 k l w xs i j)).number
elem2_value a k l w xs i j p q e =
    same p q (value a i).number (value a j).number e
    ∙ ap (λ n. v.selected (v.is_place2 k l w n (value a i).number (value a j).number) 0 (map (value a) xs)) (sym (length-map xs (value a)))
    ∙ sym (elem2_fold a k l w xs i j)
  where
    no : (x : ℤ × ℤ) → None ≡ Some x → ⊥
    no x e = cc

    none : (m n : Option ℤ) → None ≡ v.pair m n → v.selected (v.is_place2 k l w (length xs) m n) 0 (map (value a) xs) ≡ None
    none m n h = unselected2 k l w (length xs) m n h 0 (map (value a) xs)

    one : (y z s t : ℤ) → ◌≡◌ {A = Option (ℤ × ℤ)} (Some (y, z)) (Some (s, t)) → v.selected (v.is_place2 k l w (length xs) (Some y) (Some z)) 0 (map (value a) xs) ≡ v.selected (v.is_place2 k l w (length xs) (Some s) (Some t)) 0 (map (value a) xs)
    one y z s t h = ap (λ o. v.selected (v.is_place2 k l w (length xs) (v.image (λ r. Some r) (v.apply (λ u r. Some u) o)) (v.image (λ r. Some r) (v.apply (λ u r. Some r) o))) 0 (map (value a) xs)) h

    same : (p q m n : Option ℤ) → v.pair p q ≡ v.pair m n → v.selected (v.is_place2 k l w (length xs) p q) 0 (map (value a) xs) ≡ v.selected (v.is_place2 k l w (length xs) m n) 0 (map (value a) xs)
    same None q m n h = none None q refl ∙ sym (none m n h)
    same (Some y) None m n h = none (Some y) None refl ∙ sym (none m n h)
    same (Some y) (Some z) None n h = absurd (no (y, z) (sym h))
    same (Some y) (Some z) (Some s) None h = absurd (no (y, z) (sym h))
    same (Some y) (Some z) (Some s) (Some t) h = one y z s t h

pub at_most_one : (b : Bool) (k : ℕ) → k ≡ (if b then 1 else 0) → k ≤ 1
at_most_one true k e = omega (arith, e)
at_most_one false k e = omega (arith, e)

count_number : (a : List ℤ) (xs : List Ground) (y : Ground) → (value a (g.Count xs y)).number ≡ v.counted (map (value a) xs) (value a y).number
count_number a xs y = search the_lemmas

-- a count is within the limits
pub count_within : (a : List ℤ) (xs : List Ground) (y : Ground) (n : ℤ) → is_well_formed (points a) (g.Count xs y) ≡ true → Some n ≡ (value a y).number → IfSome (v.counted (map (value a) xs) (Some n)) IsWithin
count_within a xs y n h e = one (v.counted (map (value a) xs) (Some n)) refl
  where
    one : (o : Option ℤ) → v.counted (map (value a) xs) (Some n) ≡ o → IfSome o IsWithin
    one None k = tt
    one (Some z) k = value_within a (g.Count xs y) z h (search the_lemmas) (count_number a xs y ∙ ap (v.counted (map (value a) xs)) (sym e) ∙ k)

pub count_fits : (ms : List Meaning) (n : ℤ) (k : ℕ) → v.all_defined ms ≡ true → k ≡ how_many (λ (m : Meaning). v.compare int_eq m.number (Some n)) ms → IfSome (v.counted ms (Some n)) IsWithin → k ≤ 2 ^ 50
count_fits ms n k e f h = let w = subst (λ o. IfSome o IsWithin) (sym (all_counted ms n k e f)) h in omega (arith, ints, w.high)
