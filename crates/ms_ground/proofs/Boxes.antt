-- One turn of the walks over parts, on a box.
use Rattle.std.proofs.Common.{◌≡◌, ℕ, ◌+◌, ◌<◌, ◌≤◌, List, [], ◌∷◌, Bool, true, false, ◌&&◌, ◌||◌, Option, Some, None, map, length, drop, get_or, set, zero, suc, ◌⊎◌, inl, inr, add-one, refl, sym, ap, ◌∙◌, arith}
use Rattle.std.proofs.lemmas.Bool.{false≢true}
use Rattle.std.proofs.lemmas.List.{get_or-set_other}
use Rattle.std.proofs.lemmas.Grind.{get_or-set_at}
use Rattle.std.proofs.Math.Nat.{eq-or-lt_of_le}
use Rattle.std.proofs.lemmas.Int.{ints, int_max_is, int_min_is}
use Rattle.std.proofs.Math.ListN.{length-map}
use Rattle.std.specs.Prelude.{ℤ, pos, ◌/◌, is_some, int_le, if◌then◌else◌}
use Rattle.std.specs.Int.{int_min, int_max}
use Rattle.ms_num.specs.Numbers.{int_eq}
use Rattle.ms_num.specs.Span.{Span, has, join_some}
use Rattle.ms_trees.specs.Value.{how_many}
use Rattle.ms_trees.specs.Extreme.{so_far_on}
use Rattle.ms_trees.proofs.Onward.{onward_on}
use Rattle.ms_trees.specs.Enclosure as r
use Rattle.ms_trees.specs.Enclosure.{enclosure}
use Rattle.ms_trees.specs.WellFormed.{is_number, is_truth, are_numbers, are_truths, checked, fits}
use Rattle.ms_trees.specs.declared.tree.Enclosure.{Enclosure}
use Rattle.ms_trees.specs.declared.tree.Ground.{Ground}
use Rattle.ms_trees.specs.declared.tree.Ground.TheVariants as g
use Rattle.ms_trees.specs.declared.tree.Ground.TheFolds.{the_lemmas}
use Rattle.ms_trees.proofs.Bools.{ap2, or_none, and_left, and_right, and_true, of_le, eq_of}
use Rattle.ms_trees.proofs.Fits.{drop_here, read_default}
use Rattle.ms_ground.specs.Known.{known, numbers_of, truths_of, number_on, truth_on, node_of_numbers, node_of_truths}
use Rattle.ms_ground.proofs.Known.{some_number, some_truth, no_number, no_truth}

-- ---- whether all parts are well formed

-- the parts from one on, where all before it are well formed integer trees
pub numbers_stop : (b : List Span) (xs ys rest : List Ground) (x : Ground) (e : Enclosure) → ys ≡ x ∷ rest → are_numbers (map (checked b) ys) ≡ are_numbers (map (checked b) xs) → None ≡ number_on b x → None ≡ node_of_numbers b xs e
numbers_stop b xs ys rest x e here same n =
    ap (λ k. known ((k && are_numbers (map (checked b) rest)) && fits e.interval) e) (sym (no_number b x n))
    ∙ ap (λ zs. known (are_numbers (map (checked b) zs) && fits e.interval) e) (sym here) ∙ ap (λ k. known (k && fits e.interval) e) same

pub truths_stop : (b : List Span) (xs ys rest : List Ground) (x : Ground) (e : Enclosure) → ys ≡ x ∷ rest → are_truths (map (checked b) ys) ≡ are_truths (map (checked b) xs) → None ≡ truth_on b x → None ≡ node_of_truths b xs e
truths_stop b xs ys rest x e here same n =
    ap (λ k. known (k && are_truths (map (checked b) rest)) e) (sym (no_truth b x n))
    ∙ ap (λ zs. known (are_truths (map (checked b) zs)) e) (sym here) ∙ ap (λ k. known k e) same

-- the end of the parts
pub numbers_end : (b : List Span) (xs ys : List Ground) → ys ≡ [] → are_numbers (map (checked b) ys) ≡ are_numbers (map (checked b) xs) → are_numbers (map (checked b) xs) ≡ true
numbers_end b xs ys none same = sym same ∙ ap (λ zs. are_numbers (map (checked b) zs)) none

pub truths_end : (b : List Span) (xs ys : List Ground) → ys ≡ [] → are_truths (map (checked b) ys) ≡ are_truths (map (checked b) xs) → are_truths (map (checked b) xs) ≡ true
truths_end b xs ys none same = sym same ∙ ap (λ zs. are_truths (map (checked b) zs)) none

-- a node over numbers alone
pub node_is : (b : List Span) (xs : List Ground) (e : Enclosure) → are_numbers (map (checked b) xs) ≡ true → known (fits e.interval) e ≡ node_of_numbers b xs e
node_is b xs e all = ap (λ k. known (k && fits e.interval) e) (sym all)

or_assoc : (a b c : Bool) → ((a || b) || c) ≡ (a || (b || c))
or_assoc true b c = refl
or_assoc false b c = refl

and_assoc : (a b c : Bool) → ((a && b) && c) ≡ (a && (b && c))
and_assoc true b c = refl
and_assoc false b c = refl

-- one turn over integer parts
pub record PartsOn (b : List Span) (ys rest : List Ground) (q : Enclosure) : Type 0 where
  pub known : are_numbers (map (checked b) ys) ≡ are_numbers (map (checked b) rest)
  pub onward : (f : Span → Span → Span) (o : Option Enclosure) → onward_on f o (map (enclosure b) ys) ≡ onward_on f (Some (so_far_on f o q)) (map (enclosure b) rest)
  pub defined : (u : Bool) → (u && r.all_some (map (enclosure b) ys)) ≡ ((u && is_some q.interval) && r.all_some (map (enclosure b) rest))
  pub may_be_undefined : (u : Bool) → (u || r.any_may_be_undefined (map (enclosure b) ys)) ≡ ((u || q.may_be_undefined) || r.any_may_be_undefined (map (enclosure b) rest))
  pub many : (p : Option Span → Bool) → how_many (λ (x : Enclosure). p x.interval) (map (enclosure b) ys) ≡ (if p q.interval then suc (how_many (λ (x : Enclosure). p x.interval) (map (enclosure b) rest)) else how_many (λ (x : Enclosure). p x.interval) (map (enclosure b) rest))

pub parts_on : (b : List Span) (ys rest : List Ground) (x : Ground) (q : Enclosure) → ys ≡ x ∷ rest → Some q ≡ number_on b x → PartsOn b ys rest q
parts_on b ys rest x q e k = let n = some_number b x q k in let is = n.is in record {
  known = ap (λ zs. are_numbers (map (checked b) zs)) e ∙ ap (λ t. t && are_numbers (map (checked b) rest)) n.number;
  onward = λ f o. ap (λ zs. onward_on f o (map (enclosure b) zs)) e ∙ step f o (enclosure b x) (map (enclosure b) rest) ∙ ap (λ p. onward_on f (Some (so_far_on f o p)) (map (enclosure b) rest)) (sym is);
  defined = λ u. ap (λ zs. u && r.all_some (map (enclosure b) zs)) e ∙ sym (and_assoc u (is_some (enclosure b x).interval) (r.all_some (map (enclosure b) rest))) ∙ ap (λ (p : Enclosure). (u && is_some p.interval) && r.all_some (map (enclosure b) rest)) (sym is);
  may_be_undefined = λ u. ap (λ zs. u || r.any_may_be_undefined (map (enclosure b) zs)) e ∙ sym (or_assoc u (enclosure b x).may_be_undefined (r.any_may_be_undefined (map (enclosure b) rest))) ∙ ap (λ (p : Enclosure). (u || p.may_be_undefined) || r.any_may_be_undefined (map (enclosure b) rest)) (sym is);
  many = λ p. ap (λ zs. how_many (λ (x : Enclosure). p x.interval) (map (enclosure b) zs)) e ∙ ap (λ (s : Enclosure). if p s.interval then suc (how_many (λ (x : Enclosure). p x.interval) (map (enclosure b) rest)) else how_many (λ (x : Enclosure). p x.interval) (map (enclosure b) rest)) (sym is);
}
  where
    step : (f : Span → Span → Span) (o : Option Enclosure) (p : Enclosure) (rs : List Enclosure) → onward_on f o (p ∷ rs) ≡ onward_on f (Some (so_far_on f o (r.numeric_enclosure p.interval p.may_be_undefined))) rs
    step f None p rs = refl
    step f (Some s) p rs = ap (λ u. r.numeric_enclosure (r.folded_intervals f (r.both_intervals f s.interval p.interval) rs) u) (sym (or_assoc s.may_be_undefined p.may_be_undefined (r.any_may_be_undefined rs)))

pub onward_end : (f : Span → Span → Span) (s : Enclosure) → onward_on f (Some s) [] ≡ r.numeric_enclosure s.interval s.may_be_undefined
onward_end f s = ap (r.numeric_enclosure s.interval) (or_none s.may_be_undefined)

-- ---- joins

min_assoc : (x y z : ℤ) → int_min (int_min x y) z ≡ int_min x (int_min y z)
min_assoc x y z = omega (arith, ints, int_min_is x y, int_min_is (int_min x y) z, int_min_is y z, int_min_is x (int_min y z))

max_assoc : (x y z : ℤ) → int_max (int_max x y) z ≡ int_max x (int_max y z)
max_assoc x y z = omega (arith, ints, int_max_is x y, int_max_is (int_max x y) z, int_max_is y z, int_max_is x (int_max y z))

join_assoc : (o p q : Option Span) → join_some (join_some o p) q ≡ join_some o (join_some p q)
join_assoc None p q = refl
join_assoc (Some s) None q = refl
join_assoc (Some s) (Some t) None = refl
join_assoc (Some s) (Some t) (Some u) = ap (λ x. Some x) (ap2 (λ x y. record { lo = x; hi = y }) (min_assoc s.lo t.lo u.lo) (max_assoc s.hi t.hi u.hi))

pub join_end : (o : Option Span) → join_some o None ≡ o
join_end None = refl
join_end (Some s) = refl

-- one turn of a walk by place
pub record PlaceOn (b : List Span) (ys : List Ground) (at : ℕ → Bool) (k : ℕ) (s t : Enclosure) : Type 0 where
  pub known : are_numbers (map (checked b) (drop k ys)) ≡ are_numbers (map (checked b) (drop (k + 1) ys))
  pub numbers_next : join_some t.interval (r.joined at (k + 1) (map (enclosure b) (drop (k + 1) ys))) ≡ join_some s.interval (r.joined at k (map (enclosure b) (drop k ys)))
  pub undefined_next : (t.may_be_undefined || r.reached_undefined at (k + 1) (map (enclosure b) (drop (k + 1) ys))) ≡ (s.may_be_undefined || r.reached_undefined at k (map (enclosure b) (drop k ys)))

module _ (b : List Span) (ys : List Ground) (at : ℕ → Bool) (k : ℕ) (x : Ground) (q : Enclosure) (lt : k < length ys) (is : x ≡ get_or ys k x) (some : Some q ≡ number_on b x) where
  here : drop k ys ≡ x ∷ drop (k + 1) ys
  here = drop_here ys k x lt is

  known_rest : are_numbers (map (checked b) (drop k ys)) ≡ are_numbers (map (checked b) (drop (k + 1) ys))
  known_rest = ap (λ zs. are_numbers (map (checked b) zs)) here ∙ ap (λ t. t && are_numbers (map (checked b) (drop (k + 1) ys))) (some_number b x q some).number

  joined_here : (c : Bool) → at k ≡ c → r.joined at k (map (enclosure b) (drop k ys)) ≡ (if c then join_some (enclosure b x).interval (r.joined at (k + 1) (map (enclosure b) (drop (k + 1) ys))) else r.joined at (k + 1) (map (enclosure b) (drop (k + 1) ys)))
  joined_here c e =
      ap (λ zs. r.joined at k (map (enclosure b) zs)) here
      ∙ ap (λ d. if d then join_some (enclosure b x).interval (r.joined at (suc k) (map (enclosure b) (drop (k + 1) ys))) else r.joined at (suc k) (map (enclosure b) (drop (k + 1) ys))) e
      ∙ ap (λ n. if c then join_some (enclosure b x).interval (r.joined at n (map (enclosure b) (drop (k + 1) ys))) else r.joined at n (map (enclosure b) (drop (k + 1) ys))) (sym (add-one k))

  undefined_here : (c : Bool) → at k ≡ c → r.reached_undefined at k (map (enclosure b) (drop k ys)) ≡ (c && (enclosure b x).may_be_undefined || r.reached_undefined at (k + 1) (map (enclosure b) (drop (k + 1) ys)))
  undefined_here c e =
      ap (λ zs. r.reached_undefined at k (map (enclosure b) zs)) here
      ∙ ap (λ d. d && (enclosure b x).may_be_undefined || r.reached_undefined at (suc k) (map (enclosure b) (drop (k + 1) ys))) e
      ∙ ap (λ n. c && (enclosure b x).may_be_undefined || r.reached_undefined at n (map (enclosure b) (drop (k + 1) ys))) (sym (add-one k))

  pub place_taken : (s t : Enclosure) → at k ≡ true → t ≡ r.numeric_enclosure (join_some s.interval q.interval) (s.may_be_undefined || q.may_be_undefined) → PlaceOn b ys at k s t
  place_taken s t e g =
      let t' : t ≡ r.numeric_enclosure (join_some s.interval (enclosure b x).interval) (s.may_be_undefined || (enclosure b x).may_be_undefined) = g ∙ ap (λ (p : Enclosure). r.numeric_enclosure (join_some s.interval p.interval) (s.may_be_undefined || p.may_be_undefined)) (some_number b x q some).is in
      record {
        known = known_rest;
        numbers_next = ap (λ (p : Enclosure). join_some p.interval (r.joined at (k + 1) (map (enclosure b) (drop (k + 1) ys)))) t'
            ∙ join_assoc s.interval (enclosure b x).interval (r.joined at (k + 1) (map (enclosure b) (drop (k + 1) ys))) ∙ ap (join_some s.interval) (sym (joined_here true e));
        undefined_next = ap (λ (p : Enclosure). p.may_be_undefined || r.reached_undefined at (k + 1) (map (enclosure b) (drop (k + 1) ys))) t'
            ∙ or_assoc s.may_be_undefined (enclosure b x).may_be_undefined (r.reached_undefined at (k + 1) (map (enclosure b) (drop (k + 1) ys))) ∙ ap (λ u. s.may_be_undefined || u) (sym (undefined_here true e));
      }

  pub place_left : (s t : Enclosure) → at k ≡ false → t ≡ s → PlaceOn b ys at k s t
  place_left s t e g = record {
    known = known_rest;
    numbers_next = ap (λ (p : Enclosure). join_some p.interval (r.joined at (k + 1) (map (enclosure b) (drop (k + 1) ys)))) g ∙ ap (join_some s.interval) (sym (joined_here false e));
    undefined_next = ap (λ (p : Enclosure). p.may_be_undefined || r.reached_undefined at (k + 1) (map (enclosure b) (drop (k + 1) ys))) g ∙ ap (λ u. s.may_be_undefined || u) (sym (undefined_here false e));
  }

-- ---- access by index, as what a tree may mean

elem_fold : (b : List Span) (low : ℤ) (xs : List Ground) (i : Ground) → enclosure b (g.Elem low xs i) ≡ r.selected_enclosure (r.is_reached low (enclosure b i).interval) ((enclosure b i).may_be_undefined || r.leaves low (length (map (enclosure b) xs)) (enclosure b i).interval) (map (enclosure b) xs)
elem_fold b low xs i = search the_lemmas

pub elem_reach : (b : List Span) (low : ℤ) (xs : List Ground) (i : Ground) → r.selected_enclosure (r.is_reached low (enclosure b i).interval) ((enclosure b i).may_be_undefined || r.leaves low (length xs) (enclosure b i).interval) (map (enclosure b) xs) ≡ enclosure b (g.Elem low xs i)
elem_reach b low xs i =
    ap (λ n. r.selected_enclosure (r.is_reached low (enclosure b i).interval) ((enclosure b i).may_be_undefined || r.leaves low n (enclosure b i).interval) (map (enclosure b) xs)) (sym (length-map xs (enclosure b))) ∙ sym (elem_fold b low xs i)

elem2_fold : (b : List Span) (k l : ℤ) (w : ℕ) (xs : List Ground) (i j : Ground) → enclosure b (g.Elem2 k l w xs i j)
    ≡ r.selected_enclosure (r.is_reached2 k l w (length (map (enclosure b) xs)) (enclosure b i).interval (enclosure b j).interval)
    ((enclosure b i).may_be_undefined || (enclosure b j).may_be_undefined || r.leaves k (length (map (enclosure b) xs) / w) (enclosure b i).interval || r.leaves l w (enclosure b j).interval) (map (enclosure b) xs)
elem2_fold b k l w xs i j = search the_lemmas

pub elem2_reach : (b : List Span) (k l : ℤ) (w : ℕ) (xs : List Ground) (i j : Ground) →
    r.selected_enclosure (r.is_reached2 k l w (length xs) (enclosure b i).interval (enclosure b j).interval) ((enclosure b i).may_be_undefined || (enclosure b j).may_be_undefined || r.leaves k (length xs / w) (enclosure b i).interval || r.leaves l w (enclosure b j).interval) (map (enclosure b) xs)
    ≡ enclosure b (g.Elem2 k l w xs i j)
elem2_reach b k l w xs i j =
    ap (λ n. r.selected_enclosure (r.is_reached2 k l w n (enclosure b i).interval (enclosure b j).interval) ((enclosure b i).may_be_undefined || (enclosure b j).may_be_undefined || r.leaves k (n / w) (enclosure b i).interval || r.leaves l w (enclosure b j).interval) (map (enclosure b) xs)) (sym (length-map xs (enclosure b)))
    ∙ sym (elem2_fold b k l w xs i j)

-- ---- counts

-- the same single number lies in both
same_meets : (s t : Span) → r.same_single s t ≡ true → r.meets s t ≡ true
same_meets s t h =
    let a = eq_of s.lo s.hi (and_left (int_eq s.lo s.hi) (int_eq s.lo t.lo) (and_left (int_eq s.lo s.hi && int_eq s.lo t.lo) (int_eq t.lo t.hi) h)) in
    let c = eq_of s.lo t.lo (and_right (int_eq s.lo s.hi) (int_eq s.lo t.lo) (and_left (int_eq s.lo s.hi && int_eq s.lo t.lo) (int_eq t.lo t.hi) h)) in
    let d = eq_of t.lo t.hi (and_right (int_eq s.lo s.hi && int_eq s.lo t.lo) (int_eq t.lo t.hi) h) in
    and_true (int_le s.lo t.hi) (int_le t.lo s.hi) (of_le s.lo t.hi (omega (arith, ints, a, c, d))) (of_le t.lo s.hi (omega (arith, ints, a, c, d)))

-- what is certain is possible
pub certain_possible : (o p : Option Span) (m n : ℕ) → m ≡ (if r.compare_intervals r.same_single o p then 1 else 0) → n ≡ (if r.compare_intervals r.meets o p then 1 else 0) → m ≤ n
certain_possible None p m n e f = omega (arith, e)
certain_possible (Some s) None m n e f = omega (arith, e)
certain_possible (Some s) (Some t) m n e f = one (r.same_single s t) refl e
  where
    one : (c : Bool) → r.same_single s t ≡ c → m ≡ (if c then 1 else 0) → m ≤ n
    one false h e = omega (arith, e)
    one true h e = two (r.meets s t) (same_meets s t h) f e
      where
        two : (d : Bool) → d ≡ true → n ≡ (if d then 1 else 0) → m ≡ 1 → m ≤ n
        two true h f e = omega (arith, e, f)
        two false h f e = cc

counted_if : (w d s : Bool) (c : Span) (u : Bool) → w ≡ (s && d) → (if d && s then Some c else None) ≡ (if w then Some c else None)
counted_if w true true c u e = ap (λ b. if b then Some c else None) (sym e)
counted_if w true false c u e = ap (λ b. if b then Some c else None) (sym e)
counted_if w false true c u e = ap (λ b. if b then Some c else None) (sym e)
counted_if w false false c u e = ap (λ b. if b then Some c else None) (sym e)

-- the end of a count
pub count_is : (rs : List Enclosure) (y : Enclosure) (w u : Bool) (m n : ℕ) → w ≡ (is_some y.interval && r.all_some rs) → u ≡ (y.may_be_undefined || r.any_may_be_undefined rs) →
    m ≡ how_many (λ (x : Enclosure). r.compare_intervals r.same_single x.interval y.interval) rs → n ≡ how_many (λ (x : Enclosure). r.compare_intervals r.meets x.interval y.interval) rs →
    r.numeric_enclosure (if w then Some (record { lo = pos m; hi = pos n }) else None) u ≡ r.counted_enclosure rs y
count_is rs y w u m n e f g h =
    ap2 (λ c v. r.numeric_enclosure (if w then Some c else None) v) (ap2 (λ a b. record { lo = pos a; hi = pos b }) g h) f
    ∙ ap (λ o. r.numeric_enclosure o (y.may_be_undefined || r.any_may_be_undefined rs)) (sym (counted_if w (r.all_some rs) (is_some y.interval) (r.counts rs y.interval) true e))

-- ---- Boolean parts

-- one turn over Boolean parts
pub record TruthsOn (b : List Span) (ys rest : List Ground) (q : Enclosure) : Type 0 where
  pub known : are_truths (map (checked b) ys) ≡ are_truths (map (checked b) rest)
  pub all_yes : (u : Bool) → (u && r.all_may_be_true (map (enclosure b) ys)) ≡ ((u && q.may_be_true) && r.all_may_be_true (map (enclosure b) rest))
  pub any_no : (u : Bool) → (u || r.any_may_be_false (map (enclosure b) ys)) ≡ ((u || q.may_be_false) || r.any_may_be_false (map (enclosure b) rest))
  pub any_yes : (u : Bool) → (u || r.any_may_be_true (map (enclosure b) ys)) ≡ ((u || q.may_be_true) || r.any_may_be_true (map (enclosure b) rest))
  pub all_no : (u : Bool) → (u && r.all_may_be_false (map (enclosure b) ys)) ≡ ((u && q.may_be_false) && r.all_may_be_false (map (enclosure b) rest))

pub truths_on : (b : List Span) (ys rest : List Ground) (x : Ground) (q : Enclosure) → ys ≡ x ∷ rest → Some q ≡ truth_on b x → TruthsOn b ys rest q
truths_on b ys rest x q e k = let n = some_truth b x q k in let is = n.is in record {
  known = ap (λ zs. are_truths (map (checked b) zs)) e ∙ ap (λ t. t && are_truths (map (checked b) rest)) n.truth;
  all_yes = λ u. ap (λ zs. u && r.all_may_be_true (map (enclosure b) zs)) e ∙ ap (λ (p : Enclosure). u && (p.may_be_true && r.all_may_be_true (map (enclosure b) rest))) (sym is) ∙ sym (and_assoc u q.may_be_true (r.all_may_be_true (map (enclosure b) rest)));
  any_no = λ u. ap (λ zs. u || r.any_may_be_false (map (enclosure b) zs)) e ∙ ap (λ (p : Enclosure). u || (p.may_be_false || r.any_may_be_false (map (enclosure b) rest))) (sym is) ∙ sym (or_assoc u q.may_be_false (r.any_may_be_false (map (enclosure b) rest)));
  any_yes = λ u. ap (λ zs. u || r.any_may_be_true (map (enclosure b) zs)) e ∙ ap (λ (p : Enclosure). u || (p.may_be_true || r.any_may_be_true (map (enclosure b) rest))) (sym is) ∙ sym (or_assoc u q.may_be_true (r.any_may_be_true (map (enclosure b) rest)));
  all_no = λ u. ap (λ zs. u && r.all_may_be_false (map (enclosure b) zs)) e ∙ ap (λ (p : Enclosure). u && (p.may_be_false && r.all_may_be_false (map (enclosure b) rest))) (sym is) ∙ sym (and_assoc u q.may_be_false (r.all_may_be_false (map (enclosure b) rest)));
}

pub and_end : (a : Bool) → (a && true) ≡ a
and_end true = refl
and_end false = refl

-- ---- the first parts

-- one more is kept, where there is room
pub kept_more : {X : Type 0} (xs : List X) (d x : X) (f : ℕ → X) (n : ℕ) → length xs ≡ 64 → x ≡ f n → ((k : ℕ) → k < n → k < 64 → get_or xs k d ≡ f k) → (k : ℕ) → k < n + 1 → k < 64 → get_or (set xs n x) k d ≡ f k
kept_more xs d x f n size e before k h small = one (eq-or-lt_of_le (omega (arith, h)))
  where
    one : (k ≡ n) ⊎ (k < n) → get_or (set xs n x) k d ≡ f k
    one (inl same) = get_or-set_at xs n k x d same (omega (arith, same, small, size)) ∙ e ∙ ap f (sym same)
    one (inr below) = get_or-set_other xs n k x d (λ same. absurd (omega (arith, same, below))) ∙ before k below small

drop_numbers : (b : List Span) (k : ℕ) (xs : List Ground) → are_numbers (map (checked b) xs) ≡ true → are_numbers (map (checked b) (drop k xs)) ≡ true
drop_numbers b zero xs h = h
drop_numbers b (suc k) [] h = h
drop_numbers b (suc k) (x ∷ xs) h = drop_numbers b k xs (and_right (is_number (checked b x)) (are_numbers (map (checked b) xs)) h)

-- a part of a list of well formed integer trees is one
pub never : (b : List Span) (xs : List Ground) (k : ℕ) (x : Ground) → k < length xs → x ≡ get_or xs k x → are_numbers (map (checked b) xs) ≡ true → None ≡ number_on b x → ⊥
never b xs k x lt is all n = false≢true (sym (no_number b x n) ∙ and_left (is_number (checked b x)) (are_numbers (map (checked b) (drop (k + 1) xs))) (ap (λ zs. are_numbers (map (checked b) zs)) (sym (drop_here xs k x lt is)) ∙ drop_numbers b k xs all))

pub not_all : (b : List Span) (xs : List Ground) (e : Enclosure) → are_numbers (map (checked b) xs) ≡ false → None ≡ node_of_numbers b xs e
not_all b xs e h = ap (λ k. known (k && fits e.interval) e) (sym h)
