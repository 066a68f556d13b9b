-- Access by index.
use Rattle.std.proofs.Common.{◌≡◌, ℕ, ◌+◌, ◌*◌, ◌/◌, ◌%◌, ◌<◌, ◌≤◌, List, [], ◌∷◌, Bool, true, false, not, ◌&&◌, ◌||◌, Option, Some, None, length, zero, suc, refl, sym, ap, ◌∙◌, subst, arith}
use Rattle.std.proofs.lemmas.Bool.{false≢true}
use Rattle.std.proofs.lemmas.Bool.Decides.{nat_tests}
use Rattle.std.proofs.lemmas.Int.{ints}
use Rattle.std.proofs.lemmas.Nat.{div-mul-add, mod-mul-add}
use Rattle.std.proofs.Math.Nat.{div-add-mod, div-zero}
use Rattle.std.proofs.Math.IntN.{nat_abs}
use Rattle.std.proofs.Math.ListN.{length-map}
use Rattle.std.specs.Prelude.{ℤ, pos, ◌+ℤ◌, ◌-ℤ◌, ◌≤ℤ◌, int_le, int_lt, nat_lt, is_some, if◌then◌else◌}
use Rattle.ms_num.specs.Numbers.{int_eq}
use Rattle.ms_num.specs.Span.{Span, point, has, join_some}
use Rattle.ms_trees.specs.Value as v
use Rattle.ms_trees.specs.Value.{Meaning}
use Rattle.ms_trees.specs.Enclosure as r
use Rattle.ms_trees.specs.Laws.{of_number, IsCoveredBy, MeansFewerNumbers}
use Rattle.ms_trees.specs.declared.tree.Enclosure.{Enclosure}
use Rattle.ms_trees.proofs.Bools.{ap2, and_left, and_right, and_true, or_left, or_right, or_split, or_less, or_false, is_false, opposite_tests, le_of, of_le, lt_of, of_lt, not_le, not_lt, eq_of, of_eq}
use Rattle.ms_trees.proofs.Points.{spans}
use Rattle.ms_trees.proofs.Lists.{AllLess, same_length, has_grows, join_fewer, join_more, left_some}

below_test : (a b : ℕ) → nat_lt a b ≡ true → a < b
below_test a b h = grind (arith, nat_tests)

pub test_below : (a b : ℕ) → a < b → nat_lt a b ≡ true
test_below a b h = grind (arith, nat_tests)

-- a place from k on passes
found : {X : Type 0} → (ℕ → Bool) → ℕ → List X → Bool
found at k [] = false
found at k (x ∷ xs) = at k || found at (suc k) xs

record IsFound (at : ℕ → Bool) (k n : ℕ) : Type 0 where
  place : ℕ
  from : k ≤ place
  below : place < k + n
  passes : at place ≡ true

found_at : {X : Type 0} (at : ℕ → Bool) (k d : ℕ) (xs : List X) → d < length xs → at (k + d) ≡ true → found at k xs ≡ true
unfolding found
found_at at k d [] l e = absurd (omega arith)
found_at at k zero (x ∷ xs) l e = or_left (at k) (found at (suc k) xs) (subst (λ n. at n ≡ true) (omega arith) e)
found_at at k (suc d) (x ∷ xs) l e = or_right (at k) (found at (suc k) xs) (found_at at (suc k) d xs (omega arith) (subst (λ n. at n ≡ true) (omega arith) e))

found_in : {X : Type 0} (at : ℕ → Bool) (k : ℕ) (xs : List X) → found at k xs ≡ true → IsFound at k (length xs)
unfolding found
found_in at k [] e = absurd (false≢true e)
found_in at k (x ∷ xs) e = or_split (at k) (found at (suc k) xs) e (λ h. record { place = k; from = omega arith; below = omega arith; passes = h }) (λ h. later (found_in at (suc k) xs h))
  where
    later : IsFound at (suc k) (length xs) → IsFound at k (suc (length xs))
    later f = record { place = f.place; from = omega arith; below = omega arith; passes = f.passes }

-- ---- one place passes

-- no two places pass
pub record IsUnique (at : ℕ → Bool) : Type 0 where
  pub same : (p q : ℕ) → at p ≡ true → at q ≡ true → p ≡ q

no_joined : (at : ℕ → Bool) (k : ℕ) (rs : List Enclosure) → ((p : ℕ) → k ≤ p → at p ≡ false) → r.joined at k rs ≡ None
no_joined at k [] h = refl
no_joined at k (q ∷ rs) h = ap (λ b. if b then join_some q.interval (r.joined at (suc k) rs) else r.joined at (suc k) rs) (h k (omega arith)) ∙ no_joined at (suc k) rs (λ p l. h p (omega arith))

no_undefined : (at : ℕ → Bool) (k : ℕ) (rs : List Enclosure) → ((p : ℕ) → k ≤ p → at p ≡ false) → r.reached_undefined at k rs ≡ false
no_undefined at k [] h = refl
no_undefined at k (q ∷ rs) h = ap (λ b. b && q.may_be_undefined || r.reached_undefined at (suc k) rs) (h k (omega arith)) ∙ no_undefined at (suc k) rs (λ p l. h p (omega arith))

no_selected : (at : ℕ → Bool) (k : ℕ) (ms : List Meaning) → ((p : ℕ) → k ≤ p → at p ≡ false) → v.selected at k ms ≡ None
no_selected at k [] h = refl
no_selected at k (m ∷ ms) h = ap (λ b. if b then m.number else v.selected at (suc k) ms) (h k (omega arith)) ∙ no_selected at (suc k) ms (λ p l. h p (omega arith))

exact_selected : (at : ℕ → Bool) → IsUnique at → (k : ℕ) (ms : List Meaning) →
    r.numeric_enclosure (r.joined at k (spans ms)) (not (found at k ms) || r.reached_undefined at k (spans ms)) ≡ of_number (v.selected at k ms)
unfolding found
exact_selected at u k [] = refl
exact_selected at u k (m ∷ ms) = turn (at k) refl (exact_selected at u (suc k) ms)
  where
    hit : (o : Option ℤ) (j : Option Span) (b : Bool) → j ≡ None → b ≡ false → r.numeric_enclosure (join_some (of_number o).interval j) ((of_number o).may_be_undefined || b) ≡ of_number o
    hit None j b e f = ap (λ x. r.numeric_enclosure x true) e
    hit (Some z) j b e f = ap2 (λ x y. r.numeric_enclosure (join_some (Some (point z)) x) (false || y)) e f

    none : at k ≡ true → (p : ℕ) → suc k ≤ p → at p ≡ false
    none e p l = is_false (at p) (λ f. let s = u.same k p e f in absurd (omega arith))

    turn : (b : Bool) → at k ≡ b →
        r.numeric_enclosure (r.joined at (suc k) (spans ms)) (not (found at (suc k) ms) || r.reached_undefined at (suc k) (spans ms)) ≡ of_number (v.selected at (suc k) ms) →
        r.numeric_enclosure (if b then join_some (of_number m.number).interval (r.joined at (suc k) (spans ms)) else r.joined at (suc k) (spans ms)) (not (b || found at (suc k) ms) || (b && (of_number m.number).may_be_undefined || r.reached_undefined at (suc k) (spans ms)))
        ≡ of_number (if b then m.number else v.selected at (suc k) ms)
    turn true e rest = hit m.number _ _ (no_joined at (suc k) (spans ms) (none e)) (no_undefined at (suc k) (spans ms) (none e))
    turn false e rest = rest

-- ---- one index

gap : (u w : ℤ) → u ≤ℤ w → (d : ℕ) × (w ≡ u +ℤ pos d)
gap u w l = (nat_abs (w -ℤ u), omega (arith, ints))

pub unique_place : (low z : ℤ) → IsUnique (v.is_place low (Some z))
unique_place low z = record { same = λ p q h k. same p q (eq_of z (low +ℤ pos p) h) (eq_of z (low +ℤ pos q) k) }
  where
    same : (p q : ℕ) → z ≡ (low +ℤ pos p) → z ≡ (low +ℤ pos q) → p ≡ q
    same p q e f = omega (arith, ints)

-- the index z leaves n places where no place is its
within : (low z : ℤ) (n : ℕ) → r.leaves low n (Some (point z)) ≡ false → (d : ℕ) × (d < n) × (int_eq z (low +ℤ pos d) ≡ true)
within low z n h =
    let e = or_false (int_lt z low) (int_le (low +ℤ pos n) z) h in
    let a = not_lt z low e.0 in
    let b = not_le (low +ℤ pos n) z e.1 in
    let g = gap low z a in
    (g.0, omega (arith, ints, b, g.1), of_eq z (low +ℤ pos g.0) g.1)

outside : (low z : ℤ) (n d : ℕ) → r.leaves low n (Some (point z)) ≡ true → d < n → int_eq z (low +ℤ pos d) ≡ true → ⊥
outside low z n d h l e =
    let f = eq_of z (low +ℤ pos d) e in
    or_split (int_lt z low) (int_le (low +ℤ pos n) z) h (λ k. let a = lt_of z low k in absurd (omega (arith, ints))) (λ k. let a = le_of (low +ℤ pos n) z k in absurd (omega (arith, ints)))

unfound : (low z : ℤ) (ms : List Meaning) → r.leaves low (length ms) (Some (point z)) ≡ not (found (v.is_place low (Some z)) 0 ms)
unfound low z ms = opposite_tests _ _
    (λ h. is_false _ (λ k. let f = found_in (v.is_place low (Some z)) 0 ms k in outside low z (length ms) f.place h (omega (arith, f.below)) f.passes))
    (λ h. let w = within low z (length ms) h in found_at (v.is_place low (Some z)) 0 w.0 ms w.1 (subst (λ n. int_eq z (low +ℤ pos n) ≡ true) (omega arith) w.2))

pub exact_elem : (low : ℤ) (ms : List Meaning) (i : Option ℤ) →
    r.selected_enclosure (r.is_reached low (of_number i).interval) ((of_number i).may_be_undefined || r.leaves low (length (spans ms)) (of_number i).interval) (spans ms) ≡ of_number (v.selected (v.is_place low i) 0 ms)
exact_elem low ms None =
    ap (λ j. r.numeric_enclosure j true) (no_joined (λ p. false) 0 (spans ms) (λ p l. refl)) ∙ sym (ap of_number (no_selected (λ p. false) 0 ms (λ p l. refl)))
exact_elem low ms (Some z) =
    ap (λ n. r.numeric_enclosure (r.joined (v.is_place low (Some z)) 0 (spans ms)) (r.leaves low n (Some (point z)) || r.reached_undefined (v.is_place low (Some z)) 0 (spans ms))) (length-map ms (λ m. of_number m.number))
    ∙ ap (λ b. r.numeric_enclosure (r.joined (v.is_place low (Some z)) 0 (spans ms)) (b || r.reached_undefined (v.is_place low (Some z)) 0 (spans ms))) (unfound low z ms)
    ∙ exact_selected (v.is_place low (Some z)) (unique_place low z) 0 ms

-- ---- two indices

pub positive : (w p n : ℕ) → p / w < n / w → 0 < w
positive zero p n h = absurd (omega (arith, div-zero p, div-zero n))
positive (suc w) p n h = omega arith

pub record At2 (k l : ℤ) (w n : ℕ) (y z : ℤ) (p : ℕ) : Type 0 where
  pub row : int_eq y (k +ℤ pos (p / w)) ≡ true
  pub column : int_eq z (l +ℤ pos (p % w)) ≡ true
  pub whole : p / w < n / w

pub at2 : (k l : ℤ) (w n : ℕ) (y z : ℤ) (p : ℕ) → v.is_place2 k l w n (Some y) (Some z) p ≡ true → At2 k l w n y z p
at2 k l w n y z p h =
    let a = and_left (int_eq y (k +ℤ pos (p / w)) && int_eq z (l +ℤ pos (p % w))) (nat_lt (p / w) (n / w)) h in
    record {
      row = and_left (int_eq y (k +ℤ pos (p / w))) (int_eq z (l +ℤ pos (p % w))) a;
      column = and_right (int_eq y (k +ℤ pos (p / w))) (int_eq z (l +ℤ pos (p % w))) a;
      whole = below_test (p / w) (n / w) (and_right (int_eq y (k +ℤ pos (p / w)) && int_eq z (l +ℤ pos (p % w))) (nat_lt (p / w) (n / w)) h);
    }

pub unique_place2 : (k l : ℤ) (w n : ℕ) (y z : ℤ) → IsUnique (v.is_place2 k l w n (Some y) (Some z))
unique_place2 k l w n y z = record { same = λ p q h g. same p q (at2 k l w n y z p h) (at2 k l w n y z q g) }
  where
    same : (p q : ℕ) → At2 k l w n y z p → At2 k l w n y z q → p ≡ q
    same p q a b =
        let a1 = eq_of y (k +ℤ pos (p / w)) a.row in
        let a2 = eq_of z (l +ℤ pos (p % w)) a.column in
        let b1 = eq_of y (k +ℤ pos (q / w)) b.row in
        let b2 = eq_of z (l +ℤ pos (q % w)) b.column in
        let rows : p / w ≡ q / w = omega (arith, ints, a1, b1) in
        let columns : p % w ≡ q % w = omega (arith, ints, a2, b2) in
        sym (div-add-mod p w) ∙ ap2 (λ s t. w * s + t) rows columns ∙ div-add-mod q w

-- the place of a row and a column
pub place_of : (w n r c : ℕ) → r < n / w → c < w → (r * w + c) < n
place_of w n r c h l =
    let e = div-add-mod n w in
    let m : (suc r) * w ≤ (n / w) * w = more (suc r) (n / w) w h in
    let s : (suc r) * w ≡ r * w + w = grind arith in
    let f : (n / w) * w ≡ w * (n / w) = grind arith in
    omega (arith, e, m, s, f)
  where
    more : (a b w : ℕ) → a ≤ b → a * w ≤ b * w
    more a b w h = grind arith

unfound2 : (k l : ℤ) (w : ℕ) (y z : ℤ) (ms : List Meaning) →
    (r.leaves k (length ms / w) (Some (point y)) || r.leaves l w (Some (point z))) ≡ not (found (v.is_place2 k l w (length ms) (Some y) (Some z)) 0 ms)
unfound2 k l w y z ms = opposite_tests _ _ (λ h. is_false _ (λ g. no h (found_in _ 0 ms g))) held
  where
    no : (r.leaves k (length ms / w) (Some (point y)) || r.leaves l w (Some (point z))) ≡ true → IsFound (v.is_place2 k l w (length ms) (Some y) (Some z)) 0 (length ms) → ⊥
    no h f =
        let a = at2 k l w (length ms) y z f.place f.passes in
        let p = positive w f.place (length ms) a.whole in
        let m : f.place % w < w = omega arith in
        or_split (r.leaves k (length ms / w) (Some (point y))) (r.leaves l w (Some (point z))) h
        (λ g. outside k y (length ms / w) (f.place / w) g a.whole a.row)
        (λ g. outside l z w (f.place % w) g m a.column)

    held : (r.leaves k (length ms / w) (Some (point y)) || r.leaves l w (Some (point z))) ≡ false → found (v.is_place2 k l w (length ms) (Some y) (Some z)) 0 ms ≡ true
    held h =
        let e = or_false (r.leaves k (length ms / w) (Some (point y))) (r.leaves l w (Some (point z))) h in
        let a = within k y (length ms / w) e.0 in
        let b = within l z w e.1 in
        let p = a.0 * w + b.0 in
        let row : p / w ≡ a.0 = div-mul-add a.0 w b.0 b.1 in
        let column : p % w ≡ b.0 = mod-mul-add a.0 w b.0 b.1 in
        let whole : nat_lt (p / w) (length ms / w) ≡ true = subst (λ q. nat_lt q (length ms / w) ≡ true) (sym row) (test_below a.0 (length ms / w) a.1) in
        let at_row : int_eq y (k +ℤ pos (p / w)) ≡ true = subst (λ q. int_eq y (k +ℤ pos q) ≡ true) (sym row) a.2 in
        let at_column : int_eq z (l +ℤ pos (p % w)) ≡ true = subst (λ q. int_eq z (l +ℤ pos q) ≡ true) (sym column) b.2 in
        found_at (v.is_place2 k l w (length ms) (Some y) (Some z)) 0 p ms (place_of w (length ms) a.0 b.0 a.1 b.1)
        (subst (λ q. v.is_place2 k l w (length ms) (Some y) (Some z) q ≡ true) (omega arith)
        (and_true (int_eq y (k +ℤ pos (p / w)) && int_eq z (l +ℤ pos (p % w))) (nat_lt (p / w) (length ms / w)) (and_true (int_eq y (k +ℤ pos (p / w))) (int_eq z (l +ℤ pos (p % w))) at_row at_column) whole))

and_none : (a b : Bool) → (a && false && b) ≡ false
and_none true b = refl
and_none false b = refl

or_true : (a b c : Bool) → (a || true || b || c) ≡ true
or_true true b c = refl
or_true false b c = refl

pub exact_elem2 : (k l : ℤ) (w : ℕ) (ms : List Meaning) (i j : Option ℤ) →
    r.selected_enclosure (r.is_reached2 k l w (length (spans ms)) (of_number i).interval (of_number j).interval)
    ((of_number i).may_be_undefined || (of_number j).may_be_undefined || r.leaves k (length (spans ms) / w) (of_number i).interval || r.leaves l w (of_number j).interval) (spans ms)
    ≡ of_number (v.selected (v.is_place2 k l w (length ms) i j) 0 ms)
exact_elem2 k l w ms None j =
    ap (λ b. r.numeric_enclosure b true) (no_joined (r.is_reached2 k l w (length (spans ms)) None (of_number j).interval) 0 (spans ms) (λ p h. refl))
    ∙ sym (ap of_number (no_selected (v.is_place2 k l w (length ms) None j) 0 ms (λ p h. refl)))
exact_elem2 k l w ms (Some y) None =
    ap (λ b. r.numeric_enclosure b true) (no_joined (r.is_reached2 k l w (length (spans ms)) (Some (point y)) None) 0 (spans ms) (λ p h. and_none (int_eq y (k +ℤ pos (p / w))) (nat_lt (p / w) (length (spans ms) / w))))
    ∙ sym (ap of_number (no_selected (v.is_place2 k l w (length ms) (Some y) None) 0 ms (λ p h. and_none (int_eq y (k +ℤ pos (p / w))) (nat_lt (p / w) (length ms / w)))))
exact_elem2 k l w ms (Some y) (Some z) =
    ap (λ n. r.selected_enclosure (v.is_place2 k l w n (Some y) (Some z)) (r.leaves k (n / w) (Some (point y)) || r.leaves l w (Some (point z))) (spans ms)) (length-map ms (λ m. of_number m.number))
    ∙ ap (λ b. r.selected_enclosure (v.is_place2 k l w (length ms) (Some y) (Some z)) b (spans ms)) (unfound2 k l w y z ms)
    ∙ exact_selected (v.is_place2 k l w (length ms) (Some y) (Some z)) (unique_place2 k l w (length ms) y z) 0 ms

-- ---- smaller boxes

joined_less : (at at' : ℕ → Bool) → ((p : ℕ) → at p ≡ true → at' p ≡ true) → (k : ℕ) (ss ls : List Enclosure) → AllLess ss ls → IsCoveredBy (r.joined at k ss) (r.joined at' k ls)
joined_less at at' g k [] [] h = tt
joined_less at at' g k [] (l ∷ ls) h = absurd h
joined_less at at' g k (s ∷ ss) [] h = absurd h
joined_less at at' g k (s ∷ ss) (l ∷ ls) h = turn (at k) (at' k) (g k) (joined_less at at' g (suc k) ss ls h.1)
  where
    turn : (b b' : Bool) → (b ≡ true → b' ≡ true) → IsCoveredBy (r.joined at (suc k) ss) (r.joined at' (suc k) ls) →
        IsCoveredBy (if b then join_some s.interval (r.joined at (suc k) ss) else r.joined at (suc k) ss) (if b' then join_some l.interval (r.joined at' (suc k) ls) else r.joined at' (suc k) ls)
    turn true true f e = join_fewer s.interval (r.joined at (suc k) ss) l.interval (r.joined at' (suc k) ls) h.0.interval e
    turn true false f e = absurd (false≢true (f refl))
    turn false true f e = join_more (r.joined at (suc k) ss) l.interval (r.joined at' (suc k) ls) e
    turn false false f e = e

undefined_less : (at at' : ℕ → Bool) → ((p : ℕ) → at p ≡ true → at' p ≡ true) → (k : ℕ) (ss ls : List Enclosure) → AllLess ss ls → r.reached_undefined at k ss ≡ true → r.reached_undefined at' k ls ≡ true
undefined_less at at' g k [] [] h e = e
undefined_less at at' g k [] (l ∷ ls) h e = absurd h
undefined_less at at' g k (s ∷ ss) [] h e = absurd h
undefined_less at at' g k (s ∷ ss) (l ∷ ls) h e =
    or_less (at k && s.may_be_undefined) (r.reached_undefined at (suc k) ss) (at' k && l.may_be_undefined) (r.reached_undefined at' (suc k) ls) (here (at k) (at' k) (g k)) (undefined_less at at' g (suc k) ss ls h.1) e
  where
    here : (b b' : Bool) → (b ≡ true → b' ≡ true) → (b && s.may_be_undefined) ≡ true → (b' && l.may_be_undefined) ≡ true
    here b b' f e = and_true b' l.may_be_undefined (f (and_left b s.may_be_undefined e)) (h.0.may_be_undefined (and_right b s.may_be_undefined e))

-- a reached part is a number or undefined
reached_some : (at : ℕ → Bool) (k : ℕ) (ss ls : List Enclosure) → AllLess ss ls → found at k ss ≡ true → (is_some (r.joined at k ss) || r.reached_undefined at k ss) ≡ true
unfolding found
reached_some at k [] ls h e = absurd (false≢true e)
reached_some at k (s ∷ ss) [] h e = absurd h
reached_some at k (s ∷ ss) (l ∷ ls) h e = turn (at k) (λ f. reached_some at (suc k) ss ls h.1 f) e
  where
    turn : (b : Bool) → (found at (suc k) ss ≡ true → (is_some (r.joined at (suc k) ss) || r.reached_undefined at (suc k) ss) ≡ true) → (b || found at (suc k) ss) ≡ true →
        (is_some (if b then join_some s.interval (r.joined at (suc k) ss) else r.joined at (suc k) ss) || (b && s.may_be_undefined || r.reached_undefined at (suc k) ss)) ≡ true
    turn true f e =
        or_split (is_some s.interval) s.may_be_undefined h.0.some
        (λ g. or_left (is_some (join_some s.interval (r.joined at (suc k) ss))) (s.may_be_undefined || r.reached_undefined at (suc k) ss) (left_some s.interval (r.joined at (suc k) ss) g))
        (λ g. or_right (is_some (join_some s.interval (r.joined at (suc k) ss))) (s.may_be_undefined || r.reached_undefined at (suc k) ss) (or_left s.may_be_undefined (r.reached_undefined at (suc k) ss) g))
    turn false f e = f e

reached_less : (low : ℤ) (o o' : Option Span) → IsCoveredBy o o' → (p : ℕ) → r.is_reached low o p ≡ true → r.is_reached low o' p ≡ true
reached_less low None o' f p h = absurd (false≢true h)
reached_less low (Some s) None f p h = absurd f
reached_less low (Some s) (Some t) f p h = has_grows s t (low +ℤ pos p) f h

leaves_less : (low : ℤ) (n : ℕ) (o o' : Option Span) → IsCoveredBy o o' → r.leaves low n o ≡ true → r.leaves low n o' ≡ true
leaves_less low n None o' f h = absurd (false≢true h)
leaves_less low n (Some s) None f h = absurd f
leaves_less low n (Some s) (Some t) f h = or_less (int_lt s.lo low) (int_le (low +ℤ pos n) s.hi) (int_lt t.lo low) (int_le (low +ℤ pos n) t.hi) below above h
  where
    below : int_lt s.lo low ≡ true → int_lt t.lo low ≡ true
    below e = let a = lt_of s.lo low e in of_lt t.lo low (omega (arith, ints))

    above : int_le (low +ℤ pos n) s.hi ≡ true → int_le (low +ℤ pos n) t.hi ≡ true
    above e = let a = le_of (low +ℤ pos n) s.hi e in of_le (low +ℤ pos n) t.hi (omega (arith, ints))

-- an interval that does not leave n places reaches one
reaches_one : (low : ℤ) (n : ℕ) (s : Span) → s.lo ≤ℤ s.hi → r.leaves low n (Some s) ≡ false → (d : ℕ) × (d < n) × (has s (low +ℤ pos d) ≡ true)
reaches_one low n s h e =
    let f = or_false (int_lt s.lo low) (int_le (low +ℤ pos n) s.hi) e in
    let a = not_lt s.lo low f.0 in
    let b = not_le (low +ℤ pos n) s.hi f.1 in
    let g = gap low s.lo a in
    (g.0, omega (arith, ints, b, g.1, h), and_true (int_le s.lo (low +ℤ pos g.0)) (int_le (low +ℤ pos g.0) s.hi) (of_le _ _ (low_in g.0 g.1)) (of_le _ _ (high_in g.0 g.1)))
  where
    low_in : (d : ℕ) → s.lo ≡ (low +ℤ pos d) → s.lo ≤ℤ (low +ℤ pos d)
    low_in d k = omega (arith, ints)

    high_in : (d : ℕ) → s.lo ≡ (low +ℤ pos d) → (low +ℤ pos d) ≤ℤ s.hi
    high_in d k = omega (arith, ints)

middle : (a b c : Bool) → (b ≡ false → (a || c) ≡ true) → (a || (b || c)) ≡ true
middle a true c f = or_right a true refl
middle a false c f = f refl

selected_less : (at at' : ℕ → Bool) (u u' : Bool) (ss ls : List Enclosure) → AllLess ss ls → ((p : ℕ) → at p ≡ true → at' p ≡ true) → (u ≡ true → u' ≡ true) → (u ≡ false → found at 0 ss ≡ true) →
    MeansFewerNumbers (r.selected_enclosure at u ss) (r.selected_enclosure at' u' ls)
selected_less at at' u u' ss ls h grows f g = record {
  some = middle (is_some (r.joined at 0 ss)) u (r.reached_undefined at 0 ss) (λ e. reached_some at 0 ss ls h (g e));
  interval = joined_less at at' grows 0 ss ls h;
  may_be_undefined = or_less u (r.reached_undefined at 0 ss) u' (r.reached_undefined at' 0 ls) f (undefined_less at at' grows 0 ss ls h);
}

defined : (x x' : Enclosure) → MeansFewerNumbers x x' → x.may_be_undefined ≡ false → is_some x.interval ≡ true
defined x x' n e = or_split (is_some x.interval) x.may_be_undefined n.some (λ k. k) (λ k. absurd (false≢true (sym e ∙ k)))

pub elem_less : (low : ℤ) (ss ls : List Enclosure) (i i' : Enclosure) → AllLess ss ls → MeansFewerNumbers i i' →
    MeansFewerNumbers (r.selected_enclosure (r.is_reached low i.interval) (i.may_be_undefined || r.leaves low (length ss) i.interval) ss) (r.selected_enclosure (r.is_reached low i'.interval) (i'.may_be_undefined || r.leaves low (length ls) i'.interval) ls)
elem_less low ss ls i i' h n =
    selected_less (r.is_reached low i.interval) (r.is_reached low i'.interval) (i.may_be_undefined || r.leaves low (length ss) i.interval) (i'.may_be_undefined || r.leaves low (length ls) i'.interval) ss ls h
    (reached_less low i.interval i'.interval n.interval)
    (or_less i.may_be_undefined (r.leaves low (length ss) i.interval) i'.may_be_undefined (r.leaves low (length ls) i'.interval) n.may_be_undefined
    (λ e. subst (λ k. r.leaves low k i'.interval ≡ true) (same_length ss ls h) (leaves_less low (length ss) i.interval i'.interval n.interval e)))
    (λ e. let f = or_false i.may_be_undefined (r.leaves low (length ss) i.interval) e in reach_one i.interval i'.interval n.interval f.1 (defined i i' n f.0))
  where
    reach_one : (o o' : Option Span) → IsCoveredBy o o' → r.leaves low (length ss) o ≡ false → is_some o ≡ true → found (r.is_reached low o) 0 ss ≡ true
    reach_one None o' f e k = absurd (false≢true k)
    reach_one (Some s) None f e k = absurd f
    reach_one (Some s) (Some t) f e k =
        let w = reaches_one low (length ss) s f.proper e in
        found_at (r.is_reached low (Some s)) 0 w.0 ss w.1 (subst (λ d. has s (low +ℤ pos d) ≡ true) (omega arith) w.2)

reached2_less : (k l : ℤ) (w n : ℕ) (o o' q q' : Option Span) → IsCoveredBy o o' → IsCoveredBy q q' → (p : ℕ) → r.is_reached2 k l w n o q p ≡ true → r.is_reached2 k l w n o' q' p ≡ true
reached2_less k l w n o o' q q' f g p e =
    let a = and_left (r.is_reached k o (p / w) && r.is_reached l q (p % w)) (nat_lt (p / w) (n / w)) e in
    let b = and_right (r.is_reached k o (p / w) && r.is_reached l q (p % w)) (nat_lt (p / w) (n / w)) e in
    and_true (r.is_reached k o' (p / w) && r.is_reached l q' (p % w)) (nat_lt (p / w) (n / w))
    (and_true (r.is_reached k o' (p / w)) (r.is_reached l q' (p % w))
    (reached_less k o o' f (p / w) (and_left (r.is_reached k o (p / w)) (r.is_reached l q (p % w)) a))
    (reached_less l q q' g (p % w) (and_right (r.is_reached k o (p / w)) (r.is_reached l q (p % w)) a))) b

-- two intervals that do not leave the rows and the columns reach a place
reaches_two : (k l : ℤ) (w : ℕ) (ss : List Enclosure) (o o' q q' : Option Span) → IsCoveredBy o o' → IsCoveredBy q q' → r.leaves k (length ss / w) o ≡ false → r.leaves l w q ≡ false → is_some o ≡ true → is_some q ≡ true →
    found (r.is_reached2 k l w (length ss) o q) 0 ss ≡ true
reaches_two k l w ss None o' q q' f g d e x y = absurd (false≢true x)
reaches_two k l w ss (Some s) o' None q' f g d e x y = absurd (false≢true y)
reaches_two k l w ss (Some s) None (Some t) q' f g d e x y = absurd f
reaches_two k l w ss (Some s) (Some s') (Some t) None f g d e x y = absurd g
reaches_two k l w ss (Some s) (Some s') (Some t) (Some t') f g d e x y =
    let a = reaches_one k (length ss / w) s f.proper d in
    let b = reaches_one l w t g.proper e in
    let p = a.0 * w + b.0 in
    let row : p / w ≡ a.0 = div-mul-add a.0 w b.0 b.1 in
    let column : p % w ≡ b.0 = mod-mul-add a.0 w b.0 b.1 in
    let whole : nat_lt (p / w) (length ss / w) ≡ true = subst (λ q. nat_lt q (length ss / w) ≡ true) (sym row) (test_below a.0 (length ss / w) a.1) in
    let at_row : has s (k +ℤ pos (p / w)) ≡ true = subst (λ q. has s (k +ℤ pos q) ≡ true) (sym row) a.2 in
    let at_column : has t (l +ℤ pos (p % w)) ≡ true = subst (λ q. has t (l +ℤ pos q) ≡ true) (sym column) b.2 in
    found_at (r.is_reached2 k l w (length ss) (Some s) (Some t)) 0 p ss (place_of w (length ss) a.0 b.0 a.1 b.1)
    (subst (λ q. r.is_reached2 k l w (length ss) (Some s) (Some t) q ≡ true) (omega arith)
    (and_true (has s (k +ℤ pos (p / w)) && has t (l +ℤ pos (p % w))) (nat_lt (p / w) (length ss / w)) (and_true (has s (k +ℤ pos (p / w))) (has t (l +ℤ pos (p % w))) at_row at_column) whole))

pub elem2_less : (k l : ℤ) (w : ℕ) (ss ls : List Enclosure) (i i' j j' : Enclosure) → AllLess ss ls → MeansFewerNumbers i i' → MeansFewerNumbers j j' →
    MeansFewerNumbers (r.selected_enclosure (r.is_reached2 k l w (length ss) i.interval j.interval) (i.may_be_undefined || j.may_be_undefined || r.leaves k (length ss / w) i.interval || r.leaves l w j.interval) ss)
    (r.selected_enclosure (r.is_reached2 k l w (length ls) i'.interval j'.interval) (i'.may_be_undefined || j'.may_be_undefined || r.leaves k (length ls / w) i'.interval || r.leaves l w j'.interval) ls)
elem2_less k l w ss ls i i' j j' h n m =
    subst (λ q. MeansFewerNumbers (r.selected_enclosure (r.is_reached2 k l w (length ss) i.interval j.interval) (i.may_be_undefined || j.may_be_undefined || r.leaves k (length ss / w) i.interval || r.leaves l w j.interval) ss) (r.selected_enclosure (r.is_reached2 k l w q i'.interval j'.interval) (i'.may_be_undefined || j'.may_be_undefined || r.leaves k (q / w) i'.interval || r.leaves l w j'.interval) ls)) (same_length ss ls h)
    (selected_less (r.is_reached2 k l w (length ss) i.interval j.interval) (r.is_reached2 k l w (length ss) i'.interval j'.interval)
    (i.may_be_undefined || j.may_be_undefined || r.leaves k (length ss / w) i.interval || r.leaves l w j.interval) (i'.may_be_undefined || j'.may_be_undefined || r.leaves k (length ss / w) i'.interval || r.leaves l w j'.interval) ss ls h
    (reached2_less k l w (length ss) i.interval i'.interval j.interval j'.interval n.interval m.interval)
    (or_less (i.may_be_undefined || j.may_be_undefined || r.leaves k (length ss / w) i.interval) (r.leaves l w j.interval) (i'.may_be_undefined || j'.may_be_undefined || r.leaves k (length ss / w) i'.interval) (r.leaves l w j'.interval)
    (or_less (i.may_be_undefined || j.may_be_undefined) (r.leaves k (length ss / w) i.interval) (i'.may_be_undefined || j'.may_be_undefined) (r.leaves k (length ss / w) i'.interval)
    (or_less i.may_be_undefined j.may_be_undefined i'.may_be_undefined j'.may_be_undefined n.may_be_undefined m.may_be_undefined)
    (leaves_less k (length ss / w) i.interval i'.interval n.interval))
    (leaves_less l w j.interval j'.interval m.interval))
    (λ e.
    let f = or_false (i.may_be_undefined || j.may_be_undefined || r.leaves k (length ss / w) i.interval) (r.leaves l w j.interval) e in
    let g = or_false (i.may_be_undefined || j.may_be_undefined) (r.leaves k (length ss / w) i.interval) f.0 in
    let u = or_false i.may_be_undefined j.may_be_undefined g.0 in
    reaches_two k l w ss i.interval i'.interval j.interval j'.interval n.interval m.interval g.1 f.1 (defined i i' n u.0) (defined j j' m u.1)))
