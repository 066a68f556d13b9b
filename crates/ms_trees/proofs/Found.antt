-- The one place that an index takes.
use Rattle.std.proofs.Common.{◌≡◌, ℕ, ◌+◌, ◌*◌, ◌/◌, ◌%◌, ◌<◌, List, [], ◌∷◌, Bool, true, false, ◌&&◌, Option, Some, None, IfSome, length, map, zero, suc, refl, sym, ◌∙◌, subst, arith}
use Rattle.std.proofs.lemmas.Int.{ints}
use Rattle.std.proofs.lemmas.Bool.{false≢true}
use Rattle.ms_num.specs.Span.{Span}
use Rattle.std.proofs.lemmas.Nat.{div-mul-add, mod-mul-add}
use Rattle.std.specs.Prelude.{ℤ, pos, ◌+ℤ◌, nat_lt}
use Rattle.ms_num.specs.Numbers.{int_eq}
use Rattle.ms_trees.specs.Value.{Meaning, value, selected, is_place, is_place2}
use Rattle.ms_trees.specs.WellFormed.{is_well_formed, is_numeric, is_number, are_numbers, checked}
use Rattle.ms_trees.specs.Laws.{number_there}
use Rattle.ms_trees.specs.Access.{IsOnlyPlace, FindsPlace, number_of}
use Rattle.ms_trees.specs.Kept.{part}
use Rattle.ms_trees.specs.declared.tree.Ground.{Ground}
use Rattle.ms_trees.proofs.Bools.{and_left, and_right, and_true, is_false, eq_of, of_eq}
use Rattle.ms_trees.proofs.Selections.{turn_off, turn_on}
use Rattle.ms_trees.proofs.Places.{unique_place2, at2, positive, place_of, test_below}

-- ---- what is selected is the part at the place

selected_there : (at : ℕ → Bool) (k p : ℕ) (ms : List Meaning) → p < length ms → at (k + p) ≡ true → ((q : ℕ) → q < p → at (k + q) ≡ false) → number_there ms p ≡ selected at k ms
selected_there at k p [] l h f = absurd (omega arith)
selected_there at k zero (m ∷ ms) l h f = sym (turn_on at k m ms (subst (λ n. at n ≡ true) (omega arith) h))
selected_there at k (suc p) (m ∷ ms) l h f =
    selected_there at (suc k) p ms (omega arith) (subst (λ n. at n ≡ true) (omega arith) h) (λ q lt. subst (λ n. at n ≡ false) (omega arith) (f (suc q) (omega (arith, lt))))
    ∙ sym (turn_off at k m ms (subst (λ n. at n ≡ false) (omega arith) (f zero (omega arith))))

nothing_selected : (at : ℕ → Bool) (k : ℕ) (ms : List Meaning) → ((q : ℕ) → q < length ms → at (k + q) ≡ false) → None ≡ selected at k ms
nothing_selected at k [] f = refl
nothing_selected at k (m ∷ ms) f =
    nothing_selected at (suc k) ms (λ q lt. subst (λ n. at n ≡ false) (omega arith) (f (suc q) (omega (arith, lt))))
    ∙ sym (turn_off at k m ms (subst (λ n. at n ≡ false) (omega arith) (f zero (omega arith))))

pub found_selected : (at : ℕ → Bool) (n : ℕ) (o : Option ℕ) (ms : List Meaning) → length ms ≡ n → FindsPlace at n o → number_of ms o ≡ selected at 0 ms
found_selected at n None ms e f = nothing_selected at 0 ms (λ q lt. subst (λ i. at i ≡ false) (omega arith) (f q (omega (arith, e, lt))))
found_selected at n (Some p) ms e f =
    selected_there at 0 p ms (omega (arith, e, f.below)) (subst (λ i. at i ≡ true) (omega arith) f.passes) before
  where
    before : (q : ℕ) → q < p → at (0 + q) ≡ false
    before q lt = subst (λ i. at i ≡ false) (omega arith) (is_false (at q) (λ h. let s = f.only q (omega (arith, f.below, lt)) h in absurd (omega (arith, s, lt))))

pub found_below : (at : ℕ → Bool) (n : ℕ) (o : Option ℕ) → FindsPlace at n o → IfSome o (λ p. p < n)
found_below at n None f = tt
found_below at n (Some p) f = f.below

-- ---- the part at the place, on an assignment

pub number_part : (a : List ℤ) (xs : List Ground) (p : ℕ) → p < length xs → (value a (part xs p)).number ≡ number_there (map (value a) xs) p
number_part a [] p l = absurd (omega arith)
number_part a (x ∷ xs) zero l = refl
number_part a (x ∷ xs) (suc p) l = number_part a xs p (omega arith)

pub part_number : (b : List Span) (xs : List Ground) (p : ℕ) → p < length xs → are_numbers (map (checked b) xs) ≡ true → is_number (checked b (part xs p)) ≡ true
part_number b [] p l h = absurd (omega arith)
part_number b (x ∷ xs) zero l h = and_left (is_number (checked b x)) (are_numbers (map (checked b) xs)) h
part_number b (x ∷ xs) (suc p) l h = part_number b xs p (omega arith) (and_right (is_number (checked b x)) (are_numbers (map (checked b) xs)) h)

pub part_well_formed : (b : List Span) (xs : List Ground) (p : ℕ) → p < length xs → are_numbers (map (checked b) xs) ≡ true → is_well_formed b (part xs p) ≡ true
part_well_formed b xs p l h = and_left (is_well_formed b (part xs p)) (is_numeric (part xs p)) (part_number b xs p l h)

-- ---- one index

pub on_line : (low z : ℤ) (n p : ℕ) → z ≡ (low +ℤ pos p) → p < n → IsOnlyPlace (is_place low (Some z)) n p
on_line low z n p e l = record { below = l; passes = of_eq z (low +ℤ pos p) e; only = λ q k h. let s = eq_of z (low +ℤ pos q) h in omega (arith, ints, e, s) }

pub off_line : (low z : ℤ) (n : ℕ) → ((p : ℕ) → p < n → z ≡ (low +ℤ pos p) → ⊥) → FindsPlace (is_place low (Some z)) n None
off_line low z n f = λ p l. is_false (int_eq z (low +ℤ pos p)) (λ h. f p l (eq_of z (low +ℤ pos p) h))

-- ---- two indices

pub in_grid : (k l : ℤ) (w n : ℕ) (y z : ℤ) (r c : ℕ) → IsOnlyPlace (is_place k (Some y)) (n / w) r → IsOnlyPlace (is_place l (Some z)) w c → IsOnlyPlace (is_place2 k l w n (Some y) (Some z)) n (r * w + c)
in_grid k l w n y z r c f g =
    let p = r * w + c in
    let row : p / w ≡ r = div-mul-add r w c g.below in
    let column : p % w ≡ c = mod-mul-add r w c g.below in
    let whole : nat_lt (p / w) (n / w) ≡ true = subst (λ q. nat_lt q (n / w) ≡ true) (sym row) (test_below r (n / w) f.below) in
    let at_row : int_eq y (k +ℤ pos (p / w)) ≡ true = subst (λ q. int_eq y (k +ℤ pos q) ≡ true) (sym row) f.passes in
    let at_column : int_eq z (l +ℤ pos (p % w)) ≡ true = subst (λ q. int_eq z (l +ℤ pos q) ≡ true) (sym column) g.passes in
    let here : is_place2 k l w n (Some y) (Some z) p ≡ true = and_true (int_eq y (k +ℤ pos (p / w)) && int_eq z (l +ℤ pos (p % w))) (nat_lt (p / w) (n / w)) (and_true (int_eq y (k +ℤ pos (p / w))) (int_eq z (l +ℤ pos (p % w))) at_row at_column) whole in
    record { below = place_of w n r c f.below g.below; passes = here; only = λ q lt h. (unique_place2 k l w n y z).same q p h here }

pub off_rows : (k l : ℤ) (w n : ℕ) (y z : ℤ) → FindsPlace (is_place k (Some y)) (n / w) None → FindsPlace (is_place2 k l w n (Some y) (Some z)) n None
off_rows k l w n y z f = λ p lt. is_false (is_place2 k l w n (Some y) (Some z) p) (λ h. let a = at2 k l w n y z p h in absurd (no (p / w) a.whole a.row))
  where
    no : (r : ℕ) → r < n / w → int_eq y (k +ℤ pos r) ≡ true → ⊥
    no r l e = false≢true (sym (f r l) ∙ e)

pub off_columns : (k l : ℤ) (w n : ℕ) (y z : ℤ) → FindsPlace (is_place l (Some z)) w None → FindsPlace (is_place2 k l w n (Some y) (Some z)) n None
off_columns k l w n y z f = λ p lt. is_false (is_place2 k l w n (Some y) (Some z) p) (λ h. let a = at2 k l w n y z p h in absurd (no (p % w) (below p (positive w p n a.whole)) a.column))
  where
    below : (p : ℕ) → 0 < w → p % w < w
    below p h = omega arith

    no : (c : ℕ) → c < w → int_eq z (l +ℤ pos c) ≡ true → ⊥
    no c h e = false≢true (sym (f c h) ∙ e)

pub no_width : (k l : ℤ) (n : ℕ) (y z : ℤ) → FindsPlace (is_place2 k l 0 n (Some y) (Some z)) n None
no_width k l n y z = λ p lt. is_false (is_place2 k l 0 n (Some y) (Some z) p) (λ h. let a = at2 k l 0 n y z p h in absurd (none (positive 0 p n a.whole)))
  where
    none : 0 < 0 → ⊥
    none h = omega (arith, h)
