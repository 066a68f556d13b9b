-- The variable that a branching picks, and the order of the assignments of both parts.
use Rattle.std.proofs.Common.{◌≡◌, ◌⊎◌, inl, inr, ℕ, ◌<◌, zero, suc, refl, sym, ap, ◌∙◌, subst, arith, true, false, Bool, if◌then◌else◌, List, [], ◌∷◌, ◌++◌, length, Option, Some, None}
use Rattle.std.specs.Prelude.{◌<ℤ◌, nat_le, option_map}
use Rattle.std.proofs.lemmas.Bool.{leb-true}
use Rattle.ms_trees.specs.declared.branching.Branching.{Branching}
use Rattle.ms_trees.specs.declared.branching.ValueChoice.{ValueChoice}
use Rattle.ms_trees.specs.declared.branching.ValueChoice.TheVariants.{Least}
use Rattle.ms_num.specs.Sets.{set_size}
use Rattle.ms_boxes.specs.Boxes.{Assignment, Box, InBox, IsBox, set_at, number_at}
use Rattle.ms_boxes.specs.Branchings.{is_unfixed, first_unfixed, smaller_of, smallest_unfixed, named_unfixed, places, with_least, named_or, pick, IsOrdered, comparison_order, Before}
use Rattle.ms_num.proofs.SharedSizes.{one_number}

pub some_is : {A : Type 0} (x y : A) → Some x ≡ Some y → x ≡ y
some_is x y e = cc

first_is_open : (b : Box) (vs : List ℕ) (v : ℕ) → first_unfixed b vs ≡ Some v → is_unfixed b v ≡ true
first_is_open b [] v e = absurd (cc)
first_is_open b (w ∷ vs) v e = by_test (is_unfixed b w) refl e (first_is_open b vs v)
  where
    by_test : (t : Bool) → is_unfixed b w ≡ t → (if t then Some w else first_unfixed b vs) ≡ Some v → (first_unfixed b vs ≡ Some v → is_unfixed b v ≡ true) → is_unfixed b v ≡ true
    by_test true is e rest = ap (is_unfixed b) (sym (some_is w v e)) ∙ is
    by_test false is e rest = rest e

one_of : (b : Box) (w v : ℕ) (o : Option ℕ) → smaller_of b w o ≡ Some v → (w ≡ v) ⊎ (o ≡ Some v)
one_of b w v None e = inl (some_is w v e)
one_of b w v (Some u) e = by_test (nat_le (set_size (set_at b w)) (set_size (set_at b u))) e
  where
    by_test : (t : Bool) → (if t then Some w else Some u) ≡ Some v → (w ≡ v) ⊎ (Some u ≡ Some v)
    by_test true e = inl (some_is w v e)
    by_test false e = inr e

smallest_is_open : (b : Box) (vs : List ℕ) (v : ℕ) → smallest_unfixed b vs ≡ Some v → is_unfixed b v ≡ true
smallest_is_open b [] v e = absurd (cc)
smallest_is_open b (w ∷ vs) v e = by_test (is_unfixed b w) refl e (smallest_is_open b vs v)
  where
    by_test : (t : Bool) → is_unfixed b w ≡ t → (if t then smaller_of b w (smallest_unfixed b vs) else smallest_unfixed b vs) ≡ Some v → (smallest_unfixed b vs ≡ Some v → is_unfixed b v ≡ true) → is_unfixed b v ≡ true
    by_test false is e rest = rest e
    by_test true is e rest = by_one (one_of b w v (smallest_unfixed b vs) e)
      where
        by_one : (w ≡ v) ⊎ (smallest_unfixed b vs ≡ Some v) → is_unfixed b v ≡ true
        by_one (inl f) = ap (is_unfixed b) (sym f) ∙ is
        by_one (inr f) = rest f

-- what is picked is named by the branching, or else the first that is unfixed
pub record Picked (br : Branching) (b : Box) (v : ℕ) (choice : ValueChoice) : Type 0 where
  pub either : ((named_unfixed br b ≡ Some v) × (choice ≡ br.value)) ⊎ ((named_unfixed br b ≡ None) × (first_unfixed b (places (length b)) ≡ Some v) × (choice ≡ Least))

pub picked_by : (br : Branching) (b : Box) (v : ℕ) (choice : ValueChoice) → pick br b ≡ Some (v, choice) → Picked br b v choice
picked_by br b v choice e = by_named (named_unfixed br b) refl e
  where
    by_other : (o : Option ℕ) → first_unfixed b (places (length b)) ≡ o → option_map with_least o ≡ Some (v, choice) → (first_unfixed b (places (length b)) ≡ Some v) × (choice ≡ Least)
    by_other None f e = absurd (cc)
    by_other (Some w) f e = let g = some_is (w, Least) (v, choice) e in (f ∙ ap Some (ap (λ q. q.0) g), sym (ap (λ q. q.1) g))

    by_named : (o : Option ℕ) → named_unfixed br b ≡ o → named_or (br.value) o (first_unfixed b (places (length b))) ≡ Some (v, choice) → Picked br b v choice
    by_named None n e = let h = by_other (first_unfixed b (places (length b))) refl e in record { either = inr (n, h.0, h.1) }
    by_named (Some w) n e = let g = some_is (w, br.value) (v, choice) e in record { either = inl (n ∙ ap Some (ap (λ q. q.0) g), sym (ap (λ q. q.1) g)) }

named_is_open : (br : Branching) (b : Box) (v : ℕ) → named_unfixed br b ≡ Some v → is_unfixed b v ≡ true
named_is_open br b v e = by_test (br.by_size) e
  where
    by_test : (t : Bool) → (if t then smallest_unfixed b (br.order) else first_unfixed b (br.order)) ≡ Some v → is_unfixed b v ≡ true
    by_test true e = smallest_is_open b (br.order) v e
    by_test false e = first_is_open b (br.order) v e

pub picked_is_open : (br : Branching) (b : Box) (v : ℕ) (choice : ValueChoice) → pick br b ≡ Some (v, choice) → is_unfixed b v ≡ true
picked_is_open br b v choice e = by_case (picked_by br b v choice e).either
  where
    by_case : ((named_unfixed br b ≡ Some v) × (choice ≡ br.value)) ⊎ ((named_unfixed br b ≡ None) × (first_unfixed b (places (length b)) ≡ Some v) × (choice ≡ Least)) → is_unfixed b v ≡ true
    by_case (inl h) = named_is_open br b v h.0
    by_case (inr h) = first_is_open b (places (length b)) v h.1

pub open_within : (b : Box) (v : ℕ) → is_unfixed b v ≡ true → v < length b
open_within [] v e = absurd (let f = leb-true 2 0 e in omega (arith, f))
open_within (s ∷ b) zero e = omega arith
open_within (s ∷ b) (suc v) e = let l = open_within b v e in omega (arith, l)

first_in_both : (b : Box) (vs ws : List ℕ) → first_unfixed b vs ≡ None → first_unfixed b (vs ++ ws) ≡ first_unfixed b ws
first_in_both b [] ws e = refl
first_in_both b (v ∷ vs) ws e = by_test (is_unfixed b v) e (first_in_both b vs ws)
  where
    by_test : (t : Bool) → (if t then Some v else first_unfixed b vs) ≡ None → (first_unfixed b vs ≡ None → first_unfixed b (vs ++ ws) ≡ first_unfixed b ws) → (if t then Some v else first_unfixed b (vs ++ ws)) ≡ first_unfixed b ws
    by_test true e rest = absurd (cc)
    by_test false e rest = rest e

first_in_left : (b : Box) (vs ws : List ℕ) (u : ℕ) → first_unfixed b vs ≡ Some u → first_unfixed b (vs ++ ws) ≡ Some u
first_in_left b [] ws u e = absurd (cc)
first_in_left b (v ∷ vs) ws u e = by_test (is_unfixed b v) e (first_in_left b vs ws u)
  where
    by_test : (t : Bool) → (if t then Some v else first_unfixed b vs) ≡ Some u → (first_unfixed b vs ≡ Some u → first_unfixed b (vs ++ ws) ≡ Some u) → (if t then Some v else first_unfixed b (vs ++ ws)) ≡ Some u
    by_test true e rest = e
    by_test false e rest = rest e

-- an ordered branching picks the first that is unfixed, with its least value
pub record PicksFirst (br : Branching) (b : Box) (v : ℕ) (choice : ValueChoice) : Type 0 where
  pub first : first_unfixed b (comparison_order br (length b)) ≡ Some v
  pub least : choice ≡ Least

pub ordered_picks : (br : Branching) (b : Box) (v : ℕ) (choice : ValueChoice) → IsOrdered br → pick br b ≡ Some (v, choice) → PicksFirst br b v choice
ordered_picks br b v choice o e = by_case (picked_by br b v choice e).either
  where
    plain : named_unfixed br b ≡ first_unfixed b (br.order)
    plain = ap (λ t. if t then smallest_unfixed b (br.order) else first_unfixed b (br.order)) o.in_order

    by_case : ((named_unfixed br b ≡ Some v) × (choice ≡ br.value)) ⊎ ((named_unfixed br b ≡ None) × (first_unfixed b (places (length b)) ≡ Some v) × (choice ≡ Least)) → PicksFirst br b v choice
    by_case (inl h) = record { first = first_in_left b (br.order) (places (length b)) v (sym plain ∙ h.0); least = h.1 ∙ o.least }
    by_case (inr h) = record { first = first_in_both b (br.order) (places (length b)) (sym plain ∙ h.0) ∙ h.1; least = h.2 }

fixed_number : (sets b : Box) (w : ℕ) (p q : Assignment) → IsBox sets b → InBox p b → InBox q b → is_unfixed b w ≡ false → number_at p w ≡ number_at q w
fixed_number [] [] w [] [] i hp hq e = refl
fixed_number [] (s ∷ b) w p q i hp hq e = absurd i
fixed_number (d ∷ sets) [] w p q i hp hq e = absurd i
fixed_number [] [] w (n ∷ p) q i hp hq e = absurd hp
fixed_number [] [] w [] (m ∷ q) i hp hq e = absurd hq
fixed_number (d ∷ sets) (s ∷ b) w [] q i hp hq e = absurd hp
fixed_number (d ∷ sets) (s ∷ b) w (n ∷ p) [] i hp hq e = absurd hq
fixed_number (d ∷ sets) (s ∷ b) zero (n ∷ p) (m ∷ q) i hp hq e = one_number s i.0 e n m hp.0 hq.0
fixed_number (d ∷ sets) (s ∷ b) (suc w) (n ∷ p) (m ∷ q) i hp hq e = fixed_number sets b w p q i.2 hp.1 hq.1 e

pub first_decides : (sets b : Box) → IsBox sets b → (vs : List ℕ) (v : ℕ) → first_unfixed b vs ≡ Some v → (p q : Assignment) → InBox p b → InBox q b → number_at p v <ℤ number_at q v → Before vs p q
first_decides sets b i [] v e p q hp hq l = absurd (cc)
first_decides sets b i (w ∷ vs) v e p q hp hq l = by_test (is_unfixed b w) refl e (λ f. first_decides sets b i vs v f p q hp hq l)
  where
    by_test : (t : Bool) → is_unfixed b w ≡ t → (if t then Some w else first_unfixed b vs) ≡ Some v → (first_unfixed b vs ≡ Some v → Before vs p q) → Before (w ∷ vs) p q
    by_test true is e rest = inl (subst (λ u. number_at p u <ℤ number_at q u) (sym (some_is w v e)) l)
    by_test false is e rest = inr (fixed_number sets b w p q i hp hq is, rest e)
