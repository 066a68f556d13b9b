-- A loop that reads as often as a token comes, after some turns.
use Rattle.std.proofs.Common.{◌≡◌, ℕ, suc, zero, ◌+◌, ◌-◌, ◌<◌, ◌≤◌, arith, List, [], ◌∷◌, ◌++◌, Option, Some, None, Bool, true, false, refl, sym, ap, ◌∙◌, append_assoc}
use Rattle.std.specs.Prelude.{is_some, if◌then◌else◌}
use Rattle.ms_cursor.specs.declared.stop.Stop.{Stop}
use Rattle.ms_cursor.specs.declared.stop.Stop.TheVariants.{Syntax, Deep, Memory}
use Rattle.ms_cursor.specs.Reads.{Fails}
use Rattle.std.proofs.lemmas.List.{append-nil}
use Rattle.ms_syntax.specs.declared.token.Token.{Token}
use Rattle.ms_syntax.specs.declared.token.Spanned.{Spanned}
use Rattle.ms_syntax.specs.Grammar.{Tokens}
use Rattle.ms_cursor.specs.Reading.{Out, ok, bad, deep, Parser, and_then, ◌>>=◌, pure, pick, front, after, many_to, grown}

pub grown_none : {A : Type 0} (o : Out (List A)) → grown [] o ≡ o
grown_none (ok xs r) = refl
grown_none (bad n) = refl
grown_none (deep n) = refl

grown_twice : {A : Type 0} (a b : List A) (o : Out (List A)) → grown a (grown b o) ≡ grown (a ++ b) o
grown_twice a b (ok xs r) = ap (λ v. ok v r) (sym (append_assoc a b xs))
grown_twice a b (bad n) = refl
grown_twice a b (deep n) = refl

pub then_grown : {A : Type 0} (x : A) (o : Out (List A)) → and_then o (λ xs. pure (x ∷ xs)) ≡ grown (x ∷ []) o
then_grown x (ok xs r) = refl
then_grown x (bad n) = refl
then_grown x (deep n) = refl

module _ {A B : Type 0} (n : ℕ) (f : Token → Option A) (p : A → Spanned → Parser B) (found : List B) (ts : Tokens) where
  done_at : (o : Option (A × Spanned)) (k : Out (List B)) (h : A × Spanned → Out (List B)) → is_some o ≡ false → pick o h k ≡ k
  done_at None k h e = refl
  done_at (Some a) k h e = absurd (cc)

  -- no token of f comes
  pub turn_done : is_some (front f ts) ≡ false → grown found (many_to n f p ts) ≡ ok found ts
  unfolding many_to
  turn_done h = elim n as (λ n. grown found (many_to n f p ts) ≡ ok found ts) [
    | zero ↦ end
    | suc m ↦ ap (grown found) (done_at (front f ts) (ok [] ts) (λ a. (p a.0 a.1 >>= λ x. many_to m f p >>= λ xs. pure (x ∷ xs)) (after ts)) h) ∙ end
  ]
    where
      end : ok (found ++ []) ts ≡ ok found ts
      end = ap (λ v. ok v ts) (append-nil found)

  pub turns_over : grown found (many_to 0 f p ts) ≡ ok found ts
  unfolding many_to
  turns_over = ap (λ v. ok v ts) (append-nil found)

  taken_at : (o : Option (A × Spanned)) (k : Out (List B)) (z : Out B) → is_some o ≡ true → ((a : A) (y : Spanned) → o ≡ Some (a, y) → p a y (after ts) ≡ z)
      → pick o (λ a. (p a.0 a.1 >>= λ x. many_to n f p >>= λ xs. pure (x ∷ xs)) (after ts)) k ≡ and_then z (λ x. many_to n f p >>= λ xs. pure (x ∷ xs))
  taken_at None k z h e = absurd (cc)
  taken_at (Some a) k z h e = ap (λ o. and_then o (λ x. many_to n f p >>= λ xs. pure (x ∷ xs))) (e a.0 a.1 refl)

  -- one comes, and what it begins is read so
  pub turn_taken : (z : Out B) → is_some (front f ts) ≡ true → ((a : A) (y : Spanned) → front f ts ≡ Some (a, y) → p a y (after ts) ≡ z)
      → grown found (many_to (suc n) f p ts) ≡ grown found (and_then z (λ x. many_to n f p >>= λ xs. pure (x ∷ xs)))
  unfolding many_to
  turn_taken z h e = ap (grown found) (taken_at (front f ts) (ok [] ts) z h e)

  pub turn_more : (x : B) (r : Tokens) → is_some (front f ts) ≡ true → ((a : A) (y : Spanned) → front f ts ≡ Some (a, y) → p a y (after ts) ≡ ok x r)
      → grown found (many_to (suc n) f p ts) ≡ grown (found ++ x ∷ []) (many_to n f p r)
  turn_more x r h e = turn_taken (ok x r) h e ∙ ap (grown found) (then_grown x (many_to n f p r)) ∙ grown_twice found (x ∷ []) (many_to n f p r)

-- the same as a loop over a count of turns goes, where what is read does not depend on the token
module _ {A B : Type 0} (f : Token → Option A) (e : Parser B) (end turn : ℕ) (found : List B) (ts ts2 : Tokens) (whole : Out (List B)) (b : Bool)
    (so_far : grown found (many_to (end - turn) f (λ a y. e) ts) ≡ whole) (saw : b ≡ is_some (front f ts)) (next : ts2 ≡ (if b then after ts else ts)) where
  pub loop_step : (found2 : List B) (x : B) (r : Tokens) → turn < end → b ≡ true → e ts2 ≡ ok x r → found2 ≡ found ++ x ∷ [] → grown found2 (many_to (end - (turn + 1)) f (λ a y. e) r) ≡ whole
  loop_step found2 x r lt h g more =
      let n = end - (turn + 1) in
      let one : end - turn ≡ suc n = omega arith in
      let at : ts2 ≡ after ts = next ∙ ap (λ v. if v then after ts else ts) h in
      ap (λ v. grown v (many_to n f (λ a y. e) r)) more
      ∙ sym (turn_more n f (λ a y. e) found ts x r (sym saw ∙ h) (λ a y t. ap e (sym at) ∙ g))
      ∙ ap (λ k. grown found (many_to k f (λ a y. e) ts)) (sym one) ∙ so_far

  pub loop_stop : b ≡ false → whole ≡ ok found ts2
  loop_stop h = sym so_far ∙ turn_done (end - turn) f (λ a y. e) found ts (sym saw ∙ h) ∙ ap (ok found) (sym (next ∙ ap (λ v. if v then after ts else ts) h))

  bad_first : (o : Out B) (k : ℕ) → o ≡ bad k → grown found (and_then o (λ x. many_to (end - (turn + 1)) f (λ a y. e) >>= λ xs. pure (x ∷ xs))) ≡ bad k
  bad_first o k h = ap (λ o. grown found (and_then o (λ x. many_to (end - (turn + 1)) f (λ a y. e) >>= λ xs. pure (x ∷ xs)))) h

  deep_first : (o : Out B) (k : ℕ) → o ≡ deep k → grown found (and_then o (λ x. many_to (end - (turn + 1)) f (λ a y. e) >>= λ xs. pure (x ∷ xs))) ≡ deep k
  deep_first o k h = ap (λ o. grown found (and_then o (λ x. many_to (end - (turn + 1)) f (λ a y. e) >>= λ xs. pure (x ∷ xs)))) h

  at_item : turn < end → b ≡ true → whole ≡ grown found (and_then (e ts2) (λ x. many_to (end - (turn + 1)) f (λ a y. e) >>= λ xs. pure (x ∷ xs)))
  at_item lt h =
      let n = end - (turn + 1) in
      let one : end - turn ≡ suc n = omega arith in
      let at : ts2 ≡ after ts = next ∙ ap (λ v. if v then after ts else ts) h in
      sym so_far ∙ ap (λ k. grown found (many_to k f (λ a y. e) ts)) one ∙ turn_taken n f (λ a y. e) found ts (e ts2) (sym saw ∙ h) (λ a y t. ap e (sym at))

  pub loop_fails : (fault : Stop) → turn < end → b ≡ true → Fails (e ts2) fault → Fails whole fault
  loop_fails Memory lt h g = tt
  loop_fails (Syntax k) lt h g = at_item lt h ∙ bad_first (e ts2) k g
  loop_fails (Deep k) lt h g = at_item lt h ∙ deep_first (e ts2) k g

pub loop_over : {A B : Type 0} (f : Token → Option A) (e : Parser B) (end turn : ℕ) (found : List B) (ts : Tokens) (whole : Out (List B))
    → grown found (many_to (end - turn) f (λ a y. e) ts) ≡ whole → end ≤ turn → whole ≡ ok found ts
loop_over f e end turn found ts whole so_far h =
    let none : end - turn ≡ 0 = omega arith in
    sym so_far ∙ ap (λ k. grown found (many_to k f (λ a y. e) ts)) none ∙ turns_over zero f (λ a y. e) found ts

some_pair : {A : Type 0} (k l : A) → Some k ≡ Some l → k ≡ l
some_pair k l h = cc

-- the same, where what is read depends on the token
module _ {A B : Type 0} (f : Token → Option A) (p : A → Spanned → Parser B) (end turn : ℕ) (found : List B) (ts : Tokens) (whole : Out (List B)) (so_far : grown found (many_to (end - turn) f p ts) ≡ whole) where
  pub each_stop : front f ts ≡ None → whole ≡ ok found ts
  each_stop h = sym so_far ∙ turn_done (end - turn) f p found ts (ap is_some h)

  pub each_over : end ≤ turn → whole ≡ ok found ts
  each_over h =
      let none : end - turn ≡ 0 = omega (arith, h) in
      sym so_far ∙ ap (λ k. grown found (many_to k f p ts)) none ∙ turns_over zero f p found ts

  module _ (less : turn < end) (a : A) (y : Spanned) (saw : front f ts ≡ Some (a, y)) where
    same_reader : (z : Out B) → p a y (after ts) ≡ z → (b : A) (v : Spanned) → front f ts ≡ Some (b, v) → p b v (after ts) ≡ z
    same_reader z h b v g = ap (λ k. p k.0 k.1 (after ts)) (sym (some_pair (a, y) (b, v) (sym saw ∙ g))) ∙ h

    one_turn : (z : Out B) → p a y (after ts) ≡ z → grown found (and_then z (λ x. many_to (end - (turn + 1)) f p >>= λ xs. pure (x ∷ xs))) ≡ whole
    one_turn z h =
        let one : end - turn ≡ suc (end - (turn + 1)) = omega (arith, less) in
        sym (turn_taken (end - (turn + 1)) f p found ts z (ap is_some saw) (same_reader z h)) ∙ ap (λ k. grown found (many_to k f p ts)) (sym one) ∙ so_far

    pub each_step : (found2 : List B) (x : B) (r : Tokens) → p a y (after ts) ≡ ok x r → found2 ≡ found ++ x ∷ [] → grown found2 (many_to (end - (turn + 1)) f p r) ≡ whole
    each_step found2 x r h g =
        ap (λ v. grown v (many_to (end - (turn + 1)) f p r)) g ∙ sym (grown_twice found (x ∷ []) (many_to (end - (turn + 1)) f p r)) ∙ sym (ap (grown found) (then_grown x (many_to (end - (turn + 1)) f p r))) ∙ one_turn (ok x r) h

    pub each_fails : (fault : Stop) → Fails (p a y (after ts)) fault → Fails whole fault
    each_fails Memory h = tt
    each_fails (Syntax k) h = sym (one_turn (bad k) h)
    each_fails (Deep k) h = sym (one_turn (deep k) h)
