-- That what opens a bracket, and any number of parts, make exact parsers.
use Rattle.std.proofs.Common.{◌≡◌, ℕ, zero, suc, ◌≤◌, List, [], ◌∷◌, ◌++◌, length, Option, Some, None, Bool, true, false, refl, sym, ap, ◌∙◌, subst, length-append, arith, ◌⊎◌, inl, inr}
use Rattle.std.specs.Prelude.{option_and_then, if◌then◌else◌}
use Rattle.ms_syntax.specs.declared.token.Token.{Token}
use Rattle.ms_syntax.specs.declared.token.Spanned.{Spanned}
use Rattle.ms_syntax.specs.Grammar.{Tokens, opens, closes, left, left_after}
use Rattle.ms_cursor.specs.Reading.{Out, ok, bad, deep, Parser, and_then, ◌>>=◌, pure, pick, deeper}
use Rattle.ms_parser.proofs.Cases.{opening, many_to, many}
use Rattle.ms_parser.proofs.Exact.{append_nil, Stops, nobody, SameHead, IsDeep, Found, Stuck, Passes, Exact, Seq, Just, Cases, Many, bind, pure_exact, retype, extend}
use Rattle.ms_parser.proofs.Choices.{some_or, either, by_exact}

-- ---- a choice by a token that opens, where nothing more may open

module _ {A B : Type 0} (n d' : ℕ) (I E : Token → Bool) (f : Token → Option A) (P : A → Spanned → B → Tokens → Type 0) (Q : B → Tokens → Type 0)
    (p : A → Spanned → Parser B) (q : Parser B)
    (clear : (y : Spanned) (a : A) → f y.token ≡ Some a → I y.token ≡ false)
    (needs : (y : Spanned) (a : A) → f y.token ≡ Some a → opens y.token ≡ true)
    (some : (a : A) (y : Spanned) → (x : B) × (v : Tokens) × P a y x v) (two : Exact n 0 d' (either f I) E Q q) where
  sh_is_none : (o : Option A) (b : Bool) → some_or o b ≡ false → o ≡ None
  sh_is_none None b h = refl
  sh_is_none (Some a) b h = absurd (cc)

  sh_is_clear : (o : Option A) (b : Bool) → some_or o b ≡ false → b ≡ false
  sh_is_clear None b h = h
  sh_is_clear (Some a) b h = absurd (cc)

  sh_clear : (r : Tokens) → Stops (either f I) r → Stops I r
  sh_clear [] s = tt
  sh_clear (y ∷ r) s = sh_is_clear (f y.token) (I y.token) s

  sh_starts : (x : B) (w r : Tokens) → (Cases f P Q) x w → Stops E r → Stops I (w ++ r)
  sh_starts x w r (inl (a, y, v, s, h, g)) halt = subst (λ (u : Tokens). Stops I (u ++ r)) (sym s) (clear y a h)
  sh_starts x w r (inr g) halt = sh_clear (w ++ r) (two.starts x w r g halt)

  sh_found : (ts : Tokens) (x : B) (r : Tokens) → Found 0 d' Q ts x r → Found 0 d' (Cases f P Q) ts x r
  sh_found ts x r g = record { front = g.front; whole = g.whole; written = inr g.written; even = g.even }

  sh_sound_at : (y : Spanned) (ts : Tokens) (x : B) (r : Tokens) (o : Option A) → f y.token ≡ o → length (y ∷ ts) ≤ n → pick o (λ a. deep (length ts)) (q (y ∷ ts)) ≡ ok x r → Found 0 d' (Cases f P Q) (y ∷ ts) x r
  sh_sound_at y ts x r None t fits h = sh_found (y ∷ ts) x r (two.sound (y ∷ ts) x r fits h)
  sh_sound_at y ts x r (Some a) t fits h = absurd (cc)

  sh_sound : (ts : Tokens) (x : B) (r : Tokens) → length ts ≤ n → opening 0 f p q ts ≡ ok x r → Found 0 d' (Cases f P Q) ts x r
  sh_sound [] x r fits h = sh_found [] x r (two.sound [] x r fits h)
  sh_sound (y ∷ ts) x r fits h = sh_sound_at y ts x r (f y.token) refl fits h

  sh_stuck : (ts : Tokens) (k : ℕ) → Stuck 0 Q ts k → Stuck 0 (Cases f P Q) ts k
  sh_stuck ts k g = record { front = g.front; rest = g.rest; whole = g.whole; count = g.count; value = g.value; more = g.more; written = inr g.written; even = g.even }

  sh_wrong_at : (y : Spanned) (ts : Tokens) (k : ℕ) (o : Option A) → f y.token ≡ o → length (y ∷ ts) ≤ n → pick o (λ a. deep (length ts)) (q (y ∷ ts)) ≡ bad k → Stuck 0 (Cases f P Q) (y ∷ ts) k
  sh_wrong_at y ts k None t fits h = sh_stuck (y ∷ ts) k (two.wrong (y ∷ ts) k fits h)
  sh_wrong_at y ts k (Some a) t fits h = absurd (cc)

  sh_wrong : (ts : Tokens) (k : ℕ) → length ts ≤ n → opening 0 f p q ts ≡ bad k → Stuck 0 (Cases f P Q) ts k
  sh_wrong [] k fits h = sh_stuck [] k (two.wrong [] k fits h)
  sh_wrong (y ∷ ts) k fits h = sh_wrong_at y ts k (f y.token) refl fits h

  sh_over : (ts : Tokens) (k : ℕ) → Passes 0 Q ts k → Passes 0 (Cases f P Q) ts k
  sh_over ts k g = record { front = g.front; opening = g.opening; rest = g.rest; whole = g.whole; count = g.count; value = g.value; more = g.more; written = inr g.written; edge = g.edge; opener = g.opener }

  sh_passed_at : (y : Spanned) (ts : Tokens) (k : ℕ) (o : Option A) → f y.token ≡ o → length (y ∷ ts) ≤ n → pick o (λ a. deep (length ts)) (q (y ∷ ts)) ≡ deep k → Passes 0 (Cases f P Q) (y ∷ ts) k
  sh_passed_at y ts k None t fits h = sh_over (y ∷ ts) k (two.passed (y ∷ ts) k fits h)
  sh_passed_at y ts k (Some a) t fits h =
      let x = some a y in
      record { front = []; opening = y; rest = ts; whole = refl; count = cc; value = x.0; more = x.1; written = inl (a, y, x.1, refl, t, x.2); edge = refl; opener = needs y a t }

  sh_passed : (ts : Tokens) (k : ℕ) → length ts ≤ n → opening 0 f p q ts ≡ deep k → Passes 0 (Cases f P Q) ts k
  sh_passed [] k fits h = sh_over [] k (two.passed [] k fits h)
  sh_passed (y ∷ ts) k fits h = sh_passed_at y ts k (f y.token) refl fits h

  sh_taken : (y : Spanned) (ts : Tokens) (a : A) → f y.token ≡ Some a → opening 0 f p q (y ∷ ts) ≡ deep (length ts)
  sh_taken y ts a h = ap (λ o. pick o (λ a. deep (length ts)) (q (y ∷ ts))) h

  sh_other : (y : Spanned) (ts : Tokens) → f y.token ≡ None → opening 0 f p q (y ∷ ts) ≡ q (y ∷ ts)
  sh_other y ts h = ap (λ o. pick o (λ a. deep (length ts)) (q (y ∷ ts))) h

  sh_skipped : (ts : Tokens) → Stops (either f I) ts → opening 0 f p q ts ≡ q ts
  sh_skipped [] s = refl
  sh_skipped (y ∷ ts) s = sh_other y ts (sh_is_none (f y.token) (I y.token) s)

  sh_closed : (y : Spanned) (v : Tokens) → opens y.token ≡ true → left 0 (y ∷ v) ≡ None
  sh_closed y v h = ap (λ b. option_and_then (λ m. left m v) (if b then None else (if closes y.token then Some 1 else Some 0))) h

  sh_right : (x : B) (w r : Tokens) → length (w ++ r) ≤ n → (Cases f P Q) x w → Stops E r → (opening 0 f p q (w ++ r) ≡ ok x r) ⊎ (IsDeep (opening 0 f p q (w ++ r)) × (left 0 w ≡ None))
  sh_right x w r fits (inr g) halt =
      let same = sh_skipped (w ++ r) (two.starts x w r g halt) in
      elim (two.right x w r fits g halt) as (λ _. (opening 0 f p q (w ++ r) ≡ ok x r) ⊎ (IsDeep (opening 0 f p q (w ++ r)) × (left 0 w ≡ None))) [
        | inl a ↦ inl (same ∙ a)
        | inr a ↦ inr (subst (λ (o : Out B). IsDeep o) (sym same) a.0, a.1)
      ]
  sh_right x w r fits (inl (a, y, v, s, h, g)) halt =
      let R : Tokens → Type 0 = λ u. (opening 0 f p q (u ++ r) ≡ ok x r) ⊎ (IsDeep (opening 0 f p q (u ++ r)) × (left 0 u ≡ None)) in
      let cons : R (y ∷ v) = inr (subst (λ (o : Out B). IsDeep o) (sym (sh_taken y (v ++ r) a h)) tt, sh_closed y v (needs y a h)) in
      subst R (sym s) cons

  sh_frozen_at : (y : Spanned) (w b c : Tokens) (o : Option A) → f y.token ≡ o → length (y ∷ (w ++ b)) ≤ n → length (y ∷ (w ++ c)) ≤ n → pick o (λ a. deep (length (w ++ b))) (q (y ∷ (w ++ b))) ≡ bad (length b) → SameHead b c → pick o (λ a. deep (length (w ++ c))) (q (y ∷ (w ++ c))) ≡ bad (length c)
  sh_frozen_at y w b c None t fits fits2 h same = two.frozen (y ∷ w) b c fits fits2 h same
  sh_frozen_at y w b c (Some a) t fits fits2 h same = absurd (cc)

  sh_longer : (y : Spanned) (b : Tokens) (o : Option A) → f y.token ≡ o → length (y ∷ b) ≤ n → pick o (λ a. deep (length b)) (q (y ∷ b)) ≡ bad (suc (length b)) → o ≡ None
  sh_longer y b None t fits h = refl
  sh_longer y b (Some a) t fits h = absurd (cc)

  sh_frozen : (w b c : Tokens) → length (w ++ b) ≤ n → length (w ++ c) ≤ n → opening 0 f p q (w ++ b) ≡ bad (length b) → SameHead b c → opening 0 f p q (w ++ c) ≡ bad (length c)
  sh_frozen [] [] [] fits fits2 h same = h
  sh_frozen [] [] (z ∷ c) fits fits2 h same = absurd same
  sh_frozen [] (y ∷ b) [] fits fits2 h same = absurd same
  sh_frozen [] (y ∷ b) (z ∷ c) fits fits2 h same =
      let none = sh_longer y b (f y.token) refl fits h in
      let P : Spanned → Type 0 = λ x. opening 0 f p q (x ∷ c) ≡ bad (suc (length c)) in
      subst P same (sh_other y c none ∙ two.frozen [] (y ∷ b) (y ∷ c) fits (omega (arith, fits2)) (sym (sh_other y b none) ∙ h) refl)
  sh_frozen (y ∷ w) b c fits fits2 h same = sh_frozen_at y w b c (f y.token) refl fits fits2 h same

  sh_steady_at : (x : B) (y : Spanned) (w b c : Tokens) (o : Option A) → length (y ∷ (w ++ b)) ≤ n → length (y ∷ (w ++ c)) ≤ n → pick o (λ a. deep (length (w ++ b))) (q (y ∷ (w ++ b))) ≡ ok x b → SameHead b c → pick o (λ a. deep (length (w ++ c))) (q (y ∷ (w ++ c))) ≡ ok x c
  sh_steady_at x y w b c None fits fits2 h same = two.steady x (y ∷ w) b c fits fits2 h same
  sh_steady_at x y w b c (Some a) fits fits2 h same = absurd (cc)

  sh_untaken : (x : B) (y : Spanned) (b : Tokens) (o : Option A) → pick o (λ a. deep (length b)) (q (y ∷ b)) ≡ ok x (y ∷ b) → o ≡ None
  sh_untaken x y b None h = refl
  sh_untaken x y b (Some a) h = absurd (cc)

  sh_steady : (x : B) (w b c : Tokens) → length (w ++ b) ≤ n → length (w ++ c) ≤ n → opening 0 f p q (w ++ b) ≡ ok x b → SameHead b c → opening 0 f p q (w ++ c) ≡ ok x c
  sh_steady x [] [] [] fits fits2 h same = h
  sh_steady x [] [] (z ∷ c) fits fits2 h same = absurd same
  sh_steady x [] (y ∷ b) [] fits fits2 h same = absurd same
  sh_steady x [] (y ∷ b) (z ∷ c) fits fits2 h same =
      let none = sh_untaken x y b (f y.token) h in
      let P : Spanned → Type 0 = λ v. opening 0 f p q (v ∷ c) ≡ ok x (v ∷ c) in
      subst P same (sh_other y c none ∙ two.steady x [] (y ∷ b) (y ∷ c) fits (omega (arith, fits2)) (sym (sh_other y b none) ∙ h) refl)
  sh_steady x (y ∷ w) b c fits fits2 h same = sh_steady_at x y w b c (f y.token) fits fits2 h same

  pub shut_exact : Exact n 0 d' I E (Cases f P Q) (opening 0 f p q)
  shut_exact = record { witness = (two.witness.0, two.witness.1, inr two.witness.2); starts = sh_starts; sound = sh_sound; right = sh_right; wrong = sh_wrong; passed = sh_passed; steady = sh_steady; frozen = sh_frozen }

-- ---- any number of times

module _ {A B : Type 0} (f : Token → Option A) (P : A → Spanned → B → Tokens → Type 0) where
  abbrev pub After : A → Spanned → List B → Tokens → Type 0
  After a y = Seq (P a y) (λ x. Seq (Many f P) (λ xs. Just (x ∷ xs)))

  pub to_many : (xs : List B) (w : Tokens) → Cases f After (Just []) xs w → Many f P xs w
  to_many xs w (inr (i, s)) = subst (λ (z : List B). Many f P z w) (sym i) s
  to_many xs w (inl (a, y, v, s, h, (x, u, t, k, g, (zs, l, m, c, i, (j, o))))) =
      let t_is : t ≡ l = c ∙ ap (λ q. l ++ q) o ∙ append_nil l in
      let w_is : w ≡ y ∷ (u ++ l) = s ∙ ap (λ q. y ∷ q) (k ∙ ap (λ q. u ++ q) t_is) in
      subst (λ (z : List B). Many f P z w) (sym j) (a, y, u, l, w_is, h, g, i)

  pub from_many : (xs : List B) (w : Tokens) → Many f P xs w → Cases f After (Just []) xs w
  from_many [] w s = inr (refl, s)
  from_many (x ∷ xs) w (a, y, u, v, s, h, g, i) = inl (a, y, u ++ v, s, h, (x, u, v, refl, g, (xs, v, [], sym (append_nil v), i, (refl, refl))))

module _ {A B : Type 0} (d e : ℕ) (I : Token → Bool) (f : Token → Option A) (P : A → Spanned → B → Tokens → Type 0) (p : A → Spanned → Parser B)
    (clear : (y : Spanned) (a : A) → f y.token ≡ Some a → I y.token ≡ false)
    (step : (y : Spanned) (a : A) → f y.token ≡ Some a → left_after d y.token ≡ Some e)
    (one : (n : ℕ) (a : A) (y : Spanned) → f y.token ≡ Some a → Exact n e d nobody I (P a y) (p a y)) where
  many_clear : (o : Option A) (b : Bool) → some_or o b ≡ false → b ≡ false
  many_clear None b h = h
  many_clear (Some a) b h = absurd (cc)

  many_rest : (r : Tokens) → Stops (either f I) r → Stops I r
  many_rest [] s = tt
  many_rest (y ∷ r) s = many_clear (f y.token) (I y.token) s

  many_starts : (xs : List B) (w r : Tokens) → (Many f P) xs w → Stops (either f I) r → Stops I (w ++ r)
  many_starts [] w r g halt = subst (λ (u : Tokens). Stops I (u ++ r)) (sym g) (many_rest r halt)
  many_starts (x ∷ xs) w r (a, y, u, v, s, h, k, g) halt = subst (λ (t : Tokens). Stops I (t ++ r)) (sym s) (clear y a h)

  zero_right : (xs : List B) (w r : Tokens) → length (w ++ r) ≤ 0 → (Many f P) xs w → Stops (either f I) r → (pure {A = List B} [] (w ++ r) ≡ ok xs r) ⊎ (IsDeep (pure {A = List B} [] (w ++ r)) × (left d w ≡ None))
  zero_right [] w r fits g halt = let w_is : w ≡ [] = g in let P : Tokens → Type 0 = λ u. (pure {A = List B} [] (u ++ r)) ≡ ok [] r in inl (subst P (sym w_is) refl)
  zero_right (x ∷ xs) w r fits (a, y, u, v, s, h, k, g) halt = absurd (omega (arith, subst (λ (t : Tokens). length (t ++ r) ≤ 0) s fits))

  zero_exact : Exact 0 d d I (either f I) (Many f P) (many_to 0 f p)
  zero_exact = record {
    witness = ([], [], refl);
    starts = many_starts;
    sound = λ ts x r fits h.
        let value : ◌≡◌ {A = List B} [] x = cc in let rest : ts ≡ r = cc in
        record { front = []; whole = rest; written = subst (λ (z : List B). (Many f P) z []) value refl; even = refl };
    right = zero_right;
    wrong = λ ts k fits h. absurd (cc);
    passed = λ ts k fits h. absurd (cc);
    steady = (pure_exact {A = List B} 0 d I []).steady;
    frozen = λ w b c fits fits2 h same. absurd (cc);
  }

  pub many_to_exact : (n : ℕ) → Exact n d d I (either f I) (Many f P) (many_to n f p)
  many_to_exact zero = zero_exact
  many_to_exact (suc n) =
      retype (suc n) d d I (either f I) (Cases f (After f P) (Just [])) (Many f P) (many_to (suc n) f p) (to_many f P) (from_many f P)
      (by_exact (suc n) n d e d (omega arith) I (either f I) f (After f P) (Just []) (λ a y. p a y >>= λ x. many_to n f p >>= λ xs. pure (x ∷ xs)) (pure []) clear step
      (λ a y t. bind n e d d nobody I (either f I) (P a y) (λ x. Seq (Many f P) (λ xs. Just (x ∷ xs))) (p a y) (λ x. many_to n f p >>= λ xs. pure (x ∷ xs)) (one n a y t)
      (λ x. bind n d d d I (either f I) (either f I) (Many f P) (λ xs. Just (x ∷ xs)) (many_to n f p) (λ xs. pure (x ∷ xs)) (many_to_exact n) (λ xs. pure_exact n d (either f I) (x ∷ xs))))
      (pure_exact (suc n) d (either f I) []))

  -- the turns that are allowed do not matter, where they are as many as the tokens
  enough : (k n : ℕ) (ts : Tokens) → length ts ≤ k → length ts ≤ n → many_to k f p ts ≡ many_to n f p ts
  enough zero zero ts h i = refl
  enough zero (suc n) [] h i = refl
  enough zero (suc n) (y ∷ ts) h i = absurd (omega arith)
  enough (suc k) zero [] h i = refl
  enough (suc k) zero (y ∷ ts) h i = absurd (omega arith)
  enough (suc k) (suc n) [] h i = refl
  enough (suc k) (suc n) (y ∷ ts) h i = enough_at k n y ts (f y.token) refl (omega arith) (omega arith) (λ r g j. enough k n r g j)
    where
      enough_then : (k n : ℕ) (a : A) (y : Spanned) (ts : Tokens) (o : Out B) → f y.token ≡ Some a → p a y ts ≡ o → length ts ≤ k → length ts ≤ n
          → ((r : Tokens) → length r ≤ k → length r ≤ n → many_to k f p r ≡ many_to n f p r)
          → and_then o (λ x. many_to k f p >>= λ xs. pure (x ∷ xs)) ≡ and_then o (λ x. many_to n f p >>= λ xs. pure (x ∷ xs))
      enough_then k n a y ts (ok x r) t e h i again =
          let g = (one k a y t).sound ts x r h e in
          let shorter : length r ≤ length ts = omega (arith, ap length g.whole, length-append g.front r) in
          ap (λ o. and_then o (λ xs. pure (x ∷ xs))) (again r (omega arith) (omega arith))
      enough_then k n a y ts (bad j) t e h i again = refl
      enough_then k n a y ts (deep j) t e h i again = refl

      enough_at : (k n : ℕ) (y : Spanned) (ts : Tokens) (o : Option A) → f y.token ≡ o → length ts ≤ k → length ts ≤ n
          → ((r : Tokens) → length r ≤ k → length r ≤ n → many_to k f p r ≡ many_to n f p r)
          → pick o (λ a. (p a y >>= λ x. many_to k f p >>= λ xs. pure (x ∷ xs)) ts) (ok [] (y ∷ ts)) ≡ pick o (λ a. (p a y >>= λ x. many_to n f p >>= λ xs. pure (x ∷ xs)) ts) (ok [] (y ∷ ts))
      enough_at k n y ts None t h i again = refl
      enough_at k n y ts (Some a) t h i again = enough_then k n a y ts (p a y ts) t refl h i again

  pub many_exact : (n : ℕ) → Exact n d d I (either f I) (Many f P) (many f p)
  many_exact n = extend n d d I (either f I) (Many f P) (many f p) (many_to n f p) (λ ts fits. enough (length ts) n ts (omega arith) fits) (many_to_exact n)

-- the same, where the token opens a bracket that the rest closes
module _ {A B : Type 0} (n : ℕ) (I : Token → Bool) (f : Token → Option A) (P : A → Spanned → B → Tokens → Type 0) (p : A → Spanned → Parser B)
    (clear : (y : Spanned) (a : A) → f y.token ≡ Some a → I y.token ≡ false)
    (needs : (y : Spanned) (a : A) → f y.token ≡ Some a → opens y.token ≡ true)
    (some : (a : A) (y : Spanned) → (x : B) × (v : Tokens) × P a y x v) where
  pub opens_step : (e : ℕ) (y : Spanned) (a : A) → f y.token ≡ Some a → left_after (suc e) y.token ≡ Some e
  opens_step e y a h = ap (λ b. if b then Some e else (if closes y.token then Some (suc (suc e)) else Some (suc e))) (needs y a h)

  pub many_open_exact : (d : ℕ) → ((e : ℕ) → d ≡ suc e → (n : ℕ) (a : A) (y : Spanned) → f y.token ≡ Some a → Exact n e (suc e) nobody I (P a y) (p a y))
      → Exact n d d I (either f I) (Many f P) (many f (λ a y. deeper d a >>= λ b. p b y))
  many_open_exact (suc e) one = many_exact (suc e) e I f P p clear (opens_step e) (λ n a y h. one e refl n a y h) n
  many_open_exact zero one =
      extend n 0 0 I (either f I) (Many f P) (many f (λ a y. deeper 0 a >>= λ b. p b y)) (opening 0 f (λ a y. pure []) (pure [])) same
      (retype n 0 0 I (either f I) (Cases f (After f P) (Just [])) (Many f P) (opening 0 f (λ a y. pure []) (pure [])) (to_many f P) (from_many f P)
      (shut_exact n 0 I (either f I) f (After f P) (Just []) (λ a y. pure []) (pure []) clear needs once (pure_exact n 0 (either f I) [])))
    where
      once : (a : A) (y : Spanned) → (xs : List B) × (v : Tokens) × After f P a y xs v
      once a y = let x = some a y in (x.0 ∷ [], x.1, (x.0, x.1, [], sym (append_nil x.1), x.2, ([], [], [], refl, refl, (refl, refl))))

      same : (ts : Tokens) → length ts ≤ n → many f (λ a y. deeper 0 a >>= λ b. p b y) ts ≡ opening 0 f (λ a y. pure []) (pure []) ts
      same [] h = refl
      same (y ∷ ts) h = refl

  -- a choice by a token that opens a bracket
  pub opening_exact : (d : ℕ) (E : Token → Bool) (Q : B → Tokens → Type 0) (q : Parser B) → Exact n d d (either f I) E Q q
      → ((e : ℕ) → d ≡ suc e → (a : A) (y : Spanned) → f y.token ≡ Some a → Exact n e (suc e) nobody E (P a y) (p a y))
      → Exact n d d I E (Cases f P Q) (opening d f p q)
  opening_exact (suc e) E Q q two one = by_exact n n (suc e) e (suc e) (omega arith) I E f P Q p q clear (opens_step e) (λ a y h. one e refl a y h) two
  opening_exact zero E Q q two one = shut_exact n 0 I E f P Q p q clear needs some two
