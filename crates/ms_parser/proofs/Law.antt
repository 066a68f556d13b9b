-- What the outcome of a reader of all tokens says of the language that it reads.
use Rattle.std.proofs.Common.{◌≡◌, ℕ, suc, ◌+◌, ◌-◌, ◌≤◌, [], ◌∷◌, ◌++◌, length, Option, Some, None, Bool, true, refl, sym, ap, ◌∙◌, subst, append_assoc, length-append, arith, ◌⊎◌, inl, inr}
use Rattle.std.specs.Prelude.{option_and_then, IsSome, if◌then◌else◌}
use Rattle.ms_syntax.specs.declared.token.Token.{Token}
use Rattle.ms_syntax.specs.declared.token.Spanned.{Spanned}
use Rattle.ms_syntax.specs.Grammar.{Tokens, left, opens, closes, IsShallow, Begins, CannotGoOn, SyntaxAt, DeepAt}
use Rattle.ms_parser.specs.Answers.{HasAnswer}
use Rattle.ms_cursor.specs.Reading.{Out, ok, bad, deep, Parser, and_then, ◌>>=◌, finish}
use Rattle.ms_parser.proofs.Exact.{nobody, Exact, IsThere, IsDeep, append_nil, left_from}

some_there : (o : Option ℕ) → IsThere o → IsSome o
some_there None h = absurd h
some_there (Some n) h = refl

is_some_of : (o : Option ℕ) (n : ℕ) → o ≡ Some n → IsSome o
is_some_of o n h = subst (λ (p : Option ℕ). IsSome p) (sym h) refl

none_some : {k : ℕ} → None ≡ Some k → ⊥
none_some e = cc

not_none : IsSome {T = ℕ} None → ⊥
not_none h = cc

passes_at : (front : Tokens) (y : Spanned) → left 200 front ≡ Some 0 → opens y.token ≡ true → left 200 (front ++ y ∷ []) ≡ None
passes_at front y e h = left_from 200 0 front (y ∷ []) e ∙ ap (λ b. option_and_then (λ m. left m []) (if b then None else (if closes y.token then Some 1 else Some 0))) h

module _ {A : Type 0} (E : Token → Bool) (G : A → Tokens → Type 0) (p : Parser A) (exact : (n : ℕ) → Exact n 200 200 nobody E G p) where
  -- a value that is written so is read, or brackets nest too deep
  reads_all : (x : A) (w : Tokens) → G x w → (p w ≡ ok x []) ⊎ (IsDeep (p w) × (left 200 w ≡ None))
  reads_all x w g =
      let whole = append_nil w in
      subst (λ (v : Tokens). (p v ≡ ok x []) ⊎ (IsDeep (p v) × (left 200 w ≡ None))) whole
      ((exact (length (w ++ []))).right x w [] (omega arith) g tt)

  not_bad : (x : A) (w : Tokens) (n : ℕ) → G x w → p w ≡ bad n → ⊥
  not_bad x w n g h = elim (reads_all x w g) as (λ _. ⊥) [
    | inl e ↦ cc
    | inr e ↦ subst (λ (o : Out A). IsDeep o) h e.0
  ]

  not_early : (x y : A) (w r : Tokens) (z : Spanned) → G x w → p w ≡ ok y (z ∷ r) → ⊥
  not_early x y w r z g h = elim (reads_all x w g) as (λ _. ⊥) [
    | inl e ↦ cc
    | inr e ↦ subst (λ (o : Out A). IsDeep o) h e.0
  ]

  stuck_next : (ts : Tokens) (front rest : Tokens) (n : ℕ) → ts ≡ front ++ rest → length rest ≡ n → p ts ≡ bad n → CannotGoOn G front rest
  stuck_next ts front [] n q c h = λ x g.
      not_bad x front n g (subst (λ (v : Tokens). p v ≡ bad n) (q ∙ append_nil front) h)
  stuck_next ts front (y ∷ r) n q c h = λ (x, more, g).
      let bound = length (front ++ (y ∷ r)) + length (front ++ (y ∷ more)) in
      let here : p (front ++ (y ∷ r)) ≡ bad (length (y ∷ r)) = subst (λ (v : Tokens). p v ≡ bad n) q h ∙ ap bad (sym c) in
      let there = (exact bound).frozen front (y ∷ r) (y ∷ more) (omega arith) (omega arith) here refl in
      not_bad x (front ++ (y ∷ more)) (length (y ∷ more)) (subst (G x) (append_assoc front (y ∷ []) more) g) there

  early_next : (x : A) (front : Tokens) (y : Spanned) (r : Tokens) → p (front ++ (y ∷ r)) ≡ ok x (y ∷ r) → Begins G (front ++ y ∷ []) → ⊥
  early_next x front y r read (z, more, h) =
      let bound = length (front ++ (y ∷ r)) + length (front ++ (y ∷ more)) in
      let written : G z (front ++ (y ∷ more)) = subst (G z) (append_assoc front (y ∷ []) more) h in
      not_early z x (front ++ (y ∷ more)) more y written ((exact bound).steady x front (y ∷ r) (y ∷ more) (omega arith) (omega arith) read refl)

  syntax_by : (ts : Tokens) (n : ℕ) (o : Out A) → p ts ≡ o → and_then o finish ≡ bad n → SyntaxAt G ts (length ts - n)
  syntax_by ts n (bad k) h e =
      let same : k ≡ n = cc in
      let s = (exact (length ts)).wrong ts k (omega arith) h in
      record {
        front = s.front;
        rest = s.rest;
        whole = s.whole;
        count = omega (arith, ap length s.whole, length-append s.front s.rest, s.count);
        begins = (s.value, s.more, s.written);
        shallow = some_there (left 200 s.front) s.even;
        next = stuck_next ts s.front s.rest k s.whole s.count h;
      }
  syntax_by ts n (ok x []) h e = absurd (cc)
  syntax_by ts n (ok x (y ∷ r)) h e =
      let s = (exact (length ts)).sound ts x (y ∷ r) (omega arith) h in
      let k : suc (length r) ≡ n = cc in
      record {
        front = s.front;
        rest = y ∷ r;
        whole = s.whole;
        count = omega (arith, ap length s.whole, length-append s.front (y ∷ r), k);
        begins = (x, [], subst (G x) (sym (append_nil s.front)) s.written);
        shallow = is_some_of (left 200 s.front) 200 s.even;
        next = early_next x s.front y r (sym (ap p s.whole) ∙ h);
      }
  syntax_by ts n (deep k) h e = absurd (cc)

  -- the first token that cannot stand there
  pub whole_syntax : (ts : Tokens) (n : ℕ) → (p >>= finish) ts ≡ bad n → SyntaxAt G ts (length ts - n)
  whole_syntax ts n h = syntax_by ts n (p ts) refl h

  deep_by : (ts : Tokens) (n : ℕ) (o : Out A) → p ts ≡ o → and_then o finish ≡ deep n → DeepAt G ts (length ts - n - 1)
  deep_by ts n (bad k) h e = absurd (cc)
  deep_by ts n (ok x []) h e = absurd (cc)
  deep_by ts n (ok x (y ∷ r)) h e = absurd (cc)
  deep_by ts n (deep k) h e =
      let same : k ≡ n = cc in
      let s = (exact (length ts)).passed ts k (omega arith) h in
      record {
        front = s.front;
        opening = s.opening;
        rest = s.rest;
        whole = s.whole;
        count = omega (arith, ap length s.whole, length-append s.front (s.opening ∷ s.rest), s.count);
        begins = (s.value, s.more, subst (G s.value) (sym (append_assoc s.front (s.opening ∷ []) s.more)) s.written);
        shallow = is_some_of (left 200 s.front) 0 s.edge;
        passes = passes_at s.front s.opening s.edge s.opener;
      }

  pub whole_deep : (ts : Tokens) (n : ℕ) → (p >>= finish) ts ≡ deep n → DeepAt G ts (length ts - n - 1)
  whole_deep ts n h = deep_by ts n (p ts) refl h

  found_by : (ts : Tokens) (x : A) (r : Tokens) (o : Out A) → p ts ≡ o → and_then o finish ≡ ok x r → G x ts × IsShallow ts
  found_by ts x r (bad k) h e = absurd (cc)
  found_by ts x r (deep k) h e = absurd (cc)
  found_by ts x r (ok y (z ∷ s)) h e = absurd (cc)
  found_by ts x r (ok y []) h e =
      let same : y ≡ x = cc in
      let s = (exact (length ts)).sound ts y [] (omega arith) h in
      let all : ts ≡ s.front = s.whole ∙ append_nil s.front in
      subst (λ (v : A). G v ts × IsShallow ts) same
      (subst (λ (v : Tokens). G y v × IsShallow v) (sym all) (s.written, is_some_of (left 200 s.front) 200 s.even))

  pub whole_found : (ts : Tokens) (x : A) (r : Tokens) → (p >>= finish) ts ≡ ok x r → G x ts × IsShallow ts
  whole_found ts x r h = found_by ts x r (p ts) refl h

  -- the one value that is written so is read
  pub whole_only : (ts : Tokens) (x : A) → G x ts → IsShallow ts → (p >>= finish) ts ≡ ok x []
  whole_only ts x g s = elim (reads_all x ts g) as (λ _. and_then (p ts) finish ≡ ok x []) [
    | inl e ↦ ap (λ o. and_then o finish) e
    | inr e ↦ absurd (not_none (subst (λ (o : Option ℕ). IsSome o) e.1 s))
  ]

  -- two values that are written as the same tokens, with their places, are one
  pub one_value : (ts : Tokens) (x y : A) → G x ts → G y ts → IsShallow ts → x ≡ y
  one_value ts x y g h s = let a = whole_only ts x g s in let b = whole_only ts y h s in let e : ok x [] ≡ ok y [] = sym a ∙ b in cc

  -- a fault leaves no more than there is
  pub syntax_left : (ts : Tokens) (n : ℕ) → (p >>= finish) ts ≡ bad n → n ≤ length ts
  syntax_left ts n h = left_by ts n (p ts) refl h
    where
      left_by : (ts : Tokens) (n : ℕ) (o : Out A) → p ts ≡ o → and_then o finish ≡ bad n → n ≤ length ts
      left_by ts n (bad k) h e =
          let same : k ≡ n = cc in
          let s = (exact (length ts)).wrong ts k (omega arith) h in
          omega (arith, ap length s.whole, length-append s.front s.rest, s.count)
      left_by ts n (ok x []) h e = absurd (cc)
      left_by ts n (ok x (y ∷ r)) h e =
          let s = (exact (length ts)).sound ts x (y ∷ r) (omega arith) h in
          let k : suc (length r) ≡ n = cc in
          omega (arith, ap length s.whole, length-append s.front (y ∷ r), k)
      left_by ts n (deep k) h e = absurd (cc)

  pub deep_left : (ts : Tokens) (n : ℕ) → (p >>= finish) ts ≡ deep n → suc n ≤ length ts
  deep_left ts n h = left_by ts n (p ts) refl h
    where
      left_by : (ts : Tokens) (n : ℕ) (o : Out A) → p ts ≡ o → and_then o finish ≡ deep n → suc n ≤ length ts
      left_by ts n (bad k) h e = absurd (cc)
      left_by ts n (ok x []) h e = absurd (cc)
      left_by ts n (ok x (y ∷ r)) h e = absurd (cc)
      left_by ts n (deep k) h e =
          let same : k ≡ n = cc in
          let s = (exact (length ts)).passed ts k (omega arith) h in
          omega (arith, ap length s.whole, length-append s.front (s.opening ∷ s.rest), s.count)

  pub only_bad : (ts : Tokens) (n : ℕ) (x : A) → (p >>= finish) ts ≡ bad n → G x ts → IsShallow ts → ⊥
  only_bad ts n x h g s = let e : bad n ≡ ok x [] = sym h ∙ whole_only ts x g s in cc

  pub only_deep : (ts : Tokens) (n : ℕ) (x : A) → (p >>= finish) ts ≡ deep n → G x ts → IsShallow ts → ⊥
  only_deep ts n x h g s = let e : deep n ≡ ok x [] = sym h ∙ whole_only ts x g s in cc

  pub only_ok : (ts : Tokens) (x y : A) → (p >>= finish) ts ≡ ok y [] → G x ts → IsShallow ts → y ≡ x
  only_ok ts x y h g s = let e : ok y [] ≡ ok x [] = sym h ∙ whole_only ts x g s in cc

  answer_by : (ts : Tokens) (o : Out A) → (p >>= finish) ts ≡ o → HasAnswer G ts
  answer_by ts (ok x r) h = let found = whole_found ts x r h in inl (x, found.0, found.1)
  answer_by ts (bad n) h = inr (inl (length ts - n, whole_syntax ts n h))
  answer_by ts (deep n) h = inr (inr (length ts - n - 1, whole_deep ts n h))

  -- every list of tokens has an answer
  pub some_answer : (ts : Tokens) → HasAnswer G ts
  some_answer ts = answer_by ts ((p >>= finish) ts) refl
