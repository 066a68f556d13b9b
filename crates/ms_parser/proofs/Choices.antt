-- That a token, a choice by the next token, and a check of what comes next make exact parsers.
use Rattle.std.proofs.Common.{◌≡◌, ℕ, suc, ◌≤◌, [], ◌∷◌, ◌++◌, length, Option, Some, None, Bool, true, false, refl, sym, ap, ◌∙◌, subst, length-append, arith, ◌⊎◌, inl, inr}
use Rattle.std.specs.Prelude.{option_and_then, if◌then◌else◌}
use Rattle.ms_syntax.specs.declared.token.Token.{Token}
use Rattle.ms_syntax.specs.declared.token.Spanned.{Spanned}
use Rattle.ms_syntax.specs.Grammar.{Tokens, opens, closes, left, left_after}
use Rattle.ms_cursor.specs.Reading.{Out, ok, bad, deep, Parser, pick}
use Rattle.ms_parser.proofs.Cases.{by, must, enter, sealed}
use Rattle.ms_parser.proofs.Exact.{cut_same, Stops, nobody, SameHead, IsThere, IsDeep, Found, Stuck, Passes, Exact, Just, One, Cases}

-- ---- one token

module _ {A : Type 0} (n d e : ℕ) (I : Token → Bool) (f : Token → Option A) (y0 : Spanned) (a0 : A) (here : f y0.token ≡ Some a0)
    (clear : (y : Spanned) (a : A) → f y.token ≡ Some a → I y.token ≡ false) where
  one_starts : (x : A × Spanned) (w r : Tokens) → (One f) x w → Stops nobody r → Stops I (w ++ r)
  one_starts x w r g stop = subst (λ (v : Tokens). Stops I (v ++ r)) (sym g.0) (clear x.1 x.0 g.1)

  module _ (step : (y : Spanned) (a : A) → f y.token ≡ Some a → left_after d y.token ≡ Some e) where
    one_left : (y : Spanned) (a : A) → f y.token ≡ Some a → left d (y ∷ []) ≡ Some e
    one_left y a h = ap (option_and_then (λ m. left m [])) (step y a h)

    must_found : (y : Spanned) (m : Tokens) (x : A × Spanned) (r : Tokens) (o : Option A) → f y.token ≡ o → pick o (λ a. ok (a, y) m) (bad (suc (length m))) ≡ ok x r → Found d e (One f) (y ∷ m) x r
    must_found y m x r None t h = absurd (cc)
    must_found y m x r (Some a) t h =
        let value : ◌≡◌ {A = A × Spanned} (a, y) x = cc in
        let rest : m ≡ r = cc in
        let P : A × Spanned → Type 0 = λ z. Found d e (One f) (y ∷ m) z r in
        subst P value (record { front = y ∷ []; whole = ap (λ v. y ∷ v) rest; written = (refl, t); even = one_left y a t })

    must_sound : (ts : Tokens) (x : A × Spanned) (r : Tokens) → length ts ≤ n → must f ts ≡ ok x r → Found d e (One f) ts x r
    must_sound [] x r fits h = absurd (cc)
    must_sound (y ∷ m) x r fits h = must_found y m x r (f y.token) refl h

    must_at : (y : Spanned) (m : Tokens) (a : A) → f y.token ≡ Some a → must f (y ∷ m) ≡ ok (a, y) m
    must_at y m a h = ap (λ o. pick o (λ a. ok (a, y) m) (bad (suc (length m)))) h

    must_right : (x : A × Spanned) (w r : Tokens) → length (w ++ r) ≤ n → (One f) x w → Stops nobody r → (must f (w ++ r) ≡ ok x r) ⊎ (IsDeep (must f (w ++ r)) × (left d w ≡ None))
    must_right x w r fits g stop = inl (ap (λ v. must f (v ++ r)) g.0 ∙ must_at x.1 r x.0 g.1)

    one_stuck : (ts : Tokens) (k : ℕ) → length ts ≡ k → Stuck d (One f) ts k
    one_stuck ts k h = record { front = []; rest = ts; whole = refl; count = h; value = (a0, y0); more = y0 ∷ []; written = (refl, here); even = tt }

    must_stuck : (y : Spanned) (m : Tokens) (k : ℕ) (o : Option A) → pick {B = A × Spanned} o (λ a. ok (a, y) m) (bad (suc (length m))) ≡ bad k → Stuck d (One f) (y ∷ m) k
    must_stuck y m k None h = one_stuck (y ∷ m) k (cc)
    must_stuck y m k (Some a) h = absurd (cc)

    must_wrong : (ts : Tokens) (k : ℕ) → length ts ≤ n → must f ts ≡ bad k → Stuck d (One f) ts k
    must_wrong [] k fits h = one_stuck [] k (cc)
    must_wrong (y ∷ m) k fits h = must_stuck y m k (f y.token) h

    must_not_deep : (y : Spanned) (m : Tokens) (k : ℕ) (o : Option A) → pick {B = A × Spanned} o (λ a. ok (a, y) m) (bad (suc (length m))) ≡ deep k → ⊥
    must_not_deep y m k None h = cc
    must_not_deep y m k (Some a) h = cc

    must_passed : (ts : Tokens) (k : ℕ) → length ts ≤ n → must f ts ≡ deep k → Passes d (One f) ts k
    must_passed [] k fits h = absurd (cc)
    must_passed (y ∷ m) k fits h = absurd (must_not_deep y m k (f y.token) h)

    refuses : (y : Spanned) (m m2 : Tokens) (k : ℕ) (o : Option A) → pick {B = A × Spanned} o (λ a. ok (a, y) m) (bad (suc (length m))) ≡ bad k → pick {B = A × Spanned} o (λ a. ok (a, y) m2) (bad (suc (length m2))) ≡ bad (suc (length m2))
    refuses y m m2 k None h = refl
    refuses y m m2 k (Some a) h = absurd (cc)

    short : (y : Spanned) (m b : Tokens) (o : Option A) → pick {B = A × Spanned} o (λ a. ok (a, y) (m ++ b)) (bad (suc (length (m ++ b)))) ≡ bad (length b) → ⊥
    short y m b None h = let k : suc (length (m ++ b)) ≡ length b = cc in omega (arith, k, length-append m b)
    short y m b (Some a) h = cc

    must_frozen : (w b c : Tokens) → length (w ++ b) ≤ n → length (w ++ c) ≤ n → must f (w ++ b) ≡ bad (length b) → SameHead b c → must f (w ++ c) ≡ bad (length c)
    must_frozen [] [] [] fits fits2 h same = refl
    must_frozen [] [] (z ∷ c) fits fits2 h same = absurd same
    must_frozen [] (y ∷ b) [] fits fits2 h same = absurd same
    must_frozen [] (y ∷ b) (z ∷ c) fits fits2 h same =
        let P : Spanned → Type 0 = λ x. must f (x ∷ c) ≡ bad (suc (length c)) in
        subst P same (refuses y b c (suc (length b)) (f y.token) h)
    must_frozen (y ∷ w) b c fits fits2 h same = absurd (short y w b (f y.token) h)

    must_again : (x : A × Spanned) (y : Spanned) (w b c : Tokens) (o : Option A) → pick o (λ a. ok (a, y) (w ++ b)) (bad (suc (length (w ++ b)))) ≡ ok x b → pick o (λ a. ok (a, y) (w ++ c)) (bad (suc (length (w ++ c)))) ≡ ok x c
    must_again x y w b c None h = absurd (cc)
    must_again x y w b c (Some a) h =
        let value : ◌≡◌ {A = A × Spanned} (a, y) x = cc in
        let rest : w ++ b ≡ b = cc in
        ap (λ v. ok v (w ++ c)) value ∙ ap (λ v. ok x (v ++ c)) (cut_same w [] b b rest refl).0

    must_taken : (x : A × Spanned) (y : Spanned) (b : Tokens) (o : Option A) → pick o (λ a. ok (a, y) b) (bad (suc (length b))) ≡ ok x (y ∷ b) → ⊥
    must_taken x y b None h = cc
    must_taken x y b (Some a) h = let k : b ≡ y ∷ b = cc in omega (arith, ap length k)

    must_steady : (x : A × Spanned) (w b c : Tokens) → length (w ++ b) ≤ n → length (w ++ c) ≤ n → must f (w ++ b) ≡ ok x b → SameHead b c → must f (w ++ c) ≡ ok x c
    must_steady x [] [] c fits fits2 h same = absurd (cc)
    must_steady x [] (y ∷ b) c fits fits2 h same = absurd (must_taken x y b (f y.token) h)
    must_steady x (y ∷ w) b c fits fits2 h same = must_again x y w b c (f y.token) h

    pub must_exact : Exact n d e I nobody (One f) (must f)
    must_exact = record { witness = ((a0, y0), y0 ∷ [], (refl, here)); starts = one_starts; sound = must_sound; right = must_right; wrong = must_wrong; passed = must_passed; steady = must_steady; frozen = must_frozen }

  -- a token that opens
  module _ (needs : (y : Spanned) (a : A) → f y.token ≡ Some a → opens y.token ≡ true) where
    shut_by : (y : Spanned) → opens y.token ≡ true → left 0 (y ∷ []) ≡ None
    shut_by y h = ap (λ b. option_and_then (λ m. left m []) (if b then None else (if closes y.token then Some 1 else Some 0))) h

    enter_not_ok : (y : Spanned) (m : Tokens) (x : A × Spanned) (r : Tokens) (o : Option A) → pick o (λ a. deep (length m)) (bad (suc (length m))) ≡ ok x r → ⊥
    enter_not_ok y m x r None h = cc
    enter_not_ok y m x r (Some a) h = cc

    enter_sound : (ts : Tokens) (x : A × Spanned) (r : Tokens) → length ts ≤ n → enter 0 f ts ≡ ok x r → Found 0 e (One f) ts x r
    enter_sound [] x r fits h = absurd (cc)
    enter_sound (y ∷ m) x r fits h = absurd (enter_not_ok y m x r (f y.token) h)

    enter_right : (x : A × Spanned) (w r : Tokens) → length (w ++ r) ≤ n → (One f) x w → Stops nobody r → (enter 0 f (w ++ r) ≡ ok x r) ⊎ (IsDeep (enter 0 f (w ++ r)) × (left 0 w ≡ None))
    enter_right x w r fits g stop =
        let is_deep : enter 0 f (w ++ r) ≡ deep (length r) = ap (λ v. enter 0 f (v ++ r)) g.0 ∙ ap (λ o. pick {B = A × Spanned} o (λ a. deep (length r)) (bad (suc (length r)))) g.1 in
        inr (subst (λ (o : Out (A × Spanned)). IsDeep o) (sym is_deep) tt, ap (left 0) g.0 ∙ shut_by x.1 (needs x.1 x.0 g.1))

    enter_stuck : (ts : Tokens) (k : ℕ) → length ts ≡ k → Stuck 0 (One f) ts k
    enter_stuck ts k h = record { front = []; rest = ts; whole = refl; count = h; value = (a0, y0); more = y0 ∷ []; written = (refl, here); even = tt }

    enter_stuck_at : (y : Spanned) (m : Tokens) (k : ℕ) (o : Option A) → pick {B = A × Spanned} o (λ a. deep (length m)) (bad (suc (length m))) ≡ bad k → Stuck 0 (One f) (y ∷ m) k
    enter_stuck_at y m k None h = enter_stuck (y ∷ m) k (cc)
    enter_stuck_at y m k (Some a) h = absurd (cc)

    enter_wrong : (ts : Tokens) (k : ℕ) → length ts ≤ n → enter 0 f ts ≡ bad k → Stuck 0 (One f) ts k
    enter_wrong [] k fits h = enter_stuck [] k (cc)
    enter_wrong (y ∷ m) k fits h = enter_stuck_at y m k (f y.token) h

    enter_over : (y : Spanned) (m : Tokens) (k : ℕ) (o : Option A) → f y.token ≡ o → pick {B = A × Spanned} o (λ a. deep (length m)) (bad (suc (length m))) ≡ deep k → Passes 0 (One f) (y ∷ m) k
    enter_over y m k None t h = absurd (cc)
    enter_over y m k (Some a) t h = record { front = []; opening = y; rest = m; whole = refl; count = cc; value = (a, y); more = []; written = (refl, t); edge = refl; opener = needs y a t }

    enter_passed : (ts : Tokens) (k : ℕ) → length ts ≤ n → enter 0 f ts ≡ deep k → Passes 0 (One f) ts k
    enter_passed [] k fits h = absurd (cc)
    enter_passed (y ∷ m) k fits h = enter_over y m k (f y.token) refl h

    enter_refuses : (y : Spanned) (m m2 : Tokens) (k : ℕ) (o : Option A) → pick {B = A × Spanned} o (λ a. deep (length m)) (bad (suc (length m))) ≡ bad k → pick {B = A × Spanned} o (λ a. deep (length m2)) (bad (suc (length m2))) ≡ bad (suc (length m2))
    enter_refuses y m m2 k None h = refl
    enter_refuses y m m2 k (Some a) h = absurd (cc)

    enter_short : (y : Spanned) (m b : Tokens) (o : Option A) → pick {B = A × Spanned} o (λ a. deep (length (m ++ b))) (bad (suc (length (m ++ b)))) ≡ bad (length b) → ⊥
    enter_short y m b None h = let k : suc (length (m ++ b)) ≡ length b = cc in omega (arith, k, length-append m b)
    enter_short y m b (Some a) h = cc

    enter_frozen : (w b c : Tokens) → length (w ++ b) ≤ n → length (w ++ c) ≤ n → enter 0 f (w ++ b) ≡ bad (length b) → SameHead b c → enter 0 f (w ++ c) ≡ bad (length c)
    enter_frozen [] [] [] fits fits2 h same = refl
    enter_frozen [] [] (z ∷ c) fits fits2 h same = absurd same
    enter_frozen [] (y ∷ b) [] fits fits2 h same = absurd same
    enter_frozen [] (y ∷ b) (z ∷ c) fits fits2 h same =
        let P : Spanned → Type 0 = λ x. enter 0 f (x ∷ c) ≡ bad (suc (length c)) in
        subst P same (enter_refuses y b c (suc (length b)) (f y.token) h)
    enter_frozen (y ∷ w) b c fits fits2 h same = absurd (enter_short y w b (f y.token) h)

    enter_steady : (x : A × Spanned) (w b c : Tokens) → length (w ++ b) ≤ n → length (w ++ c) ≤ n → enter 0 f (w ++ b) ≡ ok x b → SameHead b c → enter 0 f (w ++ c) ≡ ok x c
    enter_steady x [] [] c fits fits2 h same = absurd (cc)
    enter_steady x [] (y ∷ b) c fits fits2 h same = absurd (enter_not_ok y b x (y ∷ b) (f y.token) h)
    enter_steady x (y ∷ w) b c fits fits2 h same = absurd (enter_not_ok y (w ++ b) x b (f y.token) h)

    pub enter_exact : Exact n 0 e I nobody (One f) (enter 0 f)
    enter_exact = record { witness = ((a0, y0), y0 ∷ [], (refl, here)); starts = one_starts; sound = enter_sound; right = enter_right; wrong = enter_wrong; passed = enter_passed; steady = enter_steady; frozen = enter_frozen }

-- ---- a choice by the next token

abbrev pub some_or : {A : Type 0} → Option A → Bool → Bool
some_or None b = b
some_or (Some a) b = true

-- a token of f, or of I
abbrev pub either : {A : Type 0} → (Token → Option A) → (Token → Bool) → Token → Bool
either f i t = some_or (f t) (i t)

or_second : {A : Type 0} (o : Option A) (b : Bool) → some_or o b ≡ false → b ≡ false
or_second None b h = h
or_second (Some a) b h = absurd (cc)

or_less : {A : Type 0} (o : Option A) (b c : Bool) → (b ≡ false → c ≡ false) → some_or o b ≡ false → some_or o c ≡ false
or_less None b c g h = g h
or_less (Some a) b c g h = absurd (cc)

-- what is neither is none of I
pub either_second : {A : Type 0} (f : Token → Option A) (I : Token → Bool) (t : Token) → either f I t ≡ false → I t ≡ false
either_second f I t h = or_second (f t) (I t) h

pub either_less : {A : Type 0} (f : Token → Option A) (I J : Token → Bool) (t : Token) → (I t ≡ false → J t ≡ false) → either f I t ≡ false → either f J t ≡ false
either_less f I J t g h = or_less (f t) (I t) (J t) g h

module _ {A B : Type 0} (n m d e d' : ℕ) (less : n ≤ suc m) (I E : Token → Bool) (f : Token → Option A) (P : A → Spanned → B → Tokens → Type 0) (Q : B → Tokens → Type 0)
    (p : A → Spanned → Parser B) (q : Parser B)
    (clear : (y : Spanned) (a : A) → f y.token ≡ Some a → I y.token ≡ false)
    (step : (y : Spanned) (a : A) → f y.token ≡ Some a → left_after d y.token ≡ Some e)
    (one : (a : A) (y : Spanned) → f y.token ≡ Some a → Exact m e d' nobody E (P a y) (p a y)) (two : Exact n d d' (either f I) E Q q) where
  left_step : (y : Spanned) (a : A) (v : Tokens) → f y.token ≡ Some a → left d (y ∷ v) ≡ left e v
  left_step y a v h = ap (option_and_then (λ k. left k v)) (step y a h)

  or_is_none : (o : Option A) (b : Bool) → some_or o b ≡ false → o ≡ None
  or_is_none None b h = refl
  or_is_none (Some a) b h = absurd (cc)

  or_is_clear : (o : Option A) (b : Bool) → some_or o b ≡ false → b ≡ false
  or_is_clear None b h = h
  or_is_clear (Some a) b h = absurd (cc)

  or_clear : (r : Tokens) → Stops (either f I) r → Stops I r
  or_clear [] s = tt
  or_clear (y ∷ r) s = or_is_clear (f y.token) (I y.token) s

  by_starts : (x : B) (w r : Tokens) → (Cases f P Q) x w → Stops E r → Stops I (w ++ r)
  by_starts x w r (inl (a, y, v, s, h, g)) halt = subst (λ (u : Tokens). Stops I (u ++ r)) (sym s) (clear y a h)
  by_starts x w r (inr g) halt = or_clear (w ++ r) (two.starts x w r g halt)

  ahead_found : (y : Spanned) (ts : Tokens) (x : B) (r : Tokens) (a : A) → f y.token ≡ Some a → Found e d' (P a y) ts x r → Found d d' (Cases f P Q) (y ∷ ts) x r
  ahead_found y ts x r a t g = record { front = y ∷ g.front; whole = ap (λ v. y ∷ v) g.whole; written = inl (a, y, g.front, refl, t, g.written); even = left_step y a g.front t ∙ g.even }

  other_found : (ts : Tokens) (x : B) (r : Tokens) → Found d d' Q ts x r → Found d d' (Cases f P Q) ts x r
  other_found ts x r g = record { front = g.front; whole = g.whole; written = inr g.written; even = g.even }

  sound_at : (y : Spanned) (ts : Tokens) (x : B) (r : Tokens) (o : Option A) → f y.token ≡ o → length (y ∷ ts) ≤ n → pick o (λ a. p a y ts) (q (y ∷ ts)) ≡ ok x r → Found d d' (Cases f P Q) (y ∷ ts) x r
  sound_at y ts x r None t fits h = other_found (y ∷ ts) x r (two.sound (y ∷ ts) x r fits h)
  sound_at y ts x r (Some a) t fits h = ahead_found y ts x r a t ((one a y t).sound ts x r (omega arith) h)

  by_sound : (ts : Tokens) (x : B) (r : Tokens) → length ts ≤ n → by f p q ts ≡ ok x r → Found d d' (Cases f P Q) ts x r
  by_sound [] x r fits h = other_found [] x r (two.sound [] x r fits h)
  by_sound (y ∷ ts) x r fits h = sound_at y ts x r (f y.token) refl fits h

  ahead_stuck : (y : Spanned) (ts : Tokens) (k : ℕ) (a : A) → f y.token ≡ Some a → Stuck e (P a y) ts k → Stuck d (Cases f P Q) (y ∷ ts) k
  ahead_stuck y ts k a t g = record {
    front = y ∷ g.front;
    rest = g.rest;
    whole = ap (λ v. y ∷ v) g.whole;
    count = g.count;
    value = g.value;
    more = g.more;
    written = inl (a, y, g.front ++ g.more, refl, t, g.written);
    even = subst IsThere (sym (left_step y a g.front t)) g.even;
  }

  other_stuck : (ts : Tokens) (k : ℕ) → Stuck d Q ts k → Stuck d (Cases f P Q) ts k
  other_stuck ts k g = record { front = g.front; rest = g.rest; whole = g.whole; count = g.count; value = g.value; more = g.more; written = inr g.written; even = g.even }

  wrong_at : (y : Spanned) (ts : Tokens) (k : ℕ) (o : Option A) → f y.token ≡ o → length (y ∷ ts) ≤ n → pick o (λ a. p a y ts) (q (y ∷ ts)) ≡ bad k → Stuck d (Cases f P Q) (y ∷ ts) k
  wrong_at y ts k None t fits h = other_stuck (y ∷ ts) k (two.wrong (y ∷ ts) k fits h)
  wrong_at y ts k (Some a) t fits h = ahead_stuck y ts k a t ((one a y t).wrong ts k (omega arith) h)

  by_wrong : (ts : Tokens) (k : ℕ) → length ts ≤ n → by f p q ts ≡ bad k → Stuck d (Cases f P Q) ts k
  by_wrong [] k fits h = other_stuck [] k (two.wrong [] k fits h)
  by_wrong (y ∷ ts) k fits h = wrong_at y ts k (f y.token) refl fits h

  ahead_over : (y : Spanned) (ts : Tokens) (k : ℕ) (a : A) → f y.token ≡ Some a → Passes e (P a y) ts k → Passes d (Cases f P Q) (y ∷ ts) k
  ahead_over y ts k a t g = record {
    front = y ∷ g.front;
    opening = g.opening;
    rest = g.rest;
    whole = ap (λ v. y ∷ v) g.whole;
    count = g.count;
    value = g.value;
    more = g.more;
    written = inl (a, y, g.front ++ g.opening ∷ g.more, refl, t, g.written);
    edge = left_step y a g.front t ∙ g.edge;
    opener = g.opener;
  }

  other_over : (ts : Tokens) (k : ℕ) → Passes d Q ts k → Passes d (Cases f P Q) ts k
  other_over ts k g = record { front = g.front; opening = g.opening; rest = g.rest; whole = g.whole; count = g.count; value = g.value; more = g.more; written = inr g.written; edge = g.edge; opener = g.opener }

  passed_at : (y : Spanned) (ts : Tokens) (k : ℕ) (o : Option A) → f y.token ≡ o → length (y ∷ ts) ≤ n → pick o (λ a. p a y ts) (q (y ∷ ts)) ≡ deep k → Passes d (Cases f P Q) (y ∷ ts) k
  passed_at y ts k None t fits h = other_over (y ∷ ts) k (two.passed (y ∷ ts) k fits h)
  passed_at y ts k (Some a) t fits h = ahead_over y ts k a t ((one a y t).passed ts k (omega arith) h)

  by_passed : (ts : Tokens) (k : ℕ) → length ts ≤ n → by f p q ts ≡ deep k → Passes d (Cases f P Q) ts k
  by_passed [] k fits h = other_over [] k (two.passed [] k fits h)
  by_passed (y ∷ ts) k fits h = passed_at y ts k (f y.token) refl fits h

  taken : (y : Spanned) (ts : Tokens) (a : A) → f y.token ≡ Some a → by f p q (y ∷ ts) ≡ p a y ts
  taken y ts a h = ap (λ o. pick o (λ a. p a y ts) (q (y ∷ ts))) h

  other : (y : Spanned) (ts : Tokens) → f y.token ≡ None → by f p q (y ∷ ts) ≡ q (y ∷ ts)
  other y ts h = ap (λ o. pick o (λ a. p a y ts) (q (y ∷ ts))) h

  skipped : (ts : Tokens) → Stops (either f I) ts → by f p q ts ≡ q ts
  skipped [] s = refl
  skipped (y ∷ ts) s = other y ts (or_is_none (f y.token) (I y.token) s)

  by_right : (x : B) (w r : Tokens) → length (w ++ r) ≤ n → (Cases f P Q) x w → Stops E r → (by f p q (w ++ r) ≡ ok x r) ⊎ (IsDeep (by f p q (w ++ r)) × (left d w ≡ None))
  by_right x w r fits (inr g) halt =
      let same = skipped (w ++ r) (two.starts x w r g halt) in
      elim (two.right x w r fits g halt) as (λ _. (by f p q (w ++ r) ≡ ok x r) ⊎ (IsDeep (by f p q (w ++ r)) × (left d w ≡ None))) [
        | inl a ↦ inl (same ∙ a)
        | inr a ↦ inr (subst (λ (o : Out B). IsDeep o) (sym same) a.0, a.1)
      ]
  by_right x w r fits (inl (a, y, v, s, h, g)) halt =
      let R : Tokens → Type 0 = λ u. (by f p q (u ++ r) ≡ ok x r) ⊎ (IsDeep (by f p q (u ++ r)) × (left d u ≡ None)) in
      let fits2 : length (y ∷ (v ++ r)) ≤ n = subst (λ (u : Tokens). length (u ++ r) ≤ n) s fits in
      let same = taken y (v ++ r) a h in
      let cons : R (y ∷ v) = elim ((one a y h).right x v r (omega (arith, fits2)) g halt) as (λ _. R (y ∷ v)) [
        | inl k ↦ inl (same ∙ k)
        | inr k ↦ inr (subst (λ (o : Out B). IsDeep o) (sym same) k.0, left_step y a v h ∙ k.1)
      ] in
      subst R (sym s) cons

  frozen_at : (y : Spanned) (w b c : Tokens) (o : Option A) → f y.token ≡ o → length (y ∷ (w ++ b)) ≤ n → length (y ∷ (w ++ c)) ≤ n → pick o (λ a. p a y (w ++ b)) (q (y ∷ (w ++ b))) ≡ bad (length b) → SameHead b c → pick o (λ a. p a y (w ++ c)) (q (y ∷ (w ++ c))) ≡ bad (length c)
  frozen_at y w b c None t fits fits2 h same = two.frozen (y ∷ w) b c fits fits2 h same
  frozen_at y w b c (Some a) t fits fits2 h same = (one a y t).frozen w b c (omega arith) (omega arith) h same

  longer : (y : Spanned) (b : Tokens) (o : Option A) → f y.token ≡ o → length (y ∷ b) ≤ n → pick o (λ a. p a y b) (q (y ∷ b)) ≡ bad (suc (length b)) → o ≡ None
  longer y b None t fits h = refl
  longer y b (Some a) t fits h =
      let g = (one a y t).wrong b (suc (length b)) (omega arith) h in
      absurd (omega (arith, ap length g.whole, length-append g.front g.rest, g.count))

  by_frozen : (w b c : Tokens) → length (w ++ b) ≤ n → length (w ++ c) ≤ n → by f p q (w ++ b) ≡ bad (length b) → SameHead b c → by f p q (w ++ c) ≡ bad (length c)
  by_frozen [] [] [] fits fits2 h same = h
  by_frozen [] [] (z ∷ c) fits fits2 h same = absurd same
  by_frozen [] (y ∷ b) [] fits fits2 h same = absurd same
  by_frozen [] (y ∷ b) (z ∷ c) fits fits2 h same =
      let none = longer y b (f y.token) refl fits h in
      let P : Spanned → Type 0 = λ x. by f p q (x ∷ c) ≡ bad (suc (length c)) in
      subst P same (other y c none ∙ two.frozen [] (y ∷ b) (y ∷ c) fits (omega (arith, fits2)) (sym (other y b none) ∙ h) refl)
  by_frozen (y ∷ w) b c fits fits2 h same = frozen_at y w b c (f y.token) refl fits fits2 h same

  steady_at : (x : B) (y : Spanned) (w b c : Tokens) (o : Option A) → f y.token ≡ o → length (y ∷ (w ++ b)) ≤ n → length (y ∷ (w ++ c)) ≤ n → pick o (λ a. p a y (w ++ b)) (q (y ∷ (w ++ b))) ≡ ok x b → SameHead b c → pick o (λ a. p a y (w ++ c)) (q (y ∷ (w ++ c))) ≡ ok x c
  steady_at x y w b c None t fits fits2 h same = two.steady x (y ∷ w) b c fits fits2 h same
  steady_at x y w b c (Some a) t fits fits2 h same = (one a y t).steady x w b c (omega arith) (omega arith) h same

  untaken : (x : B) (y : Spanned) (b : Tokens) (o : Option A) → f y.token ≡ o → length (y ∷ b) ≤ n → pick o (λ a. p a y b) (q (y ∷ b)) ≡ ok x (y ∷ b) → o ≡ None
  untaken x y b None t fits h = refl
  untaken x y b (Some a) t fits h =
      let g = (one a y t).sound b x (y ∷ b) (omega arith) h in
      absurd (omega (arith, ap length g.whole, length-append g.front (y ∷ b)))

  by_steady : (x : B) (w b c : Tokens) → length (w ++ b) ≤ n → length (w ++ c) ≤ n → by f p q (w ++ b) ≡ ok x b → SameHead b c → by f p q (w ++ c) ≡ ok x c
  by_steady x [] [] [] fits fits2 h same = h
  by_steady x [] [] (z ∷ c) fits fits2 h same = absurd same
  by_steady x [] (y ∷ b) [] fits fits2 h same = absurd same
  by_steady x [] (y ∷ b) (z ∷ c) fits fits2 h same =
      let none = untaken x y b (f y.token) refl fits h in
      let P : Spanned → Type 0 = λ v. by f p q (v ∷ c) ≡ ok x (v ∷ c) in
      subst P same (other y c none ∙ two.steady x [] (y ∷ b) (y ∷ c) fits (omega (arith, fits2)) (sym (other y b none) ∙ h) refl)
  by_steady x (y ∷ w) b c fits fits2 h same = steady_at x y w b c (f y.token) refl fits fits2 h same

  by_witness : (x : B) × (w : Tokens) × (Cases f P Q) x w
  by_witness = (two.witness.0, two.witness.1, inr two.witness.2)

  pub by_exact : Exact n d d' I E (Cases f P Q) (by f p q)
  by_exact = record { witness = by_witness; starts = by_starts; sound = by_sound; right = by_right; wrong = by_wrong; passed = by_passed; steady = by_steady; frozen = by_frozen }

-- ---- a check of what comes next

module _ {A B : Type 0} (n d : ℕ) (I : Token → Bool) (f : Token → Option A) (b : B) where
  se_some : (o : Option A) (i : Bool) → some_or o i ≡ false → o ≡ None
  se_some None i h = refl
  se_some (Some a) i h = absurd (cc)

  se_rest : (o : Option A) (i : Bool) → some_or o i ≡ false → i ≡ false
  se_rest None i h = h
  se_rest (Some a) i h = absurd (cc)

  se_clear : (r : Tokens) → Stops (either f I) r → Stops I r
  se_clear [] s = tt
  se_clear (y ∷ r) s = se_rest (f y.token) (I y.token) s

  se_sound_at : (y : Spanned) (ts : Tokens) (x : B) (r : Tokens) (o : Option A) → pick o (λ a. bad (suc (length ts))) (ok b (y ∷ ts)) ≡ ok x r → Found d d (Just b) (y ∷ ts) x r
  se_sound_at y ts x r (Some a) h = absurd (cc)
  se_sound_at y ts x r None h =
      let value : b ≡ x = cc in let rest : y ∷ ts ≡ r = cc in
      record { front = []; whole = rest; written = (sym value, refl); even = refl }

  se_sound : (ts : Tokens) (x : B) (r : Tokens) → length ts ≤ n → sealed f b ts ≡ ok x r → Found d d (Just b) ts x r
  se_sound [] x r fits h =
      let value : b ≡ x = cc in let rest : [] ≡ r = cc in
      record { front = []; whole = rest; written = (sym value, refl); even = refl }
  se_sound (y ∷ ts) x r fits h = se_sound_at y ts x r (f y.token) h

  se_passes : (r : Tokens) → Stops (either f I) r → sealed f b r ≡ ok b r
  se_passes [] s = refl
  se_passes (y ∷ r) s = ap (λ o. pick o (λ a. bad (suc (length r))) (ok b (y ∷ r))) (se_some (f y.token) (I y.token) s)

  se_right : (x : B) (w r : Tokens) → length (w ++ r) ≤ n → Just b x w → Stops (either f I) r → (sealed f b (w ++ r) ≡ ok x r) ⊎ (IsDeep (sealed f b (w ++ r)) × (left d w ≡ None))
  se_right x w r fits g halt = inl (ap (λ u. sealed f b (u ++ r)) g.1 ∙ se_passes r halt ∙ ap (λ z. ok z r) (sym g.0))

  se_stuck : (y : Spanned) (ts : Tokens) (k : ℕ) (o : Option A) → pick {B = B} o (λ a. bad (suc (length ts))) (ok b (y ∷ ts)) ≡ bad k → Stuck d (Just b) (y ∷ ts) k
  se_stuck y ts k None h = absurd (cc)
  se_stuck y ts k (Some a) h = record { front = []; rest = y ∷ ts; whole = refl; count = cc; value = b; more = []; written = (refl, refl); even = tt }

  se_wrong : (ts : Tokens) (k : ℕ) → length ts ≤ n → sealed f b ts ≡ bad k → Stuck d (Just b) ts k
  se_wrong [] k fits h = absurd (cc)
  se_wrong (y ∷ ts) k fits h = se_stuck y ts k (f y.token) h

  se_deep : (y : Spanned) (ts : Tokens) (k : ℕ) (o : Option A) → pick {B = B} o (λ a. bad (suc (length ts))) (ok b (y ∷ ts)) ≡ deep k → ⊥
  se_deep y ts k None h = cc
  se_deep y ts k (Some a) h = cc

  se_passed : (ts : Tokens) (k : ℕ) → length ts ≤ n → sealed f b ts ≡ deep k → Passes d (Just b) ts k
  se_passed [] k fits h = absurd (cc)
  se_passed (y ∷ ts) k fits h = absurd (se_deep y ts k (f y.token) h)

  se_again : (y : Spanned) (m m2 : Tokens) (k : ℕ) (o : Option A) → pick {B = B} o (λ a. bad (suc (length m))) (ok b (y ∷ m)) ≡ bad k → pick {B = B} o (λ a. bad (suc (length m2))) (ok b (y ∷ m2)) ≡ bad (suc (length m2))
  se_again y m m2 k None h = absurd (cc)
  se_again y m m2 k (Some a) h = refl

  se_short : (y : Spanned) (m c : Tokens) (o : Option A) → pick {B = B} o (λ a. bad (suc (length (m ++ c)))) (ok b (y ∷ (m ++ c))) ≡ bad (length c) → ⊥
  se_short y m c None h = cc
  se_short y m c (Some a) h = let k : suc (length (m ++ c)) ≡ length c = cc in omega (arith, k, length-append m c)

  se_frozen : (w c e : Tokens) → length (w ++ c) ≤ n → length (w ++ e) ≤ n → sealed f b (w ++ c) ≡ bad (length c) → SameHead c e → sealed f b (w ++ e) ≡ bad (length e)
  se_frozen [] [] [] fits fits2 h same = h
  se_frozen [] [] (z ∷ e) fits fits2 h same = absurd same
  se_frozen [] (y ∷ c) [] fits fits2 h same = absurd same
  se_frozen [] (y ∷ c) (z ∷ e) fits fits2 h same =
      let P : Spanned → Type 0 = λ x. sealed f b (x ∷ e) ≡ bad (suc (length e)) in
      subst P same (se_again y c e (suc (length c)) (f y.token) h)
  se_frozen (y ∷ w) c e fits fits2 h same = absurd (se_short y w c (f y.token) h)

  se_on : (x : B) (y : Spanned) (c e : Tokens) (o : Option A) → pick {B = B} o (λ a. bad (suc (length c))) (ok b (y ∷ c)) ≡ ok x (y ∷ c) → pick {B = B} o (λ a. bad (suc (length e))) (ok b (y ∷ e)) ≡ ok x (y ∷ e)
  se_on x y c e None h = let value : b ≡ x = cc in ap (λ v. ok v (y ∷ e)) value
  se_on x y c e (Some a) h = absurd (cc)

  se_kept : (x : B) (y : Spanned) (m c : Tokens) (o : Option A) → pick {B = B} o (λ a. bad (suc (length (m ++ c)))) (ok b (y ∷ (m ++ c))) ≡ ok x c → ⊥
  se_kept x y m c None h = let k : y ∷ (m ++ c) ≡ c = cc in omega (arith, ap length k, length-append m c)
  se_kept x y m c (Some a) h = cc

  se_steady : (x : B) (w c e : Tokens) → length (w ++ c) ≤ n → length (w ++ e) ≤ n → sealed f b (w ++ c) ≡ ok x c → SameHead c e → sealed f b (w ++ e) ≡ ok x e
  se_steady x [] [] [] fits fits2 h same = h
  se_steady x [] [] (z ∷ e) fits fits2 h same = absurd same
  se_steady x [] (y ∷ c) [] fits fits2 h same = absurd same
  se_steady x [] (y ∷ c) (z ∷ e) fits fits2 h same =
      let P : Spanned → Type 0 = λ v. sealed f b (v ∷ e) ≡ ok x (v ∷ e) in
      subst P same (se_on x y c e (f y.token) h)
  se_steady x (y ∷ w) c e fits fits2 h same = absurd (se_kept x y w c (f y.token) h)

  pub sealed_exact : Exact n d d I (either f I) (Just b) (sealed f b)
  sealed_exact = record {
    witness = (b, [], (refl, refl));
    starts = λ x w r g halt. subst (λ (v : Tokens). Stops I (v ++ r)) (sym g.1) (se_clear r halt);
    sound = se_sound;
    right = se_right;
    wrong = se_wrong;
    passed = se_passed;
    steady = se_steady;
    frozen = se_frozen;
  }
