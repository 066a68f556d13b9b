-- More parts: what is read as often as a token comes, what has a place, and what a bracket that has to come opens.
use Rattle.std.proofs.Common.{◌≡◌, ℕ, zero, suc, ◌≤◌, List, [], ◌∷◌, ◌++◌, length, Option, Some, None, Bool, true, false, refl, sym, ap, ◌∙◌, subst, append_assoc, ◌⊎◌, inl, inr}
use Rattle.std.specs.Prelude.{option_and_then, if◌then◌else◌}
use Rattle.ms_syntax.specs.declared.token.Token.{Token}
use Rattle.ms_syntax.specs.declared.token.Spanned.{Spanned}
use Rattle.ms_syntax.specs.declared.token.Place.{Place}
use Rattle.ms_syntax.specs.Grammar.{Tokens, ◌⋅◌, the, at, from, BeginsAt, opens, closes, left, left_after}
use Rattle.ms_cursor.specs.Reading.{Out, ok, bad, deep, Parser, and_then, ◌>>=◌, pure, pick, tagged, front, after, must, deeper, many, into, enter, placed, place_at}
use Rattle.ms_parser.proofs.Classes.{Class}
use Rattle.ms_parser.proofs.Cases as c
use Rattle.ms_parser.proofs.Exact as e
use Rattle.ms_parser.proofs.Choices as choices
use Rattle.ms_parser.proofs.Exact.{Exact, Seq, Just, One, Many, Found, IsDeep, SameHead, Stops, nobody, append_nil, stops_nobody}
use Rattle.ms_parser.proofs.Choices.{either}
use Rattle.ms_parser.proofs.Read as r
use Rattle.ms_parser.proofs.Parts.{Image, Has, token_at, clear_of, step_of, opens_of, next, take}

-- ---- repeating

pub repeat : {A B : Type 0} {d k : ℕ} {I : Token → Bool} {f : Token → Option A} {t : A → Token} {R : A → Place → B → Tokens → Type 0} {p : A → Place → Parser B} (c : Class f t)
    → ((a : A) → I (t a) ≡ false) → ((a : A) → left_after d (t a) ≡ Some k) → ((n : ℕ) (a : A) (z : Place) → Exact n k d nobody I (R a z) (p a z))
    → (n : ℕ) → Exact n d d I (either f I) (Many f (λ a y. R a y.place)) (many f (λ a y. p a y.place))
repeat {d = d} {k = k} {I = I} {f = f} {t = t} {R = R} {p = p} c clear step one n =
    r.many_exact d k I f (λ a y. R a y.place) (λ a y. p a y.place) (clear_of c I clear) (step_of c d (Some k) step) (λ n a y h. one n a y.place) n

pub repeat_open : {A B : Type 0} {d : ℕ} {I : Token → Bool} {f : Token → Option A} {t : A → Token} {R : A → Place → B → Tokens → Type 0} {p : A → Place → Parser B} (c : Class f t)
    → ((a : A) → I (t a) ≡ false) → ((a : A) → opens (t a) ≡ true) → ((a : A) (z : Place) → Has (R a z))
    → ((k : ℕ) → d ≡ suc k → (n : ℕ) (a : A) (z : Place) → Exact n k (suc k) nobody I (R a z) (p a z))
    → (n : ℕ) → Exact n d d I (either f I) (Many f (λ a y. R a y.place)) (many f (λ a y. deeper d a >>= λ b. p b y.place))
repeat_open {d = d} {I = I} {f = f} {t = t} {R = R} {p = p} c clear opener some one n =
    r.many_open_exact n I f (λ a y. R a y.place) (λ a y. p a y.place) (clear_of c I clear) (opens_of c opener) (λ a y. some a y.place) d (λ k h m a y g. one k h m a y.place)

-- a list of a type of its own
module _ {A B L : Type 0} {f : Token → Option A} {t : A → Token} (c : Class f t) (R : A → Place → B → Tokens → Type 0) (of : List B → L) (W : L → Tokens → Type 0)
    (nil_to : (w : Tokens) → w ≡ [] → W (of []) w) (nil_from : (w : Tokens) → W (of []) w → w ≡ [])
    (cons_to : (x : B) (xs : List B) (w : Tokens) (a : A) (p : Place) → (at p (t a) ⋅ (R a p x ⋅ W (of xs))) w → W (of (x ∷ xs)) w)
    (cons_from : (x : B) (xs : List B) (w : Tokens) → W (of (x ∷ xs)) w → (a : A) × (p : Place) × (at p (t a) ⋅ (R a p x ⋅ W (of xs))) w)
    (back : (l : L) → (xs : List B) × (of xs ≡ l)) where
  many_in : (xs : List B) (w : Tokens) → Many f (λ a y. R a y.place) xs w → W (of xs) w
  many_in [] w g = nil_to w g
  many_in (x ∷ xs) w (a, y, u, v, s, h, g, m) = cons_to x xs w a y.place (y ∷ [], u ++ v, s, (y, refl, c.is y.token a h, refl), (u, v, refl, g, many_in xs v m))

  many_out : (xs : List B) (w : Tokens) → W (of xs) w → Many f (λ a y. R a y.place) xs w
  many_out [] w g = nil_from w g
  many_out (x ∷ xs) w g = out_of x xs w (cons_from x xs w g) (λ v m. many_out xs v m)
    where
      out_of : (x : B) (xs : List B) (w : Tokens) → (a : A) × (p : Place) × (at p (t a) ⋅ (R a p x ⋅ W (of xs))) w → ((v : Tokens) → W (of xs) v → Many f (λ a y. R a y.place) xs v)
          → Many f (λ a y. R a y.place) (x ∷ xs) w
      out_of x xs w (a, p, (b, d, s, (y, m, h, i), (u, v, q, g, k))) again =
          (a, y, u, v, s ∙ ap (λ z. z ++ d) m ∙ ap (λ z. y ∷ z) q, ap f h ∙ c.has a, subst (λ (z : Place). R a z x u) (sym i) g, again v k)

  list_in : (l : L) (w : Tokens) → Image of (Many f (λ a y. R a y.place)) l w → W l w
  list_in l w (xs, i, g) = subst (λ (z : L). W z w) (sym i) (many_in xs w g)

  list_out : (l : L) (w : Tokens) → W l w → Image of (Many f (λ a y. R a y.place)) l w
  list_out l w g = let b = back l in (b.0, sym b.1, many_out b.0 w (subst (λ (z : L). W z w) (sym b.1) g))

  pub listing : {n d1 d2 : ℕ} {I E : Token → Bool} {p : Parser (List B)} → Exact n d1 d2 I E (Many f (λ a y. R a y.place)) p → Exact n d1 d2 I E W (into of p)
  listing {n = n} {d1 = d1} {d2 = d2} {I = I} {E = E} {p = p} one =
      e.retype n d1 d2 I E (Seq (Many f (λ a y. R a y.place)) (λ a. Just (of a))) W (into of p) to from (next one (λ xs. e.pure_exact n d2 E (of xs)))
    where
      to : (l : L) (w : Tokens) → Seq (Many f (λ a y. R a y.place)) (λ a. Just (of a)) l w → W l w
      to l w (a, u, v, q, g, (i, z)) = list_in l w (a, i, subst (Many f (λ a y. R a y.place) a) (sym (q ∙ ap (λ k. u ++ k) z ∙ append_nil u)) g)

      from : (l : L) (w : Tokens) → W l w → Seq (Many f (λ a y. R a y.place)) (λ a. Just (of a)) l w
      from l w g = let b = list_out l w g in (b.0, w, [], sym (append_nil w), b.2, (b.1, refl))

-- a mark whose place is not kept
pub placeless : {t : Token} {l : Tokens → Type 0} (w : Tokens) (p : Place) → (at p t ⋅ l) w → (the t ⋅ l) w
placeless w p (u, v, s, (y, m, h, i), g) = (u, v, s, (y, m, h), g)

pub placing : {t : Token} {l : Tokens → Type 0} (w : Tokens) → (the t ⋅ l) w → (a : Unit {0}) × (p : Place) × (at p t ⋅ l) w
placing w (u, v, s, (y, m, h), g) = (tt, y.place, (u, v, s, (y, m, h, refl), g))

-- ---- the place of the first token

module _ {A : Type 0} {n d1 d2 : ℕ} {I E : Token → Bool} {G : A → Tokens → Type 0} {p : Parser A} (some : (x : A) → G x [] → ⊥) (one : Exact n d1 d2 I E G p) where
  abbrev Placed : Place × A → Tokens → Type 0
  Placed r = from r.0 (G r.1)

  begins : (x : A) (w r : Tokens) → G x w → BeginsAt (place_at (w ++ r)) w
  begins x [] r g = absurd (some x g)
  begins x (y ∷ w) r g = refl

  place_same : (q : Place) (w r : Tokens) → BeginsAt q w → place_at (w ++ r) ≡ q
  place_same q [] r b = absurd b
  place_same q (y ∷ w) r b = b

  pl_found : (ts : Tokens) (x : Place × A) (r : Tokens) (o : Out A) → length ts ≤ n → p ts ≡ o → and_then o (λ a. pure {A = Place × A} (place_at ts, a)) ≡ ok x r → Found d1 d2 Placed ts x r
  pl_found ts x r (ok a m) fits t h =
      let value : ◌≡◌ {A = Place × A} (place_at ts, a) x = cc in
      let rest : m ≡ r = cc in
      let g = one.sound ts a r fits (t ∙ ap (ok a) rest) in
      let here : BeginsAt (place_at ts) g.front = subst (λ (k : Tokens). BeginsAt (place_at k) g.front) (sym g.whole) (begins a g.front r g.written) in
      subst (λ (k : Place × A). Found d1 d2 Placed ts k r) value (record { front = g.front; whole = g.whole; written = (here, g.written); even = g.even })
  pl_found ts x r (bad k) fits t h = absurd (cc)
  pl_found ts x r (deep k) fits t h = absurd (cc)

  pl_bad : (ts : Tokens) (k : ℕ) (o : Out A) → p ts ≡ o → and_then o (λ a. pure {A = Place × A} (place_at ts, a)) ≡ bad k → p ts ≡ bad k
  pl_bad ts k (ok a m) t h = absurd (cc)
  pl_bad ts k (bad j) t h = let same : j ≡ k = cc in t ∙ ap bad same
  pl_bad ts k (deep j) t h = absurd (cc)

  pl_deep : (ts : Tokens) (k : ℕ) (o : Out A) → p ts ≡ o → and_then o (λ a. pure {A = Place × A} (place_at ts, a)) ≡ deep k → p ts ≡ deep k
  pl_deep ts k (ok a m) t h = absurd (cc)
  pl_deep ts k (bad j) t h = absurd (cc)
  pl_deep ts k (deep j) t h = let same : j ≡ k = cc in t ∙ ap deep same

  pl_right : (x : Place × A) (w r : Tokens) → length (w ++ r) ≤ n → Placed x w → Stops E r → (placed p (w ++ r) ≡ ok x r) ⊎ (IsDeep (placed p (w ++ r)) × (left d1 w ≡ None))
  pl_right x w r fits g halt = elim (one.right x.1 w r fits g.1 halt) as (λ _. (placed p (w ++ r) ≡ ok x r) ⊎ (IsDeep (placed p (w ++ r)) × (left d1 w ≡ None))) [
    | inl h ↦ inl (ap (λ o. and_then o (λ a. pure {A = Place × A} (place_at (w ++ r), a))) h ∙ placed_same (place_same x.0 w r g.0))
    | inr h ↦ inr (deep_on (place_at (w ++ r)) (p (w ++ r)) h.0, h.1)
  ]
    where
      placed_same : {q : Place} → q ≡ x.0 → pure {A = Place × A} (q, x.1) r ≡ pure x r
      placed_same h = ap (λ k. pure {A = Place × A} (k, x.1) r) h

      deep_on : (q : Place) (o : Out A) → IsDeep o → IsDeep (and_then o (λ a. pure {A = Place × A} (q, a)))
      deep_on q (ok a b) i = absurd i
      deep_on q (bad k) i = absurd i
      deep_on q (deep k) i = tt

  pl_place : (a : A) (w b c : Tokens) → length (w ++ b) ≤ n → p (w ++ b) ≡ ok a b → place_at (w ++ b) ≡ place_at (w ++ c)
  pl_place a [] b c fits t = let g = one.sound b a b fits t in absurd (some a (subst (G a) (e.cut_same g.front [] b b (sym g.whole) refl).0 g.written))
  pl_place a (y ∷ w) b c fits t = refl

  pl_steady : (x : Place × A) (w b c : Tokens) (o : Out A) → length (w ++ b) ≤ n → length (w ++ c) ≤ n → p (w ++ b) ≡ o → and_then o (λ a. pure {A = Place × A} (place_at (w ++ b), a)) ≡ ok x b → SameHead b c → placed p (w ++ c) ≡ ok x c
  pl_steady x w b c (ok a m) fits fits2 t h same =
      let value : ◌≡◌ {A = Place × A} (place_at (w ++ b), a) x = cc in
      let rest : m ≡ b = cc in
      let here = t ∙ ap (ok a) rest in
      ap (λ o. and_then o (λ a. pure {A = Place × A} (place_at (w ++ c), a))) (one.steady a w b c fits fits2 here same)
      ∙ ap (λ v. pure {A = Place × A} (v, a) c) (sym (pl_place a w b c fits here)) ∙ ap (λ v. ok v c) value
  pl_steady x w b c (bad k) fits fits2 t h same = absurd (cc)
  pl_steady x w b c (deep k) fits fits2 t h same = absurd (cc)

  pub placed_exact : Exact n d1 d2 I E Placed (placed p)
  placed_exact = record {
    witness = let a = one.witness in ((place_at (a.1 ++ []), a.0), a.1, (begins a.0 a.1 [] a.2, a.2));
    starts = λ x w r g halt. one.starts x.1 w r g.1 halt;
    sound = λ ts x r fits h. pl_found ts x r (p ts) fits refl h;
    right = pl_right;
    wrong = λ ts k fits h. let g = one.wrong ts k fits (pl_bad ts k (p ts) refl h) in
        record { front = g.front; rest = g.rest; whole = g.whole; count = g.count; value = (place_at ((g.front ++ g.more) ++ []), g.value); more = g.more; written = (begins g.value (g.front ++ g.more) [] g.written, g.written); even = g.even };
    passed = λ ts k fits h. let g = one.passed ts k fits (pl_deep ts k (p ts) refl h) in
        record {
          front = g.front;
          opening = g.opening;
          rest = g.rest;
          whole = g.whole;
          count = g.count;
          value = (place_at ((g.front ++ g.opening ∷ g.more) ++ []), g.value);
          more = g.more;
          written = (begins g.value (g.front ++ g.opening ∷ g.more) [] g.written, g.written);
          edge = g.edge;
          opener = g.opener;
        };
    steady = λ x w b c fits fits2 h same. pl_steady x w b c (p (w ++ b)) fits fits2 refl h same;
    frozen = λ w b c fits fits2 h same. ap (λ o. and_then o (λ a. pure {A = Place × A} (place_at (w ++ c), a))) (one.frozen w b c fits fits2 (pl_bad (w ++ b) (length b) (p (w ++ b)) refl h) same);
  }

-- ---- what never is read whole, and so may go on as it likes

module _ {A B : Type 0} {n d1 d2 : ℕ} {I : Token → Bool} {G : A → Tokens → Type 0} {p : Parser A} (d3 : ℕ) (E : Token → Bool) (H : A → B → Tokens → Type 0) (q : A → Parser B)
    (one : Exact n d1 d2 I nobody G p) (no : (ts : Tokens) (x : A) (r : Tokens) → p ts ≡ ok x r → ⊥) (some : (x : A) → Has (H x)) where
  nv_ok : (ts : Tokens) (x : B) (r : Tokens) (o : Out A) → p ts ≡ o → and_then o q ≡ ok x r → ⊥
  nv_ok ts x r (ok a m) t h = no ts a m t
  nv_ok ts x r (bad k) t h = cc
  nv_ok ts x r (deep k) t h = cc

  nv_bad : (ts : Tokens) (k : ℕ) (o : Out A) → p ts ≡ o → and_then o q ≡ bad k → p ts ≡ bad k
  nv_bad ts k (ok a m) t h = absurd (no ts a m t)
  nv_bad ts k (bad j) t h = let same : j ≡ k = cc in t ∙ ap bad same
  nv_bad ts k (deep j) t h = absurd (cc)

  nv_deep : (ts : Tokens) (k : ℕ) (o : Out A) → p ts ≡ o → and_then o q ≡ deep k → p ts ≡ deep k
  nv_deep ts k (ok a m) t h = absurd (no ts a m t)
  nv_deep ts k (bad j) t h = absurd (cc)
  nv_deep ts k (deep j) t h = let same : j ≡ k = cc in t ∙ ap deep same

  deep_still : (o : Out A) → IsDeep o → IsDeep (and_then o q)
  deep_still (ok a b) i = absurd i
  deep_still (bad k) i = absurd i
  deep_still (deep k) i = tt

  nv_right : (x : B) (w r : Tokens) → length (w ++ r) ≤ n → Seq G H x w → Stops E r → ((p >>= q) (w ++ r) ≡ ok x r) ⊎ (IsDeep ((p >>= q) (w ++ r)) × (left d1 w ≡ None))
  nv_right x w r fits (a, u, v, s, g, h) halt =
      let t : w ++ r ≡ u ++ (v ++ r) = ap (λ k. k ++ r) s ∙ append_assoc u v r in
      elim (one.right a u (v ++ r) (subst (λ (k : Tokens). length k ≤ n) t fits) g (stops_nobody (v ++ r))) as (λ _. ((p >>= q) (w ++ r) ≡ ok x r) ⊎ (IsDeep ((p >>= q) (w ++ r)) × (left d1 w ≡ None))) [
        | inl k ↦ absurd (no (u ++ (v ++ r)) a (v ++ r) k)
        | inr k ↦ inr (
          subst (λ (z : Tokens). IsDeep ((p >>= q) z)) (sym t) (deep_still (p (u ++ (v ++ r))) k.0),
          ap (left d1) s ∙ e.left-append d1 u v ∙ ap (option_and_then (λ m. left m v)) k.1,
        )
      ]

  pub never : Exact n d1 d3 I E (Seq G H) (p >>= q)
  never = record {
    witness = let a = one.witness in let b = some a.0 in (b.0, a.1 ++ b.1, (a.0, a.1, b.1, refl, a.2, b.2));
    starts = λ x w r g halt. never_starts x w r g;
    sound = λ ts x r fits h. absurd (nv_ok ts x r (p ts) refl h);
    right = nv_right;
    wrong = λ ts k fits h. let a = one.wrong ts k fits (nv_bad ts k (p ts) refl h) in let b = some a.value in
        record { front = a.front; rest = a.rest; whole = a.whole; count = a.count; value = b.0; more = a.more ++ b.1; written = (a.value, a.front ++ a.more, b.1, sym (append_assoc a.front a.more b.1), a.written, b.2); even = a.even };
    passed = λ ts k fits h. let a = one.passed ts k fits (nv_deep ts k (p ts) refl h) in let b = some a.value in
        record {
          front = a.front;
          opening = a.opening;
          rest = a.rest;
          whole = a.whole;
          count = a.count;
          value = b.0;
          more = a.more ++ b.1;
          written = (a.value, a.front ++ a.opening ∷ a.more, b.1, sym (append_assoc a.front (a.opening ∷ a.more) b.1), a.written, b.2);
          edge = a.edge;
          opener = a.opener;
        };
    steady = λ x w b c fits fits2 h same. absurd (nv_ok (w ++ b) x b (p (w ++ b)) refl h);
    frozen = λ w b c fits fits2 h same. ap (λ o. and_then o q) (one.frozen w b c fits fits2 (nv_bad (w ++ b) (length b) (p (w ++ b)) refl h) same);
  }
    where
      never_starts : (x : B) (w r : Tokens) → Seq G H x w → Stops I (w ++ r)
      never_starts x w r (a, u, v, s, g, h) =
          subst (Stops I) (sym (ap (λ k. k ++ r) s ∙ append_assoc u v r)) (one.starts a u (v ++ r) g (stops_nobody (v ++ r)))

-- a bracket that has to come
module _ {A : Type 0} {f : Token → Option A} {t : A → Token} (k : Class f t) (n : ℕ) (I : Token → Bool) (clear : (a : A) → I (t a) ≡ false) (opener : (a : A) → opens (t a) ≡ true) (a0 : A) where
  step_in : (m : ℕ) (a : A) → left_after (suc m) (t a) ≡ Some m
  step_in m a = ap (λ b. if b then Some m else (if closes (t a) then Some (suc (suc m)) else Some (suc m))) (opener a)

  entering : (o : Option (A × Spanned)) (m j : ℕ) (ts : Tokens) → and_then (pick o (λ a. ok a ts) (bad j)) (λ a. deeper (suc m) a) ≡ pick o (λ a. ok a ts) (bad j)
  entering None m j ts = refl
  entering (Some a) m j ts = refl

  shutting : (o : Option (A × Spanned)) (j : ℕ) (ts : Tokens) → and_then (pick o (λ a. ok a ts) (bad j)) (λ a. deeper 0 a) ≡ pick o (λ a. deep (length ts)) (bad j)
  shutting None j ts = refl
  shutting (Some a) j ts = refl

  pub open_exact : (m : ℕ) → Exact n (suc m) m I nobody (One f) (enter (suc m) f)
  open_exact m = e.extend n (suc m) m I nobody (One f) (enter (suc m) f) (must f) (λ ts h. entering (front f ts) m (length ts) (after ts)) (take k a0 clear (step_in m))

  at_zero : (ts : Tokens) → enter 0 f ts ≡ c.enter 0 f ts
  at_zero [] = refl
  at_zero (y ∷ ts) = shutting (front f (y ∷ ts)) (suc (length ts)) ts ∙ picked (f y.token)
    where
      picked : (o : Option A) → pick {B = A × Spanned} (tagged y o) (λ a. deep (length ts)) (bad (suc (length ts))) ≡ pick o (λ a. deep (length ts)) (bad (suc (length ts)))
      picked None = refl
      picked (Some a) = refl

  shut_exact : Exact n 0 0 I nobody (One f) (enter 0 f)
  shut_exact = e.extend n 0 0 I nobody (One f) (enter 0 f) (c.enter 0 f) (λ ts h. at_zero ts) (choices.enter_exact n 0 0 I f (token_at (t a0)) a0 (k.has a0) (clear_of k I clear) (opens_of k opener))

  not_in : (ts : Tokens) (x : A × Spanned) (r : Tokens) → enter 0 f ts ≡ ok x r → ⊥
  not_in ts x r h = no_pick (front f ts) (sym (shutting (front f ts) (length ts) (after ts)) ∙ h)
    where
      no_pick : (o : Option (A × Spanned)) → pick o (λ a. deep (length (after ts))) (bad (length ts)) ≡ ok x r → ⊥
      no_pick None h = cc
      no_pick (Some a) h = cc

  -- and what stands in it
  pub must_open : {B : Type 0} (E : Token → Bool) (H : A × Spanned → B → Tokens → Type 0) (q : A × Spanned → Parser B) (d : ℕ) → ((x : A × Spanned) → Has (H x))
      → ((m : ℕ) → d ≡ suc m → (x : A × Spanned) → Exact n m (suc m) nobody E (H x) (q x)) → Exact n d d I E (Seq (One f) H) (enter d f >>= q)
  must_open E H q zero some one = never 0 E H q shut_exact not_in some
  must_open E H q (suc m) some one = next (open_exact m) (λ x. one m refl x)

-- the same tokens may not come next
pub restop : {A : Type 0} {n d1 d2 : ℕ} {I E F : Token → Bool} {G : A → Tokens → Type 0} {p : Parser A} → ((u : Token) → E u ≡ F u) → Exact n d1 d2 I E G p → Exact n d1 d2 I F G p
restop same one = e.widen (λ u h. same u ∙ h) one
