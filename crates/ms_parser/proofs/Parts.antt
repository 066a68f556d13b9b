-- The parts again, with what can be found left out, and the languages that they read.
use Rattle.std.proofs.Common.{◌≡◌, ℕ, suc, [], ◌∷◌, ◌++◌, Option, Some, Bool, true, false, refl, sym, ap, ◌∙◌, subst, arith, ◌⊎◌, inl, inr}
use Rattle.ms_syntax.specs.declared.token.Token.{Token}
use Rattle.ms_syntax.specs.declared.token.Spanned.{Spanned}
use Rattle.ms_syntax.specs.declared.token.Place.{Place}
use Rattle.ms_syntax.specs.Grammar.{Tokens, ◌⋅◌, the, at, opens, left_after}
use Rattle.ms_cursor.specs.Reading.{Parser, ◌>>=◌, pure, by, must, opening, pair, into, skip, closing}
use Rattle.ms_parser.proofs.Classes.{Class}
use Rattle.ms_parser.proofs.Exact as e
use Rattle.ms_parser.proofs.Exact.{Exact, Seq, Just, One, Cases, nobody, append_nil}
use Rattle.ms_parser.proofs.Choices.{either}
use Rattle.ms_parser.proofs.Read as r

-- ---- languages

-- one after the other
abbrev pub Pair : {A B : Type 0} → (A → Tokens → Type 0) → (B → Tokens → Type 0) → A × B → Tokens → Type 0
Pair G H x = G x.0 ⋅ H x.1

abbrev pub Image : {A B : Type 0} → (A → B) → (A → Tokens → Type 0) → B → Tokens → Type 0
Image {A} h G x w = (a : A) × (x ≡ h a) × G a w

-- a token of t with its place, and then R; or Q
abbrev pub Start : {A B : Type 0} → (A → Token) → (A → Place → B → Tokens → Type 0) → (B → Tokens → Type 0) → B → Tokens → Type 0
Start {A} t R Q x w = ((a : A) × (p : Place) × (at p (t a) ⋅ R a p x) w) ⊎ Q x w

-- something that is written
abbrev pub Has : {A : Type 0} → (A → Tokens → Type 0) → Type 0
Has {A} G = (x : A) × (w : Tokens) × G x w

abbrev pub some_place : Place
some_place = record { file = 0; line = 0; col = 0 }

abbrev pub token_at : Token → Spanned
token_at t = record { token = t; start = 0; end = 0; place = some_place }

pub the_has : (t : Token) → the t (token_at t ∷ [])
the_has t = (token_at t, refl, refl)

pub has_pair : {A B : Type 0} {G : A → Tokens → Type 0} {H : B → Tokens → Type 0} → Has G → Has H → Has (Pair G H)
has_pair g h = ((g.0, h.0), g.1 ++ h.1, (g.1, h.1, refl, g.2, h.2))

pub has_closing : {A : Type 0} {G : A → Tokens → Type 0} (t : Token) → Has G → Has (λ x. G x ⋅ the t)
has_closing t g = (g.0, g.1 ++ token_at t ∷ [], (g.1, token_at t ∷ [], refl, g.2, the_has t))

pub has_skip : {A : Type 0} {G : A → Tokens → Type 0} (t : Token) → Has G → Has (λ x. the t ⋅ G x)
has_skip t g = (g.0, token_at t ∷ g.1, (token_at t ∷ [], g.1, refl, the_has t, g.2))

pub has_image : {A B : Type 0} {G : A → Tokens → Type 0} (h : A → B) → Has G → Has (Image h G)
has_image h g = (h g.0, g.1, (g.0, refl, g.2))

-- ---- classes of tokens

module _ {A : Type 0} {f : Token → Option A} {t : A → Token} (c : Class f t) where
  pub clear_of : (I : Token → Bool) → ((a : A) → I (t a) ≡ false) → (y : Spanned) (a : A) → f y.token ≡ Some a → I y.token ≡ false
  clear_of I h y a g = subst (λ (u : Token). I u ≡ false) (sym (c.is y.token a g)) (h a)

  pub step_of : (d : ℕ) (r : Option ℕ) → ((a : A) → left_after d (t a) ≡ r) → (y : Spanned) (a : A) → f y.token ≡ Some a → left_after d y.token ≡ r
  step_of d r h y a g = subst (λ (u : Token). left_after d u ≡ r) (sym (c.is y.token a g)) (h a)

  pub opens_of : ((a : A) → opens (t a) ≡ true) → (y : Spanned) (a : A) → f y.token ≡ Some a → opens y.token ≡ true
  opens_of h y a g = subst (λ (u : Token). opens u ≡ true) (sym (c.is y.token a g)) (h a)

-- ---- parts

pub next : {A B : Type 0} {n d1 d2 d3 : ℕ} {I M E : Token → Bool} {G : A → Tokens → Type 0} {H : A → B → Tokens → Type 0} {p : Parser A} {q : A → Parser B}
    → Exact n d1 d2 I M G p → ((x : A) → Exact n d2 d3 M E (H x) (q x)) → Exact n d1 d3 I E (Seq G H) (p >>= q)
next {n = n} {d1 = d1} {d2 = d2} {d3 = d3} {I = I} {M = M} {E = E} {G = G} {H = H} {p = p} {q = q} one two = e.bind n d1 d2 d3 I M E G H p q one two

pub both : {A B : Type 0} {n d1 d2 d3 : ℕ} {I M E : Token → Bool} {G : A → Tokens → Type 0} {H : B → Tokens → Type 0} {p : Parser A} {q : Parser B}
    → Exact n d1 d2 I M G p → Exact n d2 d3 M E H q → Exact n d1 d3 I E (Pair G H) (pair p q)
both {A = A} {B = B} {n = n} {d1 = d1} {d2 = d2} {d3 = d3} {I = I} {M = M} {E = E} {G = G} {H = H} {p = p} {q = q} one two =
    e.retype n d1 d3 I E (Seq G (λ a. Seq H (λ b. Just (a, b)))) (Pair G H) (pair p q) to from
    (next one (λ a. next two (λ b. e.pure_exact n d3 E (a, b))))
  where
    to : (x : A × B) (w : Tokens) → Seq G (λ a. Seq H (λ b. Just (a, b))) x w → Pair G H x w
    to x w (a, u, v, s, g, (b, c, z, t, h, (i, j))) =
        let v_is : v ≡ c = t ∙ ap (λ k. c ++ k) j ∙ append_nil c in
        subst (λ (k : A × B). Pair G H k w) (sym i) (u, c, s ∙ ap (λ k. u ++ k) v_is, g, h)

    from : (x : A × B) (w : Tokens) → Pair G H x w → Seq G (λ a. Seq H (λ b. Just (a, b))) x w
    from x w (u, v, s, g, h) = (x.0, u, v, s, g, (x.1, v, [], sym (append_nil v), h, (refl, refl)))

pub mapped : {A B : Type 0} {n d1 d2 : ℕ} {I E : Token → Bool} {G : A → Tokens → Type 0} {p : Parser A} (h : A → B)
    → Exact n d1 d2 I E G p → Exact n d1 d2 I E (Image h G) (into h p)
mapped {A = A} {B = B} {n = n} {d1 = d1} {d2 = d2} {I = I} {E = E} {G = G} {p = p} h one =
    e.retype n d1 d2 I E (Seq G (λ a. Just (h a))) (Image h G) (into h p) to from (next one (λ a. e.pure_exact n d2 E (h a)))
  where
    to : (x : B) (w : Tokens) → Seq G (λ a. Just (h a)) x w → Image h G x w
    to x w (a, u, v, q, g, (i, z)) = (a, i, subst (G a) (sym (q ∙ ap (λ k. u ++ k) z ∙ append_nil u)) g)

    from : (x : B) (w : Tokens) → Image h G x w → Seq G (λ a. Just (h a)) x w
    from x w (a, i, g) = (a, w, [], sym (append_nil w), g, (i, refl))

pub retold : {A : Type 0} {n d1 d2 : ℕ} {I E : Token → Bool} {G H : A → Tokens → Type 0} {p : Parser A}
    → ((x : A) (w : Tokens) → G x w → H x w) → ((x : A) (w : Tokens) → H x w → G x w) → Exact n d1 d2 I E G p → Exact n d1 d2 I E H p
retold {n = n} {d1 = d1} {d2 = d2} {I = I} {E = E} {G = G} {H = H} {p = p} to from one = e.retype n d1 d2 I E G H p to from one

pub none_after : {A : Type 0} {n d : ℕ} {E : Token → Bool} (a : A) → Exact n d d E E (Just a) (pure a)
none_after {n = n} {d = d} {E = E} a = e.pure_exact n d E a

-- a token of a class
pub take : {A : Type 0} {n d1 d2 : ℕ} {I : Token → Bool} {f : Token → Option A} {t : A → Token} (c : Class f t) (a : A)
    → ((a : A) → I (t a) ≡ false) → ((a : A) → left_after d1 (t a) ≡ Some d2) → Exact n d1 d2 I nobody (One f) (must f)
take {n = n} {d1 = d1} {d2 = d2} {I = I} {f = f} {t = t} c a clear step =
    r.must_exact n d1 d2 I f (token_at (t a)) a (c.has a) (clear_of c I clear) (step_of c d1 (Some d2) step)

pub behind : {B : Type 0} {n d1 d2 d3 : ℕ} {I E : Token → Bool} {G : B → Tokens → Type 0} {p : Parser B} {f : Token → Option (Unit {0})} {t : Token} (c : Class f (λ a. t))
    → I t ≡ false → left_after d1 t ≡ Some d2 → Exact n d2 d3 nobody E G p → Exact n d1 d3 I E (λ x. the t ⋅ G x) (skip f p)
behind {B = B} {n = n} {d1 = d1} {d2 = d2} {d3 = d3} {I = I} {E = E} {G = G} {p = p} {f = f} {t = t} c clear step one =
    e.retype n d1 d3 I E (Seq (One f) (λ z. G)) (λ x. the t ⋅ G x) (skip f p) to from (next (take c tt (λ a. clear) (λ a. step)) (λ z. one))
  where
    to : (x : B) (w : Tokens) → Seq (One f) (λ z. G) x w → (the t ⋅ G x) w
    to x w (z, u, v, s, (m, h), g) = (u, v, s, (z.1, m, c.is z.1.token z.0 h), g)

    from : (x : B) (w : Tokens) → (the t ⋅ G x) w → Seq (One f) (λ z. G) x w
    from x w (u, v, s, (y, m, h), g) = ((tt, y), u, v, s, (m, ap f h ∙ c.has tt), g)

pub closed_by : {B : Type 0} {n d1 d2 d3 : ℕ} {I M : Token → Bool} {G : B → Tokens → Type 0} {p : Parser B} {f : Token → Option (Unit {0})} {t : Token} (c : Class f (λ a. t))
    → M t ≡ false → left_after d2 t ≡ Some d3 → Exact n d1 d2 I M G p → Exact n d1 d3 I nobody (λ x. G x ⋅ the t) (closing f p)
closed_by {B = B} {n = n} {d1 = d1} {d2 = d2} {d3 = d3} {I = I} {M = M} {G = G} {p = p} {f = f} {t = t} c clear step one =
    e.retype n d1 d3 I nobody (Seq G (λ b. Seq (One f) (λ z. Just b))) (λ x. G x ⋅ the t) (closing f p) to from
    (next one (λ b. next (take c tt (λ a. clear) (λ a. step)) (λ z. e.pure_exact n d3 nobody b)))
  where
    to : (x : B) (w : Tokens) → Seq G (λ b. Seq (One f) (λ z. Just b)) x w → (G x ⋅ the t) w
    to x w (b, u, v, s, g, (z, k, l, q, (m, h), (i, j))) =
        subst (λ (b : B). (G b ⋅ the t) w) (sym i) (u, v, s, g, (z.1, q ∙ ap (λ a. k ++ a) j ∙ append_nil k ∙ m, c.is z.1.token z.0 h))

    from : (x : B) (w : Tokens) → (G x ⋅ the t) w → Seq G (λ b. Seq (One f) (λ z. Just b)) x w
    from x w (u, v, s, g, (y, m, h)) = (x, u, v, s, g, ((tt, y), v, [], sym (append_nil v), (m, ap f h ∙ c.has tt), (refl, refl)))

-- a choice by the next token
module _ {A B : Type 0} {f : Token → Option A} {t : A → Token} (c : Class f t) (R : A → Place → B → Tokens → Type 0) (Q : B → Tokens → Type 0) where
  start_to : (x : B) (w : Tokens) → Cases f (λ a y. R a y.place) Q x w → Start t R Q x w
  start_to x w (inl (a, y, v, s, h, g)) = inl (a, y.place, (y ∷ [], v, s, (y, refl, c.is y.token a h, refl), g))
  start_to x w (inr g) = inr g

  start_from : (x : B) (w : Tokens) → Start t R Q x w → Cases f (λ a y. R a y.place) Q x w
  start_from x w (inl (a, p, (u, v, s, (y, m, h, i), g))) = inl (a, y, v, s ∙ ap (λ k. k ++ v) m, ap f h ∙ c.has a, subst (λ (z : Place). R a z x v) (sym i) g)
  start_from x w (inr g) = inr g

pub start : {A B : Type 0} {n d1 d2 d3 : ℕ} {I E : Token → Bool} {f : Token → Option A} {t : A → Token} {R : A → Place → B → Tokens → Type 0} {Q : B → Tokens → Type 0}
    {p : A → Place → Parser B} {q : Parser B} (c : Class f t) → ((a : A) → I (t a) ≡ false) → ((a : A) → left_after d1 (t a) ≡ Some d2)
    → ((a : A) (z : Place) → Exact n d2 d3 nobody E (R a z) (p a z)) → Exact n d1 d3 (either f I) E Q q → Exact n d1 d3 I E (Start t R Q) (by f (λ a y. p a y.place) q)
start {n = n} {d1 = d1} {d2 = d2} {d3 = d3} {I = I} {E = E} {f = f} {t = t} {R = R} {Q = Q} {p = p} {q = q} c clear step one two =
    e.retype n d1 d3 I E (Cases f (λ a y. R a y.place) Q) (Start t R Q) (by f (λ a y. p a y.place) q) (start_to c R Q) (start_from c R Q)
    (r.by_exact n n d1 d2 d3 (omega arith) I E f (λ a y. R a y.place) Q (λ a y. p a y.place) q (clear_of c I clear) (step_of c d1 (Some d2) step) (λ a y h. one a y.place) two)

-- the same, where the token opens a bracket
pub start_open : {A B : Type 0} {n d : ℕ} {I E : Token → Bool} {f : Token → Option A} {t : A → Token} {R : A → Place → B → Tokens → Type 0} {Q : B → Tokens → Type 0}
    {p : A → Place → Parser B} {q : Parser B} (c : Class f t) → ((a : A) → I (t a) ≡ false) → ((a : A) → opens (t a) ≡ true) → ((a : A) (z : Place) → Has (R a z))
    → ((k : ℕ) → d ≡ suc k → (a : A) (z : Place) → Exact n k (suc k) nobody E (R a z) (p a z)) → Exact n d d (either f I) E Q q → Exact n d d I E (Start t R Q) (opening d f (λ a y. p a y.place) q)
start_open {n = n} {d = d} {I = I} {E = E} {f = f} {t = t} {R = R} {Q = Q} {p = p} {q = q} c clear opener some one two =
    e.retype n d d I E (Cases f (λ a y. R a y.place) Q) (Start t R Q) (opening d f (λ a y. p a y.place) q) (start_to c R Q) (start_from c R Q)
    (r.opening_exact n I f (λ a y. R a y.place) (λ a y. p a y.place) (clear_of c I clear) (opens_of c opener) (λ a y. some a y.place) d E Q q two (λ k h a y g. one k h a y.place))
