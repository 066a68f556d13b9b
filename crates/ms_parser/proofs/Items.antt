-- Lists with semicolons between, up to the end of the tokens, are read as the grammar writes them.
use Rattle.std.proofs.Common.{◌≡◌, ℕ, zero, suc, ◌≤◌, List, [], ◌∷◌, ◌++◌, length, Option, Some, None, Bool, true, false, refl, sym, ap, ◌∙◌, subst, length-append, arith, ◌⊎◌, inl, inr}
use Rattle.ms_syntax.specs.declared.token.Token.{Token}
use Rattle.ms_syntax.specs.declared.token.Token.TheVariants as tok
use Rattle.ms_syntax.specs.declared.token.Symbol.TheVariants as s
use Rattle.ms_syntax.specs.declared.token.Spanned.{Spanned}
use Rattle.ms_syntax.specs.Grammar.{Tokens, WritesMoreItems, WritesItems, left}
use Rattle.ms_cursor.specs.Reading.{Out, bad, deep, Parser, ◌>>=◌, ok, and_then, pick, front, pure, sealed, into}
use Rattle.ms_cursor.specs.Kinds.{symbol}
use Rattle.ms_parser.specs.Lists.{or_end, any_token, more_items, items}
use Rattle.ms_parser.proofs.Classes.{symbol_class}
use Rattle.ms_parser.proofs.Exact as e
use Rattle.ms_parser.proofs.Exact.{Exact, Seq, Just, Cases, Stops, Found, Stuck, Passes, IsDeep, SameHead, nobody, extend}
use Rattle.ms_parser.proofs.Choices.{either}
use Rattle.ms_parser.proofs.Read as r
use Rattle.ms_parser.proofs.Parts.{Image, next, mapped, clear_of, step_of}

-- every token
abbrev pub all : Token → Bool
all t = true

abbrev pub Ended : {A : Type 0} → (A → Tokens → Type 0) → A → A → Tokens → Type 0
Ended G b x w = Just b x w ⊎ G x w

module _ {A : Type 0} (n d : ℕ) (I : Token → Bool) (G : A → Tokens → Type 0) (p : Parser A) (b : A) (some : (x : A) → G x [] → ⊥) (one : Exact n d d I all G p) where
  at_end : (r : Tokens) → Stops all r → r ≡ []
  at_end [] s = refl
  at_end (y ∷ r) s = absurd (cc)

  oe_starts : (x : A) (w r : Tokens) → Ended G b x w → Stops all r → Stops I (w ++ r)
  oe_starts x w r (inl g) s = subst (Stops I) (sym (ap (λ v. v ++ r) g.1 ∙ at_end r s)) tt
  oe_starts x w r (inr g) s = one.starts x w r g s

  oe_sound : (ts : Tokens) (x : A) (r : Tokens) → length ts ≤ n → or_end b p ts ≡ ok x r → Found d d (Ended G b) ts x r
  oe_sound [] x r fits h =
      let value : b ≡ x = cc in let rest : [] ≡ r = cc in
      record { front = []; whole = rest; written = inl (sym value, refl); even = refl }
  oe_sound (y ∷ ts) x r fits h = let f = one.sound (y ∷ ts) x r fits h in
      record { front = f.front; whole = f.whole; written = inr f.written; even = f.even }

  oe_right : (x : A) (w r : Tokens) → length (w ++ r) ≤ n → Ended G b x w → Stops all r → (or_end b p (w ++ r) ≡ ok x r) ⊎ (IsDeep (or_end b p (w ++ r)) × (left d w ≡ None))
  oe_right x w r fits (inl g) s =
      let none = at_end r s in
      inl (ap (or_end b p) (ap (λ v. v ++ r) g.1 ∙ none) ∙ ap (λ v. ok v []) (sym g.0) ∙ ap (ok x) (sym none))
  oe_right x [] r fits (inr g) s = absurd (some x g)
  oe_right x (y ∷ w) r fits (inr g) s = one.right x (y ∷ w) r fits g s

  oe_wrong : (ts : Tokens) (k : ℕ) → length ts ≤ n → or_end b p ts ≡ bad k → Stuck d (Ended G b) ts k
  oe_wrong [] k fits h = absurd (cc)
  oe_wrong (y ∷ ts) k fits h = let f = one.wrong (y ∷ ts) k fits h in
      record { front = f.front; rest = f.rest; whole = f.whole; count = f.count; value = f.value; more = f.more; written = inr f.written; even = f.even }

  oe_passed : (ts : Tokens) (k : ℕ) → length ts ≤ n → or_end b p ts ≡ deep k → Passes d (Ended G b) ts k
  oe_passed [] k fits h = absurd (cc)
  oe_passed (y ∷ ts) k fits h = let f = one.passed (y ∷ ts) k fits h in
      record { front = f.front; opening = f.opening; rest = f.rest; whole = f.whole; count = f.count; value = f.value; more = f.more; written = inr f.written; edge = f.edge; opener = f.opener }

  oe_frozen : (w c e : Tokens) → length (w ++ c) ≤ n → length (w ++ e) ≤ n → or_end b p (w ++ c) ≡ bad (length c) → SameHead c e → or_end b p (w ++ e) ≡ bad (length e)
  oe_frozen [] [] e fits fits2 h same = absurd (cc)
  oe_frozen [] (y ∷ c) [] fits fits2 h same = absurd same
  oe_frozen [] (y ∷ c) (z ∷ e) fits fits2 h same = one.frozen [] (y ∷ c) (z ∷ e) fits fits2 h same
  oe_frozen (y ∷ w) c e fits fits2 h same = one.frozen (y ∷ w) c e fits fits2 h same

  oe_steady : (x : A) (w c e : Tokens) → length (w ++ c) ≤ n → length (w ++ e) ≤ n → or_end b p (w ++ c) ≡ ok x c → SameHead c e → or_end b p (w ++ e) ≡ ok x e
  oe_steady x [] [] [] fits fits2 h same = h
  oe_steady x [] [] (z ∷ e) fits fits2 h same = absurd same
  oe_steady x [] (y ∷ c) [] fits fits2 h same = absurd same
  oe_steady x [] (y ∷ c) (z ∷ e) fits fits2 h same = one.steady x [] (y ∷ c) (z ∷ e) fits fits2 h same
  oe_steady x (y ∷ w) c e fits fits2 h same = one.steady x (y ∷ w) c e fits fits2 h same

  pub or_end_exact : Exact n d d I all (Ended G b) (or_end b p)
  or_end_exact = record { witness = (one.witness.0, one.witness.1, inr one.witness.2); starts = oe_starts; sound = oe_sound; right = oe_right; wrong = oe_wrong; passed = oe_passed; steady = oe_steady; frozen = oe_frozen }

-- on no tokens at all, a reader of a part of a language reads all of it, if the part has all that is of no tokens
module _ {A : Type 0} {d1 d2 : ℕ} {I E : Token → Bool} {G : A → Tokens → Type 0} {p : Parser A} (H : A → Tokens → Type 0) (part : (x : A) (w : Tokens) → G x w → H x w) (back : (x : A) → H x [] → G x [])
    (begins : (x : A) (w r : Tokens) → H x w → Stops E r → Stops I (w ++ r)) (one : Exact 0 d1 d2 I E G p) where
  nothing_right : (x : A) (w r : Tokens) → length (w ++ r) ≤ 0 → H x w → Stops E r → (p (w ++ r) ≡ ok x r) ⊎ (IsDeep (p (w ++ r)) × (left d1 w ≡ None))
  nothing_right x [] r fits g halt = one.right x [] r fits (back x g) halt
  nothing_right x (y ∷ w) r fits g halt = absurd (omega (arith, fits))

  pub on_nothing : Exact 0 d1 d2 I E H p
  on_nothing = record {
    witness = (one.witness.0, one.witness.1, part one.witness.0 one.witness.1 one.witness.2);
    starts = begins;
    sound = λ ts x r fits h. let f = one.sound ts x r fits h in record { front = f.front; whole = f.whole; written = part x f.front f.written; even = f.even };
    right = nothing_right;
    steady = one.steady;
    wrong = λ ts k fits h. let f = one.wrong ts k fits h in record { front = f.front; rest = f.rest; whole = f.whole; count = f.count; value = f.value; more = f.more; written = part f.value (f.front ++ f.more) f.written; even = f.even };
    passed = λ ts k fits h. let f = one.passed ts k fits h in
        record { front = f.front; opening = f.opening; rest = f.rest; whole = f.whole; count = f.count; value = f.value; more = f.more; written = part f.value (f.front ++ f.opening ∷ f.more) f.written; edge = f.edge; opener = f.opener };
    frozen = one.frozen;
  }

module _ {B : Type 0} (G : B → Tokens → Type 0) where
  abbrev pub MoreItems : List B × Bool → Tokens → Type 0
  MoreItems r = WritesMoreItems G r.0 r.1

  abbrev pub AllItems : List B × Bool → Tokens → Type 0
  AllItems r = WritesItems G r.0 r.1

  abbrev pub with_first : B → List B × Bool → List B × Bool
  with_first x r = (x ∷ r.0, r.1)

  abbrev pub Following : List B × Bool → Tokens → Type 0
  Following = Seq G (λ x. Image (with_first x) MoreItems)

  abbrev pub RawItems : List B × Bool → Tokens → Type 0
  RawItems = Cases (symbol s.Semicolon) (λ a y. Ended Following ([], true)) (Just ([], false))

  raw_to : (z : List B × Bool) (w : Tokens) → RawItems z w → MoreItems z w
  raw_to z w (inr (j, n)) = subst (λ (a : List B × Bool). MoreItems a w) (sym j) n
  raw_to z w (inl (a, y, v, q, h, inl (j, n))) = subst (λ (a : List B × Bool). MoreItems a w) (sym j) (y, q ∙ ap (λ k. y ∷ k) n, (symbol_class s.Semicolon).is y.token a h)
  raw_to z w (inl (a, y, v, q, h, inr (x, u, u2, q2, g, (t, j, rest)))) =
      subst (λ (a : List B × Bool). MoreItems a w) (sym j) (y ∷ [], v, q, (y, refl, (symbol_class s.Semicolon).is y.token a h), (u, u2, q2, g, rest))

  raw_from : (z : List B × Bool) (w : Tokens) → MoreItems z w → RawItems z w
  raw_from z w g = by_list z.0 z.1 w g
    where
      by_list : (xs : List B) (c : Bool) (w : Tokens) → WritesMoreItems G xs c w → RawItems (xs, c) w
      by_list [] true w (y, n, t) = inl (tt, y, [], n, ap (symbol s.Semicolon) t ∙ (symbol_class s.Semicolon).has tt, inl (refl, refl))
      by_list [] false w g = inr (refl, g)
      by_list (x ∷ xs) c w (u, v, q, (y, n, t), (u2, v2, q2, g, rest)) = inl (tt, y, v, q ∙ ap (λ k. k ++ v) n, ap (symbol s.Semicolon) t ∙ (symbol_class s.Semicolon).has tt, inr (x, u2, v2, q2, g, ((xs, c), refl, rest)))

  all_to : (z : List B × Bool) (w : Tokens) → Ended Following ([], false) z w → AllItems z w
  all_to z w (inl (j, n)) = subst (λ (a : List B × Bool). AllItems a w) (sym j) n
  all_to z w (inr (x, u, v, q, g, (t, j, rest))) = subst (λ (a : List B × Bool). AllItems a w) (sym j) (u, v, q, g, rest)

  all_from : (z : List B × Bool) (w : Tokens) → AllItems z w → Ended Following ([], false) z w
  all_from z w g = by_list z.0 z.1 w g
    where
      by_list : (xs : List B) (c : Bool) (w : Tokens) → WritesItems G xs c w → Ended Following ([], false) (xs, c) w
      by_list [] true w g = absurd g
      by_list [] false w g = inl (refl, g)
      by_list (x ∷ xs) c w (u, v, q, g, rest) = inr (x, u, v, q, g, ((xs, c), refl, rest))

module _ {B : Type 0} (d : ℕ) (I : Token → Bool) (clear : I (tok.Symbol s.Semicolon) ≡ false) (G : B → Tokens → Type 0) (some : (x : B) → G x [] → ⊥) (item : Parser B) (one : (n : ℕ) → Exact n d d nobody I G item) where
  following_some : (z : List B × Bool) → Following G z [] → ⊥
  following_some z (x, [], v, q, g, m) = some x g
  following_some z (x, y ∷ u, v, q, g, m) = cc

  more_back : (z : List B × Bool) → MoreItems G z [] → Just ([], false) z []
  more_back z g = back_raw z (raw_from G z [] g)
    where
      back_raw : (z : List B × Bool) → RawItems G z [] → Just ([], false) z []
      back_raw z (inr g) = g
      back_raw z (inl (a, y, v, q, h, g)) = absurd (cc)

  more_begins : (z : List B × Bool) (w r : Tokens) → MoreItems G z w → Stops all r → Stops I (w ++ r)
  more_begins z w r g halt = at_raw z w r (raw_from G z w g) halt
    where
      at_raw : (z : List B × Bool) (w r : Tokens) → RawItems G z w → Stops all r → Stops I (w ++ r)
      at_raw z w [] (inr (j, n)) halt = subst (λ (a : Tokens). Stops I (a ++ [])) (sym n) tt
      at_raw z w (y ∷ r) (inr (j, n)) halt = absurd (cc)
      at_raw z w r (inl (a, y, v, q, h, g)) halt = subst (λ (a : Tokens). Stops I (a ++ r)) (sym q) (subst (λ (a : Token). I a ≡ false) (sym ((symbol_class s.Semicolon).is y.token a h)) clear)

  following_exact : (n : ℕ) → Exact n d d I all (MoreItems G) (more_items item n) → Exact n d d nobody all (Following G) (item >>= λ x. into {B = List B × Bool} (with_first G x) (more_items item n))
  following_exact n more = next (one n) (λ x. mapped {B = List B × Bool} (with_first G x) more)

  pub more_items_exact : (n : ℕ) → Exact n d d I all (MoreItems G) (more_items item n)
  unfolding more_items
  more_items_exact zero = on_nothing (MoreItems G) (λ z w g. raw_to G z w (inr g)) more_back more_begins (r.sealed_exact {B = List B × Bool} 0 d I any_token ([], false))
  more_items_exact (suc n) = e.retype (suc n) d d I all (RawItems G) (MoreItems G) (more_items item (suc n)) (raw_to G) (raw_from G)
      (r.by_exact (suc n) n d d d (omega arith) I all (symbol s.Semicolon) (λ a y. Ended (Following G) ([], true)) (Just ([], false))
      (λ a y. or_end {A = List B × Bool} ([], true) (item >>= λ x. into {B = List B × Bool} (with_first G x) (more_items item n))) (sealed {B = List B × Bool} any_token ([], false))
      (clear_of (symbol_class s.Semicolon) I (λ a. clear)) (step_of (symbol_class s.Semicolon) d (Some d) (λ a. refl))
      (λ a y h. or_end_exact n d nobody (Following G) (item >>= λ x. into {B = List B × Bool} (with_first G x) (more_items item n)) ([], true) following_some (following_exact n (more_items_exact n)))
      (r.sealed_exact {B = List B × Bool} (suc n) d (either (symbol s.Semicolon) I) any_token ([], false)))

  -- the turns that are allowed do not matter, where they are as many as the tokens
  enough : (j n : ℕ) (ts : Tokens) → length ts ≤ j → length ts ≤ n → more_items item j ts ≡ more_items item n ts
  unfolding more_items
  enough zero zero ts h i = refl
  enough zero (suc n) [] h i = refl
  enough zero (suc n) (y ∷ ts) h i = absurd (omega arith)
  enough (suc j) zero [] h i = refl
  enough (suc j) zero (y ∷ ts) h i = absurd (omega arith)
  enough (suc j) (suc n) [] h i = refl
  enough (suc j) (suc n) (y ∷ ts) h i = at_mark (λ t a b. enough j n t a b) (front (symbol s.Semicolon) (y ∷ ts)) (sealed {B = List B × Bool} any_token ([], false) (y ∷ ts))
    where
      after_item : (t : Tokens) → length t ≤ length ts → ((t : Tokens) → length t ≤ j → length t ≤ n → more_items item j t ≡ more_items item n t) → (q : Out B) → item t ≡ q
          → and_then q (λ x. into {B = List B × Bool} (with_first G x) (more_items item j)) ≡ and_then q (λ x. into {B = List B × Bool} (with_first G x) (more_items item n))
      after_item t less again (ok x v) g =
          let f = (one (length t)).sound t x v (omega arith) g in
          let shorter : length v ≤ length ts = omega (arith, ap length f.whole, length-append f.front v, less) in
          ap (λ o. and_then o (λ r. pure (with_first G x r))) (again v (omega (arith, shorter, h)) (omega (arith, shorter, i)))
      after_item t less again (bad b) g = refl
      after_item t less again (deep b) g = refl

      at_end_or : (t : Tokens) → length t ≤ length ts → ((t : Tokens) → length t ≤ j → length t ≤ n → more_items item j t ≡ more_items item n t)
          → or_end {A = List B × Bool} ([], true) (item >>= λ x. into {B = List B × Bool} (with_first G x) (more_items item j)) t ≡ or_end {A = List B × Bool} ([], true) (item >>= λ x. into {B = List B × Bool} (with_first G x) (more_items item n)) t
      at_end_or [] less again = refl
      at_end_or (z ∷ t) less again = after_item (z ∷ t) less again (item (z ∷ t)) refl

      at_mark : ((t : Tokens) → length t ≤ j → length t ≤ n → more_items item j t ≡ more_items item n t) → (q : Option (Unit {0} × Spanned)) (b : Out (List B × Bool))
          → pick q (λ a. or_end {A = List B × Bool} ([], true) (item >>= λ x. into {B = List B × Bool} (with_first G x) (more_items item j)) ts) b ≡ pick q (λ a. or_end {A = List B × Bool} ([], true) (item >>= λ x. into {B = List B × Bool} (with_first G x) (more_items item n)) ts) b
      at_mark again None b = refl
      at_mark again (Some a) b = at_end_or ts (omega arith) again

  pub items_exact : (n : ℕ) → Exact n d d nobody all (AllItems G) (items item)
  unfolding items
  items_exact n = e.retype n d d nobody all (Ended (Following G) ([], false)) (AllItems G) (items item) (all_to G) (all_from G)
      (or_end_exact n d nobody (Following G) (item >>= λ x. into {B = List B × Bool} (with_first G x) (λ ts. more_items item (length ts) ts)) ([], false) following_some
      (next (one n) (λ x. mapped {B = List B × Bool} (with_first G x)
      (extend n d d I all (MoreItems G) (λ ts. more_items item (length ts) ts) (more_items item n) (λ ts h. enough (length ts) n ts (omega arith) h) (more_items_exact n)))))
