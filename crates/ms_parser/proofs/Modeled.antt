-- Items, and so models, are read as the grammar writes them.
use Rattle.std.proofs.Common.{◌≡◌, ℕ, suc, ◌≤◌, List, [], ◌∷◌, ◌++◌, length, Option, Some, None, Bool, false, refl, sym, ap, ◌∙◌, subst, arith, ◌⊎◌, inl, inr}
use Rattle.std.specs.Prelude.{option_and_then}
use Rattle.ms_syntax.specs.declared.token.Token.{Token}
use Rattle.ms_syntax.specs.declared.token.Token.TheVariants as tok
use Rattle.ms_syntax.specs.declared.token.Keyword.TheVariants as k
use Rattle.ms_syntax.specs.declared.token.Symbol.TheVariants as s
use Rattle.ms_syntax.specs.declared.token.Spanned.{Spanned}
use Rattle.ms_syntax.specs.declared.tree.Mode.{Mode}
use Rattle.ms_syntax.specs.declared.tree.Mode.TheVariants as m
use Rattle.ms_syntax.specs.Tree as x
use Rattle.ms_syntax.specs.Tree.{Ex, Kd, Bs, Indices, It, Items}
use Rattle.ms_syntax.specs.Grammar.{Tokens, ◌⋅◌, the, Writes, WritesNotes, WritesDecl, WritesElements, WritesParams, WritesGoal, WritesItem, WritesTree, WritesBase, WritesIndices, WritesMode, WritesKind, IsShallow, mark, left, left_after}
use Rattle.ms_parser.specs.Answers.{HasAnswer, IsWithin, from_front}
use Rattle.ms_cursor.specs.Reading.{Out, bad, deep, Parser, ok, pick, tagged, into, skip}
use Rattle.ms_cursor.specs.Kinds.{symbol, keyword}
use Rattle.ms_expressions.specs.Rules.{declared, declaration, under}
use Rattle.ms_cursor.specs.Kinds.{kind_word}
use Rattle.ms_parser.specs.Lists.{items}
use Rattle.ms_parser.specs.Items.{any, peek, if_name, of_range, an_item, model}
use Rattle.ms_parser.proofs.Classes.{symbol_class, keyword_class}
use Rattle.ms_parser.proofs.Exact.{widen, Exact, Stops, Found, Stuck, Passes, IsDeep, SameHead, nobody}
use Rattle.ms_parser.proofs.Choices.{either, some_or}
use Rattle.ms_parser.proofs.Read as r
use Rattle.ms_parser.proofs.Parts.{Pair, Image, Start, next, both, mapped, retold, behind, start}
use Rattle.ms_parser.proofs.Lists.{placed_exact}
use Rattle.ms_parser.proofs.Enclosed.{e_range, Fresh}
use Rattle.ms_parser.proofs.Bases.{IsWord, word_exact, IsKind, FreshKind, nobody_fresh_base}
use Rattle.ms_parser.proofs.Decls.{e_declared, IsDeclared, kind_exact, declared_exact, declaration_exact}
use Rattle.ms_parser.proofs.Items.{all, items_exact}
use Rattle.std.specs.Prelude.{Result}
use Rattle.ms_syntax.specs.declared.tree.Tree.{Tree}
use Rattle.ms_syntax.specs.Tree.{tree_view}
use Rattle.ms_cursor.specs.declared.stop.Stop.{Stop}
use Rattle.ms_cursor.specs.Reads.{Reads}
use Rattle.ms_parser.proofs.Law as law
use Rattle.ms_parser.proofs.Answered as t
use Rattle.ms_parser.proofs.ItemParts.{string_exact, any_at, range_at, any_in, range_in, value_exact, elements_exact, parameters_exact, constraint_exact, solve_exact, name_class_is, range_declared, RawOfRange, begins_no, range_some, of_range_to, assignment_from, range_from}

-- ---- a choice by the next token, which is left where it is

module _ {A B : Type 0} (n d1 d2 : ℕ) (I E : Token → Bool) (f : Token → Option A) (G H : B → Tokens → Type 0) (p q : Parser B)
    (first : (z : B) (w : Tokens) → G z w → ((y : Spanned) × (v : Tokens) × (a : A) × (w ≡ y ∷ v) × (f y.token ≡ Some a)) ⊎ H z w)
    (one : Exact n d1 d2 I E G p) (two : Exact n d1 d2 (either f I) E H q) where
  abbrev Either : B → Tokens → Type 0
  Either z w = G z w ⊎ H z w

  pk_some : (y : Spanned) (ts : Tokens) (a : A) → f y.token ≡ Some a → peek f p q (y ∷ ts) ≡ p (y ∷ ts)
  pk_some y ts a h = ap (λ o. pick (tagged y o) (λ b. p (y ∷ ts)) (q (y ∷ ts))) h

  pk_none : (y : Spanned) (ts : Tokens) → f y.token ≡ None → peek f p q (y ∷ ts) ≡ q (y ∷ ts)
  pk_none y ts h = ap (λ o. pick (tagged y o) (λ b. p (y ∷ ts)) (q (y ∷ ts))) h

  or_none : (o : Option A) (b : Bool) → some_or o b ≡ false → o ≡ None
  or_none None b h = refl
  or_none (Some a) b h = absurd (cc)

  or_clear : (o : Option A) (b : Bool) → some_or o b ≡ false → b ≡ false
  or_clear None b h = h
  or_clear (Some a) b h = absurd (cc)

  clear_all : (ts : Tokens) → Stops (either f I) ts → Stops I ts
  clear_all [] h = tt
  clear_all (y ∷ ts) h = or_clear (f y.token) (I y.token) h

  pk_starts : (z : B) (w r : Tokens) → Either z w → Stops E r → Stops I (w ++ r)
  pk_starts z w r (inl g) halt = one.starts z w r g halt
  pk_starts z w r (inr h) halt = clear_all (w ++ r) (two.starts z w r h halt)

  found_one : (ts : Tokens) (z : B) (r : Tokens) → Found d1 d2 G ts z r → Found d1 d2 Either ts z r
  found_one ts z r g = record { front = g.front; whole = g.whole; written = inl g.written; even = g.even }

  found_two : (ts : Tokens) (z : B) (r : Tokens) → Found d1 d2 H ts z r → Found d1 d2 Either ts z r
  found_two ts z r g = record { front = g.front; whole = g.whole; written = inr g.written; even = g.even }

  pk_sound_at : (y : Spanned) (ts : Tokens) (z : B) (r : Tokens) (o : Option A) → f y.token ≡ o → length (y ∷ ts) ≤ n → peek f p q (y ∷ ts) ≡ ok z r → Found d1 d2 Either (y ∷ ts) z r
  pk_sound_at y ts z r None t fits h = found_two (y ∷ ts) z r (two.sound (y ∷ ts) z r fits (sym (pk_none y ts t) ∙ h))
  pk_sound_at y ts z r (Some a) t fits h = found_one (y ∷ ts) z r (one.sound (y ∷ ts) z r fits (sym (pk_some y ts a t) ∙ h))

  pk_sound : (ts : Tokens) (z : B) (r : Tokens) → length ts ≤ n → peek f p q ts ≡ ok z r → Found d1 d2 Either ts z r
  pk_sound [] z r fits h = found_two [] z r (two.sound [] z r fits h)
  pk_sound (y ∷ ts) z r fits h = pk_sound_at y ts z r (f y.token) refl fits h

  stuck_one : (ts : Tokens) (j : ℕ) → Stuck d1 G ts j → Stuck d1 Either ts j
  stuck_one ts j g = record { front = g.front; rest = g.rest; whole = g.whole; count = g.count; value = g.value; more = g.more; written = inl g.written; even = g.even }

  stuck_two : (ts : Tokens) (j : ℕ) → Stuck d1 H ts j → Stuck d1 Either ts j
  stuck_two ts j g = record { front = g.front; rest = g.rest; whole = g.whole; count = g.count; value = g.value; more = g.more; written = inr g.written; even = g.even }

  pk_wrong_at : (y : Spanned) (ts : Tokens) (j : ℕ) (o : Option A) → f y.token ≡ o → length (y ∷ ts) ≤ n → peek f p q (y ∷ ts) ≡ bad j → Stuck d1 Either (y ∷ ts) j
  pk_wrong_at y ts j None t fits h = stuck_two (y ∷ ts) j (two.wrong (y ∷ ts) j fits (sym (pk_none y ts t) ∙ h))
  pk_wrong_at y ts j (Some a) t fits h = stuck_one (y ∷ ts) j (one.wrong (y ∷ ts) j fits (sym (pk_some y ts a t) ∙ h))

  pk_wrong : (ts : Tokens) (j : ℕ) → length ts ≤ n → peek f p q ts ≡ bad j → Stuck d1 Either ts j
  pk_wrong [] j fits h = stuck_two [] j (two.wrong [] j fits h)
  pk_wrong (y ∷ ts) j fits h = pk_wrong_at y ts j (f y.token) refl fits h

  over_one : (ts : Tokens) (j : ℕ) → Passes d1 G ts j → Passes d1 Either ts j
  over_one ts j g = record { front = g.front; opening = g.opening; rest = g.rest; whole = g.whole; count = g.count; value = g.value; more = g.more; written = inl g.written; edge = g.edge; opener = g.opener }

  over_two : (ts : Tokens) (j : ℕ) → Passes d1 H ts j → Passes d1 Either ts j
  over_two ts j g = record { front = g.front; opening = g.opening; rest = g.rest; whole = g.whole; count = g.count; value = g.value; more = g.more; written = inr g.written; edge = g.edge; opener = g.opener }

  pk_passed_at : (y : Spanned) (ts : Tokens) (j : ℕ) (o : Option A) → f y.token ≡ o → length (y ∷ ts) ≤ n → peek f p q (y ∷ ts) ≡ deep j → Passes d1 Either (y ∷ ts) j
  pk_passed_at y ts j None t fits h = over_two (y ∷ ts) j (two.passed (y ∷ ts) j fits (sym (pk_none y ts t) ∙ h))
  pk_passed_at y ts j (Some a) t fits h = over_one (y ∷ ts) j (one.passed (y ∷ ts) j fits (sym (pk_some y ts a t) ∙ h))

  pk_passed : (ts : Tokens) (j : ℕ) → length ts ≤ n → peek f p q ts ≡ deep j → Passes d1 Either ts j
  pk_passed [] j fits h = over_two [] j (two.passed [] j fits h)
  pk_passed (y ∷ ts) j fits h = pk_passed_at y ts j (f y.token) refl fits h

  to_two : (z : B) (w r : Tokens) → length (w ++ r) ≤ n → H z w → Stops E r → (peek f p q (w ++ r) ≡ ok z r) ⊎ (IsDeep (peek f p q (w ++ r)) × (left d1 w ≡ None))
  to_two z w r fits h halt =
      let same = skipped (w ++ r) (two.starts z w r h halt) in
      elim (two.right z w r fits h halt) as (λ _. (peek f p q (w ++ r) ≡ ok z r) ⊎ (IsDeep (peek f p q (w ++ r)) × (left d1 w ≡ None))) [
        | inl a ↦ inl (same ∙ a)
        | inr a ↦ inr (subst (λ (o : Out B). IsDeep o) (sym same) a.0, a.1)
      ]
    where
      skipped : (ts : Tokens) → Stops (either f I) ts → peek f p q ts ≡ q ts
      skipped [] s = refl
      skipped (y ∷ ts) s = pk_none y ts (or_none (f y.token) (I y.token) s)

  pk_right : (z : B) (w r : Tokens) → length (w ++ r) ≤ n → Either z w → Stops E r → (peek f p q (w ++ r) ≡ ok z r) ⊎ (IsDeep (peek f p q (w ++ r)) × (left d1 w ≡ None))
  pk_right z w r fits (inr h) halt = to_two z w r fits h halt
  pk_right z w r fits (inl g) halt = elim (first z w g) as (λ _. (peek f p q (w ++ r) ≡ ok z r) ⊎ (IsDeep (peek f p q (w ++ r)) × (left d1 w ≡ None))) [
    | inr h ↦ to_two z w r fits h halt
    | inl (y, v, a, i, j) ↦
        let same : peek f p q (w ++ r) ≡ p (w ++ r) = subst (λ (u : Tokens). peek f p q (u ++ r) ≡ p (u ++ r)) (sym i) (pk_some y (v ++ r) a j) in
        elim (one.right z w r fits g halt) as (λ _. (peek f p q (w ++ r) ≡ ok z r) ⊎ (IsDeep (peek f p q (w ++ r)) × (left d1 w ≡ None))) [
          | inl b ↦ inl (same ∙ b)
          | inr b ↦ inr (subst (λ (o : Out B). IsDeep o) (sym same) b.0, b.1)
        ]
  ]

  pk_frozen_at : (y : Spanned) (w b c : Tokens) (o : Option A) → f y.token ≡ o → length (y ∷ (w ++ b)) ≤ n → length (y ∷ (w ++ c)) ≤ n → peek f p q (y ∷ (w ++ b)) ≡ bad (length b) → SameHead b c → peek f p q (y ∷ (w ++ c)) ≡ bad (length c)
  pk_frozen_at y w b c None t fits fits2 h same = pk_none y (w ++ c) t ∙ two.frozen (y ∷ w) b c fits fits2 (sym (pk_none y (w ++ b) t) ∙ h) same
  pk_frozen_at y w b c (Some a) t fits fits2 h same = pk_some y (w ++ c) a t ∙ one.frozen (y ∷ w) b c fits fits2 (sym (pk_some y (w ++ b) a t) ∙ h) same

  pk_head_at : (y : Spanned) (b c : Tokens) (o : Option A) → f y.token ≡ o → length (y ∷ b) ≤ n → length (y ∷ c) ≤ n → peek f p q (y ∷ b) ≡ bad (suc (length b)) → peek f p q (y ∷ c) ≡ bad (suc (length c))
  pk_head_at y b c None t fits fits2 h = pk_none y c t ∙ two.frozen [] (y ∷ b) (y ∷ c) fits fits2 (sym (pk_none y b t) ∙ h) refl
  pk_head_at y b c (Some a) t fits fits2 h = pk_some y c a t ∙ one.frozen [] (y ∷ b) (y ∷ c) fits fits2 (sym (pk_some y b a t) ∙ h) refl

  pk_frozen : (w b c : Tokens) → length (w ++ b) ≤ n → length (w ++ c) ≤ n → peek f p q (w ++ b) ≡ bad (length b) → SameHead b c → peek f p q (w ++ c) ≡ bad (length c)
  pk_frozen [] [] [] fits fits2 h same = h
  pk_frozen [] [] (z ∷ c) fits fits2 h same = absurd same
  pk_frozen [] (y ∷ b) [] fits fits2 h same = absurd same
  pk_frozen [] (y ∷ b) (z ∷ c) fits fits2 h same =
      subst (λ (u : Spanned). peek f p q (u ∷ c) ≡ bad (suc (length c))) same (pk_head_at y b c (f y.token) refl fits (omega (arith, fits2)) h)
  pk_frozen (y ∷ w) b c fits fits2 h same = pk_frozen_at y w b c (f y.token) refl fits fits2 h same

  pk_steady_at : (x : B) (y : Spanned) (w b c : Tokens) (o : Option A) → f y.token ≡ o → length (y ∷ (w ++ b)) ≤ n → length (y ∷ (w ++ c)) ≤ n → peek f p q (y ∷ (w ++ b)) ≡ ok x b → SameHead b c → peek f p q (y ∷ (w ++ c)) ≡ ok x c
  pk_steady_at x y w b c None t fits fits2 h same = pk_none y (w ++ c) t ∙ two.steady x (y ∷ w) b c fits fits2 (sym (pk_none y (w ++ b) t) ∙ h) same
  pk_steady_at x y w b c (Some a) t fits fits2 h same = pk_some y (w ++ c) a t ∙ one.steady x (y ∷ w) b c fits fits2 (sym (pk_some y (w ++ b) a t) ∙ h) same

  pk_kept_at : (x : B) (y : Spanned) (b c : Tokens) (o : Option A) → f y.token ≡ o → length (y ∷ b) ≤ n → length (y ∷ c) ≤ n → peek f p q (y ∷ b) ≡ ok x (y ∷ b) → peek f p q (y ∷ c) ≡ ok x (y ∷ c)
  pk_kept_at x y b c None t fits fits2 h = pk_none y c t ∙ two.steady x [] (y ∷ b) (y ∷ c) fits fits2 (sym (pk_none y b t) ∙ h) refl
  pk_kept_at x y b c (Some a) t fits fits2 h = pk_some y c a t ∙ one.steady x [] (y ∷ b) (y ∷ c) fits fits2 (sym (pk_some y b a t) ∙ h) refl

  pk_steady : (x : B) (w b c : Tokens) → length (w ++ b) ≤ n → length (w ++ c) ≤ n → peek f p q (w ++ b) ≡ ok x b → SameHead b c → peek f p q (w ++ c) ≡ ok x c
  pk_steady x [] [] [] fits fits2 h same = h
  pk_steady x [] [] (z ∷ c) fits fits2 h same = absurd same
  pk_steady x [] (y ∷ b) [] fits fits2 h same = absurd same
  pk_steady x [] (y ∷ b) (z ∷ c) fits fits2 h same =
      subst (λ (u : Spanned). peek f p q (u ∷ c) ≡ ok x (u ∷ c)) same (pk_kept_at x y b c (f y.token) refl fits (omega (arith, fits2)) h)
  pk_steady x (y ∷ w) b c fits fits2 h same = pk_steady_at x y w b c (f y.token) refl fits fits2 h same

  pub peek_exact : Exact n d1 d2 I E (λ z w. G z w ⊎ H z w) (peek f p q)
  peek_exact = record { witness = (two.witness.0, two.witness.1, inr two.witness.2); starts = pk_starts; sound = pk_sound; right = pk_right; wrong = pk_wrong; passed = pk_passed; steady = pk_steady; frozen = pk_frozen }

-- ---- how a declaration begins

abbrev Begins_kind : Tokens → Type 0
Begins_kind w = (y : Spanned) × (v : Tokens) × (a : Unit {0}) × (w ≡ y ∷ v) × (kind_word y.token ≡ Some a)

head_the : (t : Token) (u : Tokens) → kind_word t ≡ Some tt → the t u → Begins_kind u
head_the t u h (y, n, i) = (y, [], tt, n, ap kind_word i ∙ h)

head_append : (w u v : Tokens) → w ≡ u ++ v → Begins_kind u → Begins_kind w
head_append w u v q (y, r, a, n, h) = (y, r ++ v, a, q ∙ ap (λ k. k ++ v) n, h)

head_after : (w u v : Tokens) → w ≡ u ++ v → u ≡ [] → Begins_kind v → Begins_kind w
head_after w u v q e (y, r, a, n, h) = (y, r, a, q ∙ ap (λ k. k ++ v) e ∙ n, h)

base_begins : (b : Bs) (w : Tokens) → WritesBase b w → Begins_kind w ⊎ ((c : Ex) × (b ≡ x.of_values c))
base_begins x.of_bool w g = inl (head_the (tok.Keyword k.Bool) w refl g)
base_begins x.of_int w g = inl (head_the (tok.Keyword k.Int) w refl g)
base_begins x.of_string w g = inl (head_the (tok.Keyword k.String) w refl g)
base_begins x.of_ann w g = inl (head_the (tok.Keyword k.Ann) w refl g)
base_begins x.set_of_int w (u, v, q, g, h) = inl (head_append w u v q (head_the (tok.Keyword k.Set) u refl g))
base_begins (x.set_of c) w (u, v, q, g, h) = inl (head_append w u v q (head_the (tok.Keyword k.Set) u refl g))
base_begins (x.of_values c) w g = inr (c, refl)

indices_begin : (is : Indices) (w : Tokens) → WritesIndices is w → Begins_kind w ⊎ ((w ≡ []) × (is ≡ x.no_indices))
indices_begin x.no_indices w g = inr (g, refl)
indices_begin (x.index i x.no_indices) w (u, v, q, g, h) = inl (head_append w u v q (head_the (tok.Keyword k.Array) u refl g))
indices_begin (x.index i (x.index j x.no_indices)) w (u, v, q, g, h) = inl (head_append w u v q (head_the (tok.Keyword k.Array) u refl g))
indices_begin (x.index i (x.index j (x.index l more))) w g = absurd g

kind_begins : (kd : Kd) (w : Tokens) → WritesKind kd w → Begins_kind w ⊎ ((c : Ex) × (kd ≡ x.kind x.no_indices m.Unmarked (x.of_values c)))
kind_begins (x.kind is md b) w (u, v, q, g, h) = elim (indices_begin is u g) as (λ _. Begins_kind w ⊎ ((c : Ex) × (x.kind is md b ≡ x.kind x.no_indices m.Unmarked (x.of_values c)))) [
  | inl i ↦ inl (head_append w u v q i)
  | inr (n, none) ↦ elim (marked_begins md b v h) as (λ _. Begins_kind w ⊎ ((c : Ex) × (x.kind is md b ≡ x.kind x.no_indices m.Unmarked (x.of_values c)))) [
    | inl i ↦ inl (head_after w u v q n i)
    | inr (c, j, l) ↦ inr (c, ap (λ a. x.kind a md b) none ∙ ap (λ a. x.kind x.no_indices a b) j ∙ ap (λ a. x.kind x.no_indices m.Unmarked a) l)
  ]
]
  where
    marked_begins : (md : Mode) (b : Bs) (v : Tokens) → (WritesMode md ⋅ WritesBase b) v → Begins_kind v ⊎ ((c : Ex) × (md ≡ m.Unmarked) × (b ≡ x.of_values c))
    marked_begins m.Var b v (u, r, q, g, h) = inl (head_append v u r q (head_the (tok.Keyword k.Var) u refl g))
    marked_begins m.Par b v (u, r, q, g, h) = inl (head_append v u r q (head_the (tok.Keyword k.Par) u refl g))
    marked_begins m.Unmarked b v (u, r, q, n, h) = elim (base_begins b r h) as (λ _. Begins_kind v ⊎ ((c : Ex) × (m.Unmarked ≡ m.Unmarked) × (b ≡ x.of_values c))) [
      | inl i ↦ inl (head_after v u r q n i)
      | inr (c, l) ↦ inr (c, refl, l)
    ]

declaration_begins : (z : It) (w : Tokens) → Image x.declaration WritesDecl z w → Begins_kind w ⊎ RawOfRange z w
declaration_begins z w (x.declare p kd n ns v, j, (b, (u, u2, q, (k1, k2, h, g, colon), rest))) = elim (kind_begins kd k1 g) as (λ _. Begins_kind w ⊎ RawOfRange z w) [
  | inl i ↦ inl (head_append w u u2 q (head_append u k1 k2 h i))
  | inr (c, is) ↦ inr (subst (λ (a : It). RawOfRange a w) (sym (j ∙ ap (λ a. x.declaration (x.declare p a n ns v)) is))
      (range_from p c n ns v w (subst (λ (a : Kd). WritesDecl (x.declare p a n ns v) w) is (b, (u, u2, q, (k1, k2, h, g, colon), rest)))))
]

-- ---- an item

if_name_none : (z : Ex) (f : Token → Option (Unit {0})) (u : Token) → f u ≡ None → if_name z f u ≡ None
if_name_none (x.name p n) f u h = ap (option_and_then (λ a. Some n)) h
if_name_none _ f u h = refl

of_range_exact : (n : ℕ) (I : Token → Bool) → Fresh I → Exact n 200 200 I e_declared RawOfRange of_range
unfolding of_range
of_range_exact n I fresh = next (placed_exact (λ c g. range_some c [] g refl) (range_at n I fresh))
    (λ r2. r.by_exact n n 200 200 200 (omega arith) e_range e_declared (if_name r2.1 (symbol s.Equal)) (λ w y. Image (x.assignment r2.0 w) Writes) (λ z. mark s.Colon ⋅ Image (range_declared r2) IsDeclared z)
    (λ w y. into (x.assignment r2.0 w) any) (skip (symbol s.Colon) (into (range_declared r2) (declared 200 (under 201) (under 200))))
    (λ y w h. subst (λ (u : Token). e_range u ≡ false) (sym ((symbol_class s.Equal).is y.token tt (name_class_is r2.1 (symbol s.Equal) y.token w h).0)) refl)
    (λ y w h. subst (λ (u : Token). left_after 200 u ≡ Some 200) (sym ((symbol_class s.Equal).is y.token tt (name_class_is r2.1 (symbol s.Equal) y.token w h).0)) refl)
    (λ w y h. mapped (x.assignment r2.0 w) (value_exact n))
    (behind (symbol_class s.Colon) (ap (λ q. some_or q false) (if_name_none r2.1 (symbol s.Equal) (tok.Symbol s.Colon) refl)) refl
    (mapped (range_declared r2) (declared_exact 200 (under 201) (under 200) any_at range_at any_in range_in n))))

abbrev Valued : Ex → Tokens → Type 0
Valued c = mark s.Equal ⋅ Writes c

abbrev RawItem : It → Tokens → Type 0
RawItem = Start {A = Unit {0}} (λ a. tok.Keyword k.Include) (λ a p. Image (x.include p) (λ w. the (tok.Text w))) (Start {A = Unit {0}} (λ a. tok.Keyword k.Enum) (λ a p. Image (λ r. x.enumeration p r.0 r.1) (Pair IsWord WritesElements))
    (Start {A = Unit {0}} (λ a. tok.Keyword k.Constraint) (λ a p. Image (λ r. x.constraint p r.0 r.1) (Pair Writes WritesNotes)) (Start {A = Unit {0}} (λ a. tok.Keyword k.Solve) (λ a p. Image (λ r. x.solve p r.0 r.1) (Pair WritesNotes WritesGoal))
    (Start {A = Unit {0}} (λ a. tok.Keyword k.Output) (λ a p. Image (x.output p) Writes) (Start {A = Unit {0}} (λ a. tok.Keyword k.Predicate) (λ a p. Image (λ r. x.predicate p r.0 r.1.0 r.1.1) (Pair IsWord (Pair WritesParams Valued)))
    (Start {A = Unit {0}} (λ a. tok.Keyword k.Function) (λ a p. Image (λ r. x.function p r.0 r.1.0 r.1.1.0 r.1.1.1) (Pair IsKind (Pair IsWord (Pair WritesParams Valued))))
    (λ z w. Image x.declaration WritesDecl z w ⊎ RawOfRange z w)))))))

item_to : (z : It) (w : Tokens) → RawItem z w → WritesItem z w
item_to z w (inl (a, p, (u, v, q, g, (c, j, h)))) = subst (λ (b : It). WritesItem b w) (sym j) (u, v, q, g, h)
item_to z w (inr (inl (a, p, (u, v, q, g, (c, j, h))))) = subst (λ (b : It). WritesItem b w) (sym j) (u, v, q, g, h)
item_to z w (inr (inr (inl (a, p, (u, v, q, g, (c, j, h)))))) = subst (λ (b : It). WritesItem b w) (sym j) (u, v, q, g, h)
item_to z w (inr (inr (inr (inl (a, p, (u, v, q, g, (c, j, h))))))) = subst (λ (b : It). WritesItem b w) (sym j) (u, v, q, g, h)
item_to z w (inr (inr (inr (inr (inl (a, p, (u, v, q, g, (c, j, h)))))))) = subst (λ (b : It). WritesItem b w) (sym j) (u, v, q, g, h)
item_to z w (inr (inr (inr (inr (inr (inl (a, p, (u, v, q, g, (c, j, h))))))))) = subst (λ (b : It). WritesItem b w) (sym j) (u, v, q, g, h)
item_to z w (inr (inr (inr (inr (inr (inr (inl (a, p, (u, v, q, g, (c, j, h)))))))))) = subst (λ (b : It). WritesItem b w) (sym j) (u, v, q, g, h)
item_to z w (inr (inr (inr (inr (inr (inr (inr (inl (d, j, g))))))))) = subst (λ (b : It). WritesItem b w) (sym j) g
item_to z w (inr (inr (inr (inr (inr (inr (inr (inr g)))))))) = of_range_to z w g

item_from : (z : It) (w : Tokens) → WritesItem z w → RawItem z w
item_from (x.include p n) w (u, v, q, g, h) = inl (tt, p, (u, v, q, g, (n, refl, h)))
item_from (x.enumeration p n ns) w (u, v, q, g, h) = inr (inl (tt, p, (u, v, q, g, ((n, ns), refl, h))))
item_from (x.constraint p c ns) w (u, v, q, g, h) = inr (inr (inl (tt, p, (u, v, q, g, ((c, ns), refl, h)))))
item_from (x.solve p ns c) w (u, v, q, g, h) = inr (inr (inr (inl (tt, p, (u, v, q, g, ((ns, c), refl, h))))))
item_from (x.output p c) w (u, v, q, g, h) = inr (inr (inr (inr (inl (tt, p, (u, v, q, g, (c, refl, h)))))))
item_from (x.predicate p n ps c) w (u, v, q, g, h) = inr (inr (inr (inr (inr (inl (tt, p, (u, v, q, g, ((n, (ps, c)), refl, h))))))))
item_from (x.function p kd n ps c) w (u, v, q, g, h) = inr (inr (inr (inr (inr (inr (inl (tt, p, (u, v, q, g, ((kd, (n, (ps, c))), refl, h)))))))))
item_from (x.declaration d) w g = inr (inr (inr (inr (inr (inr (inr (inl (d, refl, g))))))))
item_from (x.assignment p n c) w g = inr (inr (inr (inr (inr (inr (inr (inr (assignment_from p n c w g))))))))

an_item_exact : (n : ℕ) → Exact n 200 200 nobody e_declared WritesItem an_item
unfolding an_item
an_item_exact n = retold item_to item_from
    (start (keyword_class k.Include) (λ a. refl) (λ a. refl) (λ a p. mapped (x.include p) (widen (λ u h. refl) (string_exact n 200 nobody (λ w. refl))))
    (start (keyword_class k.Enum) (λ a. refl) (λ a. refl) (λ a p. mapped (λ r. x.enumeration p r.0 r.1) (both (word_exact n 200 nobody (λ w. refl)) (elements_exact n)))
    (start (keyword_class k.Constraint) (λ a. refl) (λ a. refl) (λ a p. mapped (λ r. x.constraint p r.0 r.1) (constraint_exact n))
    (start (keyword_class k.Solve) (λ a. refl) (λ a. refl) (λ a p. mapped (λ r. x.solve p r.0 r.1) (solve_exact n))
    (start (keyword_class k.Output) (λ a. refl) (λ a. refl) (λ a p. mapped (x.output p) (value_exact n))
    (start (keyword_class k.Predicate) (λ a. refl) (λ a. refl) (λ a p. mapped (λ r. x.predicate p r.0 r.1.0 r.1.1) (both (word_exact n 200 nobody (λ w. refl)) (both (parameters_exact n) (behind (symbol_class s.Equal) refl refl (value_exact n)))))
    (start (keyword_class k.Function) (λ a. refl) (λ a. refl) (λ a p. mapped (λ r. x.function p r.0 r.1.0 r.1.1.0 r.1.1.1)
    (both (kind_exact 200 (under 201) (under 200) any_at range_at any_in range_in n nobody (nobody_fresh_base, refl, refl, refl)) (both (word_exact n 200 nobody (λ w. refl)) (both (parameters_exact n) (behind (symbol_class s.Equal) refl refl (value_exact n))))))
    (peek_exact n 200 200 I7 e_declared kind_word (Image x.declaration WritesDecl) RawOfRange (into x.declaration (declaration 200 (under 201) (under 200))) of_range
    declaration_begins (mapped x.declaration (declaration_exact 200 (under 201) (under 200) any_at range_at any_in range_in n I7 fresh_kind)) (of_range_exact n (either kind_word I7) fresh_here)))))))))
  where
    I7 : Token → Bool
    I7 = either (keyword k.Function) (either (keyword k.Predicate) (either (keyword k.Output) (either (keyword k.Solve) (either (keyword k.Constraint) (either (keyword k.Enum) (either (keyword k.Include) nobody))))))

    fresh_here : Fresh (either kind_word I7)
    fresh_here = (λ n. refl, λ w. refl, λ w. refl, refl, refl, refl, refl, refl, refl, refl, refl, refl, refl)

    fresh_kind : FreshKind I7
    fresh_kind = (((λ n. refl, λ w. refl, λ w. refl, refl, refl, refl, refl, refl, refl, refl, refl, refl, refl), refl, refl, refl, refl, refl), refl, refl, refl)

item_some : (z : It) → WritesItem z [] → ⊥
item_some (x.include p n) g = begins_no p (tok.Keyword k.Include) _ g
item_some (x.enumeration p n ns) g = begins_no p (tok.Keyword k.Enum) _ g
item_some (x.constraint p c ns) g = begins_no p (tok.Keyword k.Constraint) _ g
item_some (x.solve p ns c) g = begins_no p (tok.Keyword k.Solve) _ g
item_some (x.output p c) g = begins_no p (tok.Keyword k.Output) _ g
item_some (x.predicate p n ps c) g = begins_no p (tok.Keyword k.Predicate) _ g
item_some (x.function p kd n ps c) g = begins_no p (tok.Keyword k.Function) _ g
item_some (x.declaration (x.declare p kd n ns v)) g = g.0
item_some (x.assignment p n c) g = begins_no p (tok.Name n) _ g

-- ---- all of a model

abbrev model_items : Parser (List It × Bool)
model_items = items an_item

exact : (n : ℕ) → Exact n 200 200 nobody all WritesTree model_items
exact = items_exact 200 e_declared refl WritesItem item_some an_item an_item_exact

pub one_model : (ts : Tokens) (x y : Items) → WritesTree x ts → WritesTree y ts → IsShallow ts → x ≡ y
one_model = law.one_value all WritesTree model_items exact

-- what the rule of models reads is written
pub model_written : (ts : Tokens) (z : Items) (r : Tokens) → model ts ≡ ok z r → WritesTree z ts × IsShallow ts
unfolding model
model_written ts z r h = law.whole_found all WritesTree model_items exact ts z r h

pub some_model : (ts : Tokens) → HasAnswer WritesTree ts
some_model = law.some_answer all WritesTree model_items exact

pub within : (ts : Tokens) (r : Result Tree Stop) → Reads tree_view (model ts) r [] → IsWithin (length ts) r
unfolding model
within = t.within tree_view all WritesTree model_items exact

pub answered : (ts : Tokens) (r : Result Tree Stop) → Reads tree_view (model ts) r [] → t.Answered tree_view WritesTree ts (from_front (length ts) r)
unfolding model
answered = t.answered tree_view all WritesTree model_items exact
