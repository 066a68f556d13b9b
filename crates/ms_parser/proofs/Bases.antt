-- What the rules of words, index sets, bases and kinds read is what the grammar writes.
use Rattle.std.proofs.Common.{◌≡◌, ℕ, suc, List, [], ◌∷◌, ◌++◌, Option, Some, None, Bool, false, refl, sym, ap, ◌∙◌, subst, append_assoc, ◌⊎◌, inl, inr}
use Rattle.ms_syntax.specs.declared.token.Token.{Token}
use Rattle.ms_syntax.specs.declared.token.Token.TheVariants as tok
use Rattle.ms_syntax.specs.declared.token.Keyword.TheVariants as k
use Rattle.ms_syntax.specs.declared.token.Symbol.TheVariants as s
use Rattle.ms_syntax.specs.declared.token.Spanned.{Spanned}
use Rattle.ms_syntax.specs.declared.token.Place.{Place}
use Rattle.ms_syntax.specs.declared.tree.Mode.{Mode}
use Rattle.ms_syntax.specs.declared.tree.Mode.TheVariants as m
use Rattle.ms_syntax.specs.Tree as x
use Rattle.ms_syntax.specs.Tree.{Ex, Maybe, Kd, Bs, Indices}
use Rattle.ms_syntax.specs.Grammar.{Tokens, ◌⋅◌, the, at, WritesIndex, WritesIndices, WritesMode, WritesBase, WritesKind, mark, word}
use Rattle.ms_expressions.specs.declared.reach.Reach.{Reach}
use Rattle.ms_expressions.specs.declared.reach.Reach.TheVariants as reach
use Rattle.ms_cursor.specs.Reading.{Out, bad, deep, Parser, ◌>>=◌, ok, and_then, pick, front, after, pure, by, into, skip, closing}
use Rattle.ms_cursor.specs.Kinds.{a_name, symbol, keyword}
use Rattle.ms_expressions.specs.Rules.{a_word, index_set, index_sets}
use Rattle.ms_parser.proofs.Classes.{name_class, symbol_class, keyword_class}
use Rattle.ms_parser.proofs.Exact.{Exact, Seq, Just, One, nobody, append_nil, extend}
use Rattle.ms_parser.proofs.Choices.{either}
use Rattle.ms_parser.proofs.Parts.{Pair, Image, Start, Has, token_at, the_has, next, mapped, retold, none_after, take, behind, start}
use Rattle.ms_parser.proofs.Enclosed.{e_range, Fresh, nobody_fresh, IsAt}

-- ---- what goes by a choice goes on in each case

choice_then : {A B C : Type 0} (q : Option (A × Spanned)) (p : A → Spanned → Out B) (b : Out B) (g : B → Parser C) → and_then (pick q (λ a. p a.0 a.1) b) g ≡ pick q (λ a. and_then (p a.0 a.1) g) (and_then b g)
choice_then None p b g = refl
choice_then (Some a) p b g = refl

pub split : {A B C : Type 0} {n d1 d2 : ℕ} {I E : Token → Bool} {G : C → Tokens → Type 0} (f : Token → Option A) (p : A → Spanned → Parser B) (q : Parser B) (g : B → Parser C)
    → Exact n d1 d2 I E G (by f (λ a y. p a y >>= g) (q >>= g)) → Exact n d1 d2 I E G (by f p q >>= g)
split {n = n} {d1 = d1} {d2 = d2} {I = I} {E = E} {G = G} f p q g one =
    extend n d1 d2 I E G (by f p q >>= g) (by f (λ a y. p a y >>= g) (q >>= g)) (λ ts h. choice_then (front f ts) (λ a y. p a y (after ts)) (q ts) g) one

and_then_twice : {A B C : Type 0} (q : Out A) (p : A → Parser B) (g : B → Parser C) → and_then (and_then q p) g ≡ and_then q (λ a t. and_then (p a t) g)
and_then_twice (ok a t) p g = refl
and_then_twice (bad n) p g = refl
and_then_twice (deep n) p g = refl

pub regroup : {A B C : Type 0} {n d1 d2 : ℕ} {I E : Token → Bool} {G : C → Tokens → Type 0} (p : Parser A) (q : A → Parser B) (g : B → Parser C)
    → Exact n d1 d2 I E G (p >>= λ a. q a >>= g) → Exact n d1 d2 I E G ((p >>= q) >>= g)
regroup {n = n} {d1 = d1} {d2 = d2} {I = I} {E = E} {G = G} p q g one =
    extend n d1 d2 I E G ((p >>= q) >>= g) (p >>= λ a. q a >>= g) (λ ts h. and_then_twice (p ts) q g) one

-- ---- words

abbrev pub IsWord : List ℕ → Tokens → Type 0
IsWord w = the (tok.Name w)

pub word_exact : (n d : ℕ) (I : Token → Bool) → ((w : List ℕ) → I (tok.Name w) ≡ false) → Exact n d d I nobody IsWord a_word
word_exact n d I clear = retold to from (mapped (λ c. c.0) (take name_class [] clear (λ w. refl)))
  where
    to : (z : List ℕ) (w : Tokens) → Image (λ c. c.0) (One a_name) z w → IsWord z w
    to z w (c, i, (h, g)) = subst (λ (q : List ℕ). IsWord q w) (sym i) (c.1, h, name_class.is c.1.token c.0 g)

    from : (z : List ℕ) (w : Tokens) → IsWord z w → Image (λ c. c.0) (One a_name) z w
    from z w (y, h, i) = ((z, y), refl, (h, ap a_name i))

-- ---- index sets

abbrev pub Sets : Indices → Tokens → Type 0
Sets x.no_indices w = ⊥
Sets (x.index i x.no_indices) w = (WritesIndex i ⋅ mark s.CloseBracket) w
Sets (x.index i (x.index j x.no_indices)) w = (WritesIndex i ⋅ mark s.Comma ⋅ WritesIndex j ⋅ mark s.CloseBracket) w
Sets (x.index i (x.index j (x.index l more))) w = ⊥

abbrev RawSets : Maybe → Indices → Tokens → Type 0
RawSets i = Start {A = Unit {0}} (λ a. tok.Symbol s.Comma) (λ a z. Image (λ j. x.index i (x.index j x.no_indices)) (λ j. WritesIndex j ⋅ mark s.CloseBracket)) (λ z. mark s.CloseBracket ⋅ Just (x.index i x.no_indices) z)

sets_to : (is : Indices) (w : Tokens) → Seq WritesIndex RawSets is w → Sets is w
sets_to is w (i, u, v, q, g, inl (a, p, (b, c, h, (y, n, t, l), (j, is2, rest)))) = subst (λ (z : Indices). Sets z w) (sym is2) (u, v, q, g, (b, c, h, (y, n, t), rest))
sets_to is w (i, u, v, q, g, inr (b, c, h, end, (is2, n))) = subst (λ (z : Indices). Sets z w) (sym is2) (u, v, q, g, subst (mark s.CloseBracket) (sym (h ∙ ap (λ z. b ++ z) n ∙ append_nil b)) end)

sets_from : (is : Indices) (w : Tokens) → Sets is w → Seq WritesIndex RawSets is w
sets_from x.no_indices w g = absurd g
sets_from (x.index i x.no_indices) w (u, v, q, g, end) = (i, u, v, q, g, inr (v, [], sym (append_nil v), end, (refl, refl)))
sets_from (x.index i (x.index j x.no_indices)) w (u, v, q, g, (b, c, h, (y, n, t), rest)) = (i, u, v, q, g, inl (tt, y.place, (b, c, h, (y, n, t, refl), (j, refl, rest))))
sets_from (x.index i (x.index j (x.index l more))) w g = absurd g

module _ (n d1 d2 : ℕ) (inmost : Reach → Parser Ex) (range : (n : ℕ) (I : Token → Bool) → Fresh I → Exact n d1 d1 I e_range (IsAt 6) (inmost reach.Range))
    {B : Type 0} (E : Token → Bool) (K : Maybe → B → Tokens → Type 0) (g : Maybe → Parser B) (after_word : Exact n d1 d2 nobody E (K x.absent) (g x.absent)) (after_range : (j : Maybe) → Exact n d1 d2 e_range E (K j) (g j)) where
  abbrev RawIndex : B → Tokens → Type 0
  RawIndex = Start {A = Unit {0}} (λ a. tok.Keyword k.Int) (λ a z. K x.absent) (Seq (Image x.present (IsAt 6)) K)

  index_to : (z : B) (w : Tokens) → RawIndex z w → Seq WritesIndex K z w
  index_to z w (inl (a, p, (u, v, q, (y, h, t, l), rest))) = (x.absent, u, v, q, (y, h, t), rest)
  index_to z w (inr (j, u, v, q, (e, i, h), rest)) = (j, u, v, q, subst (λ (a : Maybe). WritesIndex a u) (sym i) h, rest)

  index_from : (z : B) (w : Tokens) → Seq WritesIndex K z w → RawIndex z w
  index_from z w (x.absent, u, v, q, (y, h, t), rest) = inl (tt, y.place, (u, v, q, (y, h, t, refl), rest))
  index_from z w (x.present e, u, v, q, h, rest) = inr (x.present e, u, v, q, (e, refl, h), rest)

  pub index_exact : (I : Token → Bool) → Fresh I → I (tok.Keyword k.Int) ≡ false → Exact n d1 d2 I E (Seq WritesIndex K) (index_set inmost >>= g)
  unfolding index_set
  index_exact I fresh clear = retold index_to index_from (split (keyword k.Int) (λ a y. pure x.absent) (into x.present (inmost reach.Range)) g (start (keyword_class k.Int) (λ a. clear) (λ a. refl) (λ a z. after_word) (next (mapped x.present (range n (either (keyword k.Int) I) fresh)) after_range)))

module _ (d : ℕ) (inmost : Reach → Parser Ex) (range : (n : ℕ) (I : Token → Bool) → Fresh I → Exact n d d I e_range (IsAt 6) (inmost reach.Range)) where
  one_end : (n : ℕ) (J : Token → Bool) → J (tok.Symbol s.CloseBracket) ≡ false → (j : Maybe) → Exact n d (suc d) J nobody (λ z. mark s.CloseBracket ⋅ Just j z) (skip (symbol s.CloseBracket) (pure j))
  one_end n J h j = behind (symbol_class s.CloseBracket) h refl (none_after j)

  end_to : (j : Maybe) (w : Tokens) → Seq WritesIndex (λ j z. mark s.CloseBracket ⋅ Just j z) j w → (WritesIndex j ⋅ mark s.CloseBracket) w
  end_to j w (i, u, v, q, g, (b, c, h, end, (l, n))) = subst (λ (z : Maybe). (WritesIndex z ⋅ mark s.CloseBracket) w) (sym l) (u, v, q, g, subst (mark s.CloseBracket) (sym (h ∙ ap (λ z. b ++ z) n ∙ append_nil b)) end)

  end_from : (j : Maybe) (w : Tokens) → (WritesIndex j ⋅ mark s.CloseBracket) w → Seq WritesIndex (λ j z. mark s.CloseBracket ⋅ Just j z) j w
  end_from j w (u, v, q, g, end) = (j, u, v, q, g, (v, [], sym (append_nil v), end, (refl, refl)))

  last_index : (n : ℕ) → Exact n d (suc d) nobody nobody (λ j. WritesIndex j ⋅ mark s.CloseBracket) (closing (symbol s.CloseBracket) (index_set inmost))
  last_index n = retold end_to end_from (index_exact n d (suc d) inmost range nobody (λ j z. mark s.CloseBracket ⋅ Just j z) (λ j. skip (symbol s.CloseBracket) (pure j))
      (one_end n nobody refl x.absent) (λ j. one_end n e_range refl j) nobody nobody_fresh refl)

  rest_exact : (n : ℕ) (J : Token → Bool) → J (tok.Symbol s.Comma) ≡ false → J (tok.Symbol s.CloseBracket) ≡ false → (i : Maybe) → Exact n d (suc d) J nobody (RawSets i)
      (by (symbol s.Comma) (λ a y. into (λ j. x.index i (x.index j x.no_indices)) (closing (symbol s.CloseBracket) (index_set inmost))) (skip (symbol s.CloseBracket) (pure (x.index i x.no_indices))))
  rest_exact n J h h2 i = start (symbol_class s.Comma) (λ a. h) (λ a. refl) (λ a z. mapped (λ j. x.index i (x.index j x.no_indices)) (last_index n)) (behind (symbol_class s.CloseBracket) h2 refl (none_after (x.index i x.no_indices)))

  pub sets_exact : (n : ℕ) → Exact n d (suc d) nobody nobody Sets (index_sets inmost)
  unfolding index_sets
  sets_exact n = retold sets_to sets_from (index_exact n d (suc d) inmost range nobody RawSets
      (λ i. by (symbol s.Comma) (λ a y. into (λ j. x.index i (x.index j x.no_indices)) (closing (symbol s.CloseBracket) (index_set inmost))) (skip (symbol s.CloseBracket) (pure (x.index i x.no_indices))))
      (rest_exact n nobody refl refl x.absent) (λ j. rest_exact n e_range refl refl j) nobody nobody_fresh refl)

-- ---- bases and kinds, each with the colon behind it

abbrev pub IsBase : Bs → Tokens → Type 0
IsBase b = WritesBase b ⋅ mark s.Colon

abbrev pub Word_only : Bs → Bs → Tokens → Type 0
Word_only b z = Just b z ⋅ mark s.Colon

abbrev pub RawSetBase : Bs → Tokens → Type 0
RawSetBase z = word k.Of ⋅ Start {A = Unit {0}} (λ a. tok.Keyword k.Int) (λ a p. Word_only x.set_of_int) (λ z. Image x.set_of (IsAt 6) z ⋅ mark s.Colon) z

abbrev RawBase : Bs → Tokens → Type 0
RawBase = Start {A = Unit {0}} (λ a. tok.Keyword k.Bool) (λ a p. Word_only x.of_bool) (Start {A = Unit {0}} (λ a. tok.Keyword k.Int) (λ a p. Word_only x.of_int) (Start {A = Unit {0}} (λ a. tok.Keyword k.String) (λ a p. Word_only x.of_string)
    (Start {A = Unit {0}} (λ a. tok.Keyword k.Ann) (λ a p. Word_only x.of_ann) (Start {A = Unit {0}} (λ a. tok.Keyword k.Set) (λ a p. RawSetBase) (λ z. Image x.of_values (IsAt 6) z ⋅ mark s.Colon)))))

one_word : (t : Token) (b z : Bs) (w : Tokens) (p : Place) → ((w : Tokens) → the t w → WritesBase b w) → (at p t ⋅ Word_only b z) w → IsBase z w
one_word t b z w p f (u, v, q, (y, n, i, l), (c, d, h, (j, o), end)) = subst (λ (a : Bs). IsBase a w) (sym j) (u, d, q ∙ ap (λ a. u ++ a) (h ∙ ap (λ a. a ++ d) o), f u (y, n, i), end)

pub base_to : (z : Bs) (w : Tokens) → RawBase z w → IsBase z w
base_to z w (inl (a, p, g)) = one_word (tok.Keyword k.Bool) x.of_bool z w p (λ w h. h) g
base_to z w (inr (inl (a, p, g))) = one_word (tok.Keyword k.Int) x.of_int z w p (λ w h. h) g
base_to z w (inr (inr (inl (a, p, g)))) = one_word (tok.Keyword k.String) x.of_string z w p (λ w h. h) g
base_to z w (inr (inr (inr (inl (a, p, g))))) = one_word (tok.Keyword k.Ann) x.of_ann z w p (λ w h. h) g
base_to z w (inr (inr (inr (inr (inl (a, p, (u, v, q, (y, n, i, l), (u2, v2, q2, of, inl (a3, p3, (u3, v3, q3, (y3, n3, i3, l3), (c, d, h, (j, nil), end)))))))))))
    = subst (λ (b : Bs). IsBase b w) (sym j) (
      u ++ (u2 ++ u3),
      d,
      q ∙ ap (λ b. u ++ b) (q2 ∙ ap (λ b. u2 ++ b) (q3 ∙ ap (λ b. u3 ++ b) (h ∙ ap (λ b. b ++ d) nil)) ∙ sym (append_assoc u2 u3 d)) ∙ sym (append_assoc u (u2 ++ u3) d),
      (u, u2 ++ u3, refl, (y, n, i), (u2, u3, refl, of, (y3, n3, i3))),
      end,
    )
base_to z w (inr (inr (inr (inr (inl (a, p, (u, v, q, (y, n, i, l), (u2, v2, q2, of, inr (u3, v3, q3, (e, j, g), end)))))))))
    = subst (λ (b : Bs). IsBase b w) (sym j) (
      u ++ (u2 ++ u3),
      v3,
      q ∙ ap (λ b. u ++ b) (q2 ∙ ap (λ b. u2 ++ b) q3 ∙ sym (append_assoc u2 u3 v3)) ∙ sym (append_assoc u (u2 ++ u3) v3),
      (u, u2 ++ u3, refl, (y, n, i), (u2, u3, refl, of, g)),
      end,
    )
base_to z w (inr (inr (inr (inr (inr (u, v, q, (e, j, g), end)))))) = subst (λ (b : Bs). IsBase b w) (sym j) (u, v, q, g, end)

from_word : (t : Token) (b : Bs) (w : Tokens) → (the t ⋅ mark s.Colon) w → (p : Place) × (at p t ⋅ Word_only b b) w
from_word t b w (u, v, q, (y, n, i), end) = (y.place, (u, v, q, (y, n, i, refl), ([], v, refl, (refl, refl), end)))

pub base_from : (z : Bs) (w : Tokens) → IsBase z w → RawBase z w
base_from x.of_bool w g = let a = from_word (tok.Keyword k.Bool) x.of_bool w g in inl (tt, a.0, a.1)
base_from x.of_int w g = let a = from_word (tok.Keyword k.Int) x.of_int w g in inr (inl (tt, a.0, a.1))
base_from x.of_string w g = let a = from_word (tok.Keyword k.String) x.of_string w g in inr (inr (inl (tt, a.0, a.1)))
base_from x.of_ann w g = let a = from_word (tok.Keyword k.Ann) x.of_ann w g in inr (inr (inr (inl (tt, a.0, a.1))))
base_from x.set_of_int w (c, d, q, (u, v, h, (y, n, i), (u2, u3, h2, of, (y3, n3, i3))), end) =
    inr (inr (inr (inr (inl (
      tt,
      y.place,
      (
        u,
        u2 ++ (u3 ++ d),
        q ∙ ap (λ b. b ++ d) (h ∙ ap (λ b. u ++ b) h2) ∙ append_assoc u (u2 ++ u3) d ∙ ap (λ b. u ++ b) (append_assoc u2 u3 d),
        (y, n, i, refl),
        (u2, u3 ++ d, refl, of, inl (tt, y3.place, (u3, d, refl, (y3, n3, i3, refl), ([], d, refl, (refl, refl), end)))),
      ),
    )))))
base_from (x.set_of e) w (c, d, q, (u, v, h, (y, n, i), (u2, u3, h2, of, g)), end) =
    inr (inr (inr (inr (inl (
      tt,
      y.place,
      (
        u,
        u2 ++ (u3 ++ d),
        q ∙ ap (λ b. b ++ d) (h ∙ ap (λ b. u ++ b) h2) ∙ append_assoc u (u2 ++ u3) d ∙ ap (λ b. u ++ b) (append_assoc u2 u3 d),
        (y, n, i, refl),
        (u2, u3 ++ d, refl, of, inr (u3, d, refl, (e, refl, g), end)),
      ),
    )))))
base_from (x.of_values e) w (u, v, q, g, end) = inr (inr (inr (inr (inr (u, v, q, (e, refl, g), end)))))

-- none of I begins a kind
abbrev pub FreshBase : (Token → Bool) → Type 0
FreshBase I = Fresh I × (I (tok.Keyword k.Bool) ≡ false) × (I (tok.Keyword k.Int) ≡ false) × (I (tok.Keyword k.String) ≡ false) × (I (tok.Keyword k.Ann) ≡ false) × (I (tok.Keyword k.Set) ≡ false)

abbrev pub FreshKind : (Token → Bool) → Type 0
FreshKind I = FreshBase I × (I (tok.Keyword k.Var) ≡ false) × (I (tok.Keyword k.Par) ≡ false) × (I (tok.Keyword k.Array) ≡ false)

pub nobody_fresh_base : FreshBase nobody
nobody_fresh_base = (nobody_fresh, refl, refl, refl, refl, refl)

abbrev pub IsMarked : Mode × Bs → Tokens → Type 0
IsMarked r = WritesMode r.0 ⋅ IsBase r.1

abbrev RawMarked : Mode × Bs → Tokens → Type 0
RawMarked = Start {A = Unit {0}} (λ a. tok.Keyword k.Var) (λ a p. Image {B = Mode × Bs} (λ b. (m.Var, b)) IsBase) (Start {A = Unit {0}} (λ a. tok.Keyword k.Par) (λ a p. Image {B = Mode × Bs} (λ b. (m.Par, b)) IsBase) (Image {B = Mode × Bs} (λ b. (m.Unmarked, b)) IsBase))

pub marked_to : (z : Mode × Bs) (w : Tokens) → RawMarked z w → IsMarked z w
marked_to z w (inl (a, p, (u, v, q, (y, n, i, l), (b, j, g)))) = subst (λ (c : Mode × Bs). IsMarked c w) (sym j) (u, v, q, (y, n, i), g)
marked_to z w (inr (inl (a, p, (u, v, q, (y, n, i, l), (b, j, g))))) = subst (λ (c : Mode × Bs). IsMarked c w) (sym j) (u, v, q, (y, n, i), g)
marked_to z w (inr (inr (b, j, g))) = subst (λ (c : Mode × Bs). IsMarked c w) (sym j) ([], w, refl, refl, g)

pub marked_from : (z : Mode × Bs) (w : Tokens) → IsMarked z w → RawMarked z w
marked_from z w g = by_mode z.0 z.1 w g
  where
    by_mode : (n : Mode) (b : Bs) (w : Tokens) → (WritesMode n ⋅ IsBase b) w → RawMarked (n, b) w
    by_mode m.Var b w (u, v, q, (y, n, i), g) = inl (tt, y.place, (u, v, q, (y, n, i, refl), (b, refl, g)))
    by_mode m.Par b w (u, v, q, (y, n, i), g) = inr (inl (tt, y.place, (u, v, q, (y, n, i, refl), (b, refl, g))))
    by_mode m.Unmarked b w (u, v, q, n, g) = inr (inr (b, refl, subst (IsBase b) (sym (q ∙ ap (λ z. z ++ v) n)) g))

abbrev pub IsKind : Kd → Tokens → Type 0
IsKind kd = WritesKind kd ⋅ mark s.Colon

abbrev pub kind_of : Indices × (Mode × Bs) → Kd
kind_of r = x.kind r.0 r.1.0 r.1.1

abbrev pub plain_kind : Mode × Bs → Kd
plain_kind r = x.kind x.no_indices r.0 r.1

abbrev IsBracketed : Indices → Tokens → Type 0
IsBracketed = Seq (One (symbol s.OpenBracket)) (λ c. Sets)

abbrev RawKind : Kd → Tokens → Type 0
RawKind = Start {A = Unit {0}} (λ a. tok.Keyword k.Array) (λ a p. Image kind_of (Pair IsBracketed (λ r. word k.Of ⋅ IsMarked r))) (Image plain_kind IsMarked)

kind_end : (is : Indices) (n : Mode) (b : Bs) (w u v : Tokens) → w ≡ u ++ v → WritesIndices is u → IsMarked (n, b) v → IsKind (x.kind is n b) w
kind_end is n b w u v q g (c, d, h, wm, (d2, d3, h2, wb, end)) =
    (u ++ (c ++ d2), d3, q ∙ ap (λ z. u ++ z) (h ∙ ap (λ z. c ++ z) h2 ∙ sym (append_assoc c d2 d3)) ∙ sym (append_assoc u (c ++ d2) d3), (u, c ++ d2, refl, g, (c, d2, refl, wm, wb)), end)

sets_written : (is : Indices) (w a b c d : Tokens) → w ≡ a ++ (b ++ (c ++ d)) → word k.Array a → mark s.OpenBracket b → Sets is c → word k.Of d → WritesIndices is w
sets_written x.no_indices w a b c d q arr open' g of = absurd g
sets_written (x.index i x.no_indices) w a b c d q arr open' (u, v, h, g, end) of =
    (a, b ++ (c ++ d), q, arr, (b, c ++ d, refl, open', (u, v ++ d, ap (λ z. z ++ d) h ∙ append_assoc u v d, g, (v, d, refl, end, of))))
sets_written (x.index i (x.index j x.no_indices)) w a b c d q arr open' (u, v, h, g, (u2, v2, h2, sep, (u3, v3, h3, g3, end))) of = (
  a,
  b ++ (c ++ d),
  q,
  arr,
  (
    b,
    c ++ d,
    refl,
    open',
    (
      u,
      v ++ d,
      ap (λ z. z ++ d) h ∙ append_assoc u v d,
      g,
      (
        u2,
        v2 ++ d,
        ap (λ z. z ++ d) h2 ∙ append_assoc u2 v2 d,
        sep,
        (u3, v3 ++ d, ap (λ z. z ++ d) h3 ∙ append_assoc u3 v3 d, g3, (v3, d, refl, end, of)),
      ),
    ),
  ),
)
sets_written (x.index i (x.index j (x.index l more))) w a b c d q arr open' g of = absurd g

pub kind_to : (z : Kd) (w : Tokens) → RawKind z w → IsKind z w
kind_to z w (inr (b, j, g)) = subst (λ (c : Kd). IsKind c w) (sym j) (kind_end x.no_indices b.0 b.1 w [] w refl refl g)
kind_to z w (inl (a, p, (u, v, q, (y, n, i, l), (t, j, (b, c, h, (o, b2, c2, h2, (m2, o2), sets), (d, d2, h3, of, g)))))) =
    subst (λ (c : Kd). IsKind c w) (sym j) (kind_end t.0 t.1.0 t.1.1 w (u ++ (b2 ++ (c2 ++ d))) d2 whole
    (sets_written t.0 (u ++ (b2 ++ (c2 ++ d))) u b2 c2 d refl (y, n, i) (o.1, m2, (symbol_class s.OpenBracket).is o.1.token o.0 o2) sets of) g)
  where
    whole : w ≡ (u ++ (b2 ++ (c2 ++ d))) ++ d2
    whole = q ∙ ap (λ z. u ++ z) (h ∙ ap (λ z. z ++ c) h2 ∙ append_assoc b2 c2 c ∙ ap (λ z. b2 ++ (c2 ++ z)) h3 ∙ ap (λ z. b2 ++ z) (sym (append_assoc c2 d d2)) ∙ sym (append_assoc b2 (c2 ++ d) d2)) ∙ sym (append_assoc u (b2 ++ (c2 ++ d)) d2)

sets_of : (is : Indices) (w : Tokens) → WritesIndices is w → (w ≡ []) × (is ≡ x.no_indices) ⊎ ((word k.Array ⋅ mark s.OpenBracket ⋅ Sets is ⋅ word k.Of) w)
sets_of x.no_indices w g = inl (g, refl)
sets_of (x.index i x.no_indices) w (a, v, q, arr, (b, v2, q2, open', (c, v3, q3, g, (d, v4, q4, end, of)))) =
    inr (a, v, q, arr, (b, v2, q2, open', (c ++ d, v4, q3 ∙ ap (λ z. c ++ z) q4 ∙ sym (append_assoc c d v4), (c, d, refl, g, end), of)))
sets_of (x.index i (x.index j x.no_indices)) w (a, v, q, arr, (b, v2, q2, open', (c, v3, q3, g, (d, v4, q4, sep, (e2, v5, q5, g2, (f, v6, q6, end, of)))))) =
    inr (
      a,
      v,
      q,
      arr,
      (
        b,
        v2,
        q2,
        open',
        (
          c ++ (d ++ (e2 ++ f)),
          v6,
          q3 ∙ ap (λ z. c ++ z) (q4 ∙ ap (λ z. d ++ z) (q5 ∙ ap (λ z. e2 ++ z) q6 ∙ sym (append_assoc e2 f v6)) ∙ sym (append_assoc d (e2 ++ f) v6)) ∙ sym (append_assoc c (d ++ (e2 ++ f)) v6),
          (c, d ++ (e2 ++ f), refl, g, (d, e2 ++ f, refl, sep, (e2, f, refl, g2, end))),
          of,
        ),
      ),
    )
sets_of (x.index i (x.index j (x.index l more))) w g = absurd g

pub kind_from : (z : Kd) (w : Tokens) → IsKind z w → RawKind z w
kind_from (x.kind is n b) w (u, d3, q, (c, d, h, wi, (d2, d4, h2, wm, wb)), end) = elim (sets_of is c wi) as (λ _. RawKind (x.kind is n b) w) [
  | inl g ↦ inr ((n, b), ap (λ z. x.kind z n b) g.1, subst (IsMarked (n, b)) (sym (q ∙ ap (λ z. z ++ d3) (h ∙ ap (λ z. z ++ d) g.0))) (d2, d4 ++ d3, ap (λ z. z ++ d3) h2 ∙ append_assoc d2 d4 d3, wm, (d4, d3, refl, wb, end)))
  | inr (a, v, q1, (y, m1, t), (a2, v2, q2, (y2, m2, t2), (a3, v3, q3, sets, of))) ↦
      let whole : w ≡ a ++ ((a2 ++ a3) ++ (v3 ++ (d ++ d3))) =
      q ∙ ap (λ z. z ++ d3) (h ∙ ap (λ z. z ++ d) (q1 ∙ ap (λ z. a ++ z) (q2 ∙ ap (λ z. a2 ++ z) q3)) ∙ append_assoc a (a2 ++ (a3 ++ v3)) d ∙ ap (λ z. a ++ z) (append_assoc a2 (a3 ++ v3) d ∙ ap (λ z. a2 ++ z) (append_assoc a3 v3 d) ∙ sym (append_assoc a2 a3 (v3 ++ d))))
      ∙ append_assoc a ((a2 ++ a3) ++ (v3 ++ d)) d3 ∙ ap (λ z. a ++ z) (append_assoc (a2 ++ a3) (v3 ++ d) d3 ∙ ap (λ z. (a2 ++ a3) ++ z) (append_assoc v3 d d3)) in
      inl (
        tt,
        y.place,
        (
          a,
          (a2 ++ a3) ++ (v3 ++ (d ++ d3)),
          whole,
          (y, m1, t, refl),
          (
            (is, (n, b)),
            refl,
            (
              a2 ++ a3,
              v3 ++ (d ++ d3),
              refl,
              ((tt, y2), a2, a3, refl, (m2, ap (symbol s.OpenBracket) t2 ∙ (symbol_class s.OpenBracket).has tt), sets),
              (v3, d ++ d3, refl, of, (d2, d4 ++ d3, ap (λ z. z ++ d3) h2 ∙ append_assoc d2 d4 d3, wm, (d4, d3, refl, wb, end))),
            ),
          ),
        ),
      )
]

pub has_sets : Has Sets
has_sets = (x.index x.absent x.no_indices, token_at (tok.Keyword k.Int) ∷ token_at (tok.Symbol s.CloseBracket) ∷ [], (token_at (tok.Keyword k.Int) ∷ [], token_at (tok.Symbol s.CloseBracket) ∷ [], refl, the_has (tok.Keyword k.Int), the_has (tok.Symbol s.CloseBracket)))
