-- What stands inside brackets is read as the grammar writes it.
use Rattle.std.proofs.Common.{◌≡◌, ℕ, zero, suc, List, [], ◌∷◌, ◌++◌, Option, Some, None, Bool, false, refl, sym, ap, ◌∙◌, subst, append_assoc, arith, inl, inr}
use Rattle.ms_syntax.specs.declared.token.Token.{Token}
use Rattle.ms_syntax.specs.declared.token.Token.TheVariants as tok
use Rattle.ms_syntax.specs.declared.token.Keyword.TheVariants as k
use Rattle.ms_syntax.specs.declared.token.Symbol.TheVariants as s
use Rattle.ms_syntax.specs.declared.token.Spanned.{Spanned}
use Rattle.ms_syntax.specs.declared.token.Place.{Place}
use Rattle.ms_syntax.specs.Tree as x
use Rattle.ms_syntax.specs.Tree.{Names, Ex, Maybe, Exs, Arms, Rows, Gens, exs_of, arms_of, rows_of, gens_of}
use Rattle.ms_syntax.specs.Grammar.{Tokens, ◌⋅◌, the, at, bound, Writes, WritesNames, WritesMoreNames, WritesMore, WritesList, WritesSome, WritesSecond, WritesWhere, WritesGens, WritesMoreGens, WritesMoreRows, WritesRows, WritesArms, mark, word, left_after}
use Rattle.ms_expressions.specs.declared.reach.Reach.{Reach}
use Rattle.ms_expressions.specs.declared.reach.Reach.TheVariants as reach
use Rattle.ms_cursor.specs.Reading.{Parser, ◌>>=◌, ok, and_then, pick, front, after, pure, by, must, into, closing}
use Rattle.ms_cursor.specs.Kinds.{a_name, symbol, keyword, infix_of}
use Rattle.ms_expressions.specs.Rules.{a_binder, more_names, names, more, list, listed, second, subscript, generator, more_generators, generators, condition, generated, array_rest, more_rows, row_list, rows_rest, set_rest, paren_rest, arm, arms, if_rest}
use Rattle.ms_parser.proofs.Classes.{Class, name_class, symbol_class, keyword_class}
use Rattle.ms_parser.proofs.Exact.{widen, Exact, Seq, Just, One, Many, nobody, append_nil, extend}
use Rattle.ms_parser.proofs.Choices.{either, either_second}
use Rattle.ms_parser.proofs.Parts.{Pair, Image, Start, Has, token_at, the_has, has_pair, has_closing, has_skip, has_image, next, both, mapped, retold, none_after, take, behind, closed_by, start}
use Rattle.ms_parser.proofs.Lists.{repeat, listing, placeless, placing}

-- ---- what may not come next

abbrev pub e_atom : Token → Bool
e_atom = either (symbol s.OpenParenthesis) nobody

abbrev pub e_access : Token → Bool
e_access = either (symbol s.OpenBracket) e_atom

abbrev pub e_tier : ℕ → Token → Bool
e_tier zero = e_access
e_tier (suc h) = either (infix_of (suc (suc h))) (e_tier h)

abbrev pub e_any : Token → Bool
e_any = e_tier 10

abbrev pub e_range : Token → Bool
e_range = e_tier 4

pub atom_in_tier : (h : ℕ) (u : Token) → e_tier h u ≡ false → e_atom u ≡ false
atom_in_tier zero u h = either_second (symbol s.OpenBracket) e_atom u h
atom_in_tier (suc k) u h = atom_in_tier k u (either_second (infix_of (suc (suc k))) (e_tier k) u h)

abbrev pub comma : Token → Option (Unit {0})
comma = symbol s.Comma

-- none of I begins an expression
abbrev pub Fresh : (Token → Bool) → Type 0
Fresh I = ((n : ℕ) → I (tok.Number n) ≡ false) × ((w : List ℕ) → I (tok.Text w) ≡ false) × ((w : List ℕ) → I (tok.Name w) ≡ false)
    × (I (tok.Keyword k.True) ≡ false) × (I (tok.Keyword k.False) ≡ false) × (I (tok.Keyword k.If) ≡ false) × (I (tok.Symbol s.OpenParenthesis) ≡ false)
    × (I (tok.Symbol s.OpenBracket) ≡ false) × (I (tok.Symbol s.OpenRows) ≡ false) × (I (tok.Symbol s.OpenBrace) ≡ false)
    × (I (tok.Keyword k.Not) ≡ false) × (I (tok.Symbol s.Minus) ≡ false) × (I (tok.Keyword k.Let) ≡ false)

pub nobody_fresh : Fresh nobody
nobody_fresh = (λ n. refl, λ w. refl, λ w. refl, refl, refl, refl, refl, refl, refl, refl, refl, refl, refl)

pub symbol_fresh : Fresh (either (symbol s.CloseBracket) nobody) × Fresh (either (symbol s.CloseParenthesis) nobody) × Fresh (either (symbol s.CloseBrace) nobody) × Fresh (either (symbol s.CloseRows) nobody)
symbol_fresh = (
  (λ n. refl, λ w. refl, λ w. refl, refl, refl, refl, refl, refl, refl, refl, refl, refl, refl),
  (λ n. refl, λ w. refl, λ w. refl, refl, refl, refl, refl, refl, refl, refl, refl, refl, refl),
  (λ n. refl, λ w. refl, λ w. refl, refl, refl, refl, refl, refl, refl, refl, refl, refl, refl),
  (λ n. refl, λ w. refl, λ w. refl, refl, refl, refl, refl, refl, refl, refl, refl, refl, refl),
)

abbrev pub IsAt : ℕ → Ex → Tokens → Type 0
IsAt n e = bound n e (Writes e)

abbrev pub zero_expr : Ex
zero_expr = x.number (record { file = 0; line = 0; col = 0 }) 0

pub has_zero : Has Writes
has_zero = (zero_expr, token_at (tok.Number 0) ∷ [], (token_at (tok.Number 0), refl, refl, refl))

pub has_range : Has (IsAt 6)
has_range = (zero_expr, token_at (tok.Number 0) ∷ [], (omega arith, (token_at (tok.Number 0), refl, refl, refl)))

-- what is made of a value that is read
pub built : {A B : Type 0} {n d1 d2 : ℕ} {I E : Token → Bool} {G : A → Tokens → Type 0} {p : Parser A} (H : B → Tokens → Type 0) (h : A → B)
    → ((a : A) (w : Tokens) → G a w → H (h a) w) → ((z : B) (w : Tokens) → H z w → Image h G z w) → Exact n d1 d2 I E G p → Exact n d1 d2 I E H (into h p)
built {A} {B} {G = G} H h to from one = retold image_to from (mapped h one)
  where
    image_to : (z : B) (w : Tokens) → Image h G z w → H z w
    image_to z w (a, i, g) = subst (λ (k : B). H k w) (sym i) (to a w g)

-- ---- names

abbrev pub IsName : Place × List ℕ → Tokens → Type 0
IsName n = at n.0 (tok.Name n.1)

pub binder_exact : (n d : ℕ) (I : Token → Bool) → ((w : List ℕ) → I (tok.Name w) ≡ false) → Exact n d d I nobody IsName a_binder
binder_exact n d I clear = retold to from (mapped (λ c. (c.1.place, c.0)) (take name_class [] clear (λ w. refl)))
  where
    to : (z : Place × List ℕ) (w : Tokens) → Image (λ c. (c.1.place, c.0)) (One a_name) z w → IsName z w
    to z w (c, i, (m, h)) = subst (λ (q : Place × List ℕ). IsName q w) (sym i) (c.1, m, name_class.is c.1.token c.0 h, refl)

    from : (z : Place × List ℕ) (w : Tokens) → IsName z w → Image (λ c. (c.1.place, c.0)) (One a_name) z w
    from z w (y, m, h, i) = ((z.1, y), ap (λ q. (q, z.1)) (sym i), (m, ap a_name h))

pub more_names_exact : (n d : ℕ) → Exact n d d nobody (either comma nobody) WritesMoreNames more_names
unfolding more_names
more_names_exact n d = retold to from (repeat (symbol_class s.Comma) (λ a. refl) (λ a. refl) (λ m a z. binder_exact m d nobody (λ w. refl)) n)
  where
    to : (ns : Names) (w : Tokens) → Many comma (λ a y. IsName) ns w → WritesMoreNames ns w
    to [] w g = g
    to (m ∷ ms) w (a, y, u, v, q, h, g, rest) = (y ∷ [], u ++ v, q, (y, refl, (symbol_class s.Comma).is y.token a h), (u, v, refl, g, to ms v rest))

    from : (ns : Names) (w : Tokens) → WritesMoreNames ns w → Many comma (λ a y. IsName) ns w
    from [] w g = g
    from (m ∷ ms) w (b, c, j, (y, i, h), (u, v, q, g, rest)) = (tt, y, u, v, j ∙ ap (λ z. z ++ c) i ∙ ap (λ z. y ∷ z) q, ap comma h, g, from ms v rest)

pub names_exact : (n d : ℕ) (I : Token → Bool) → ((w : List ℕ) → I (tok.Name w) ≡ false) → Exact n d d I (either comma nobody) WritesNames names
unfolding names
names_exact n d I clear = retold to from (next (binder_exact n d I clear) (λ m. mapped (λ ms. m ∷ ms) (more_names_exact n d)))
  where
    to : (ns : Names) (w : Tokens) → Seq IsName (λ m. Image (λ ms. m ∷ ms) WritesMoreNames) ns w → WritesNames ns w
    to ns w (m, u, v, s, g, (ms, i, rest)) = subst (λ (z : Names). WritesNames z w) (sym i) (u, v, s, g, rest)

    from : (ns : Names) (w : Tokens) → WritesNames ns w → Seq IsName (λ m. Image (λ ms. m ∷ ms) WritesMoreNames) ns w
    from [] w g = absurd g
    from (m ∷ ms) w (u, v, s, g, rest) = (m, u, v, s, g, (ms, refl, rest))

-- ---- expressions inside

pub exs_back : (l : Exs) → (es : List Ex) × (exs_of es ≡ l)
exs_back x.no_exs = ([], refl)
exs_back (x.ex e l) = let b = exs_back l in (e ∷ b.0, ap (x.ex e) b.1)

pub some_from : (es : Exs) (w : Tokens) → WritesSome es w → Image (λ r. x.ex r.0 r.1) (Pair Writes WritesMore) es w
some_from x.no_exs w g = absurd g
some_from (x.ex e l) w g = ((e, l), refl, g)

abbrev pub IsSubscript : Ex × Maybe → Tokens → Type 0
IsSubscript = Pair Writes (λ j. WritesSecond j ⋅ mark s.CloseBracket)

abbrev pub IsGenerator : Names × Ex → Tokens → Type 0
IsGenerator = Pair WritesNames (λ e. word k.In ⋅ IsAt 6 e)

module _ (n d : ℕ) (inner : Reach → Parser Ex) (any : (n : ℕ) (I : Token → Bool) → Fresh I → Exact n d d I e_any Writes (inner reach.Any)) (range : (n : ℕ) (I : Token → Bool) → Fresh I → Exact n d d I e_range (IsAt 6) (inner reach.Range)) where
  -- where none of I may come after the last
  pub more_exact : (I : Token → Bool) → I (tok.Symbol s.Comma) ≡ false → ((u : Token) → I u ≡ false → e_any u ≡ false) → Exact n d d I (either comma I) WritesMore (more inner)
  unfolding more
  more_exact I clear less = listing (symbol_class s.Comma) (λ a p. Writes) exs_of WritesMore (λ w h. h) (λ w h. h) (λ e es w a p g. placeless w p g) (λ e es w g. placing w g) exs_back
      (repeat (symbol_class s.Comma) (λ a. clear) (λ a. refl) (λ m a z. widen less (any m nobody nobody_fresh)) n)

  pub list_exact : (I : Token → Bool) → Fresh I → Exact n d d I (either comma e_any) WritesSome (list inner)
  unfolding list
  list_exact I fresh = built WritesSome (λ r. x.ex r.0 r.1) (λ r w g. g) some_from (both (any n I fresh) (more_exact e_any refl (λ u h. h)))

  -- ---- an expression behind a token, or nothing, and then what closes it
  module _ {g f : Token → Option (Unit {0})} {t z : Token} (c : Class g (λ a. t)) (k : Class f (λ a. z)) (W : Maybe → Tokens → Type 0)
      (none : (w : Tokens) → w ≡ [] → W x.absent w) (none_from : (w : Tokens) → W x.absent w → w ≡ [])
      (some : (e : Ex) (w : Tokens) → (the t ⋅ Writes e) w → W (x.present e) w) (some_from : (e : Ex) (w : Tokens) → W (x.present e) w → (the t ⋅ Writes e) w) where
    abbrev RawEnd : Maybe → Tokens → Type 0
    RawEnd = Start {A = Unit {0}} (λ a. t) (λ a p j. Image x.present Writes j ⋅ the z) (λ j. Just x.absent j ⋅ the z)

    end_to : (j : Maybe) (w : Tokens) → RawEnd j w → (W j ⋅ the z) w
    end_to j w (inl (a, p, (u, v, q, (y, m, h, i), (b, e, r, (v2, l, wr), end)))) =
        subst (λ (o : Maybe). (W o ⋅ the z) w) (sym l) (u ++ b, e, q ∙ ap (λ o. u ++ o) r ∙ sym (append_assoc u b e), some v2 (u ++ b) (u, b, refl, (y, m, h), wr), end)
    end_to j w (inr (u, v, q, (i, n), end)) = subst (λ (o : Maybe). (W o ⋅ the z) w) (sym i) (u, v, q, none u n, end)

    end_from : (j : Maybe) (w : Tokens) → (W j ⋅ the z) w → RawEnd j w
    end_from x.absent w (u, v, q, wr, end) = inr (u, v, q, (refl, none_from u wr), end)
    end_from (x.present e) w (u, v, q, wr, end) = present_from e w u v q end (some_from e u wr)
      where
        present_from : (e : Ex) (w u v : Tokens) → w ≡ u ++ v → the z v → (the t ⋅ Writes e) u → RawEnd (x.present e) w
        present_from e w u v q end (a, b, r, (y, m, h), wr) =
            inl (tt, y.place, (a, b ++ v, q ∙ ap (λ o. o ++ v) r ∙ append_assoc a b v, (y, m, h, refl), (b, v, refl, (e, refl, wr), end)))

    closing_both : (o : Option (Unit {0} × Spanned)) (ts : Tokens) → and_then (pick o (λ a. into x.present (inner reach.Any) (after ts)) (ok x.absent ts)) (λ b. must f >>= λ c. pure b)
        ≡ pick o (λ a. closing f (into x.present (inner reach.Any)) (after ts)) (closing f (pure x.absent) ts)
    closing_both None ts = refl
    closing_both (Some a) ts = refl

    pub optional_exact : (I : Token → Bool) → I t ≡ false → either g I z ≡ false → e_any z ≡ false → left_after d t ≡ Some d → left_after d z ≡ Some (suc d)
        → Exact n d (suc d) I nobody (λ j. W j ⋅ the z) (closing f (by g (λ a y. into x.present (inner reach.Any)) (pure x.absent)))
    optional_exact I clear closes closes2 keeps ends =
        extend n d (suc d) I nobody (λ j. W j ⋅ the z) (closing f (by g (λ a y. into x.present (inner reach.Any)) (pure x.absent)))
        (by g (λ a y. closing f (into x.present (inner reach.Any))) (closing f (pure x.absent))) (λ ts h. closing_both (front g ts) ts)
        (retold end_to end_from
        (start c (λ a. clear) (λ a. keeps) (λ a p. closed_by k closes2 ends (mapped x.present (any n nobody nobody_fresh))) (closed_by k closes ends (none_after x.absent))))

  -- ---- subscripts

  pub subscript_exact : Exact n d (suc d) nobody e_atom IsSubscript (subscript inner)
  unfolding subscript second
  subscript_exact = widen (λ u h. refl) (both (any n nobody nobody_fresh)
      (optional_exact (symbol_class s.Comma) (symbol_class s.CloseBracket) WritesSecond (λ w h. h) (λ w h. h) (λ e w h. h) (λ e w h. h) e_any refl refl refl refl refl))

  -- ---- generators

  pub generator_exact : (I : Token → Bool) → ((w : List ℕ) → I (tok.Name w) ≡ false) → Exact n d d I e_range IsGenerator (generator inner)
  unfolding generator
  generator_exact I clear = both (names_exact n d I clear) (behind (keyword_class k.In) refl refl (range n nobody nobody_fresh))

pub gens_back : (l : Gens) → (gs : List (Names × Ex)) × (gens_of gs ≡ l)
gens_back x.no_gens = ([], refl)
gens_back (x.gen ns e l) = let b = gens_back l in ((ns, e) ∷ b.0, ap (x.gen ns e) b.1)

abbrev pub IsGenerated : Gens × Maybe → Tokens → Type 0
IsGenerated = Pair WritesGens (λ c. WritesWhere c ⋅ mark s.CloseBracket)

abbrev pub RawArray : Place → Ex → Tokens → Type 0
RawArray p = Start {A = Unit {0}} (λ a. tok.Symbol s.CloseBracket) (λ a z. Just (x.array p x.no_exs))
    (Seq Writes (λ e. Start {A = Unit {0}} (λ a. tok.Symbol s.Bar) (λ a z. Image (λ g. x.comprehension p e g.0 g.1) IsGenerated)
    (Image (λ es. x.array p (x.ex e es)) (λ es. WritesMore es ⋅ mark s.CloseBracket))))

-- an opening token before what follows it, of an atom
pub array_to : (p : Place) (z : Ex) (w u v : Tokens) → w ≡ u ++ v → at p (tok.Symbol s.OpenBracket) u → RawArray p z v → IsAt 0 z w
array_to p z w u v q o (inl (a, r, (b, c, h, (y, m, i, j), (l, e)))) =
    subst (λ (k : Ex). IsAt 0 k w) (sym l) (omega arith, (u, v, q, o, ([], v, refl, refl, (y, h ∙ ap (λ k. b ++ k) e ∙ append_nil b ∙ m, i))))
array_to p z w u v q o (inr (e, b, c, h, g, inl (a, r, (b2, c2, h2, (y, m, i, j), (gs, l, made))))) =
    subst (λ (k : Ex). IsAt 0 k w) (sym l) (omega arith, (u, v, q, o, (b, c, h, g, (b2, c2, h2, (y, m, i), made))))
array_to p z w u v q o (inr (e, b, c, h, g, inr (es, l, (b2, c2, h2, more, end)))) =
    subst (λ (k : Ex). IsAt 0 k w) (sym l) (omega arith, (u, v, q, o, (b ++ b2, c2, h ∙ ap (λ k. b ++ k) h2 ∙ sym (append_assoc b b2 c2), (b, b2, refl, g, more), end)))

pub array_from : (p : Place) (es : Exs) (v : Tokens) → (WritesList es ⋅ mark s.CloseBracket) v → RawArray p (x.array p es) v
array_from p x.no_exs v (b, c, h, n, (y, m, i)) = inl (tt, y.place, (y ∷ [], [], h ∙ ap (λ k. k ++ c) n ∙ m, (y, refl, i, refl), (refl, refl)))
array_from p (x.ex e es) v (b, c, h, (b2, c2, h2, g, more), end) =
    inr (e, b2, c2 ++ c, h ∙ ap (λ k. k ++ c) h2 ∙ append_assoc b2 c2 c, g, inr (es, refl, (c2, c, refl, more, end)))

pub comprehension_from : (p : Place) (e : Ex) (gs : Gens) (c : Maybe) (v : Tokens) → (Writes e ⋅ mark s.Bar ⋅ IsGenerated (gs, c)) v → RawArray p (x.comprehension p e gs c) v
comprehension_from p e gs c v (b, d2, h, g, (b2, c2, h2, (y, m, i), made)) = inr (e, b, d2, h, g, inl (tt, y.place, (b2, c2, h2, (y, m, i, refl), ((gs, c), refl, made))))

pub has_array : (p : Place) → Has (RawArray p)
has_array p = (x.array p x.no_exs, token_at (tok.Symbol s.CloseBracket) ∷ [], array_from p x.no_exs (token_at (tok.Symbol s.CloseBracket) ∷ []) ([], token_at (tok.Symbol s.CloseBracket) ∷ [], refl, refl, the_has (tok.Symbol s.CloseBracket)))

pub rows_back : (l : Rows) → (rs : List Exs) × (rows_of rs ≡ l)
rows_back x.no_rows = ([], refl)
rows_back (x.row r l) = let b = rows_back l in (r ∷ b.0, ap (x.row r) b.1)

abbrev pub row_of : Exs × Rows → Rows
row_of r = x.row r.0 r.1

abbrev pub RawRows : Place → Ex → Tokens → Type 0
RawRows p = Start {A = Unit {0}} (λ a. tok.Symbol s.CloseRows) (λ a z. Just (x.rows p x.no_rows)) (Image (x.rows p) (λ rs. Image row_of (Pair WritesSome WritesMoreRows) rs ⋅ mark s.CloseRows))

pub rows_to : (p : Place) (z : Ex) (w u v : Tokens) → w ≡ u ++ v → at p (tok.Symbol s.OpenRows) u → RawRows p z v → IsAt 0 z w
rows_to p z w u v q o (inl (a, r, (b, c, h, (y, m, i, j), (l, e)))) =
    subst (λ (k : Ex). IsAt 0 k w) (sym l) (omega arith, (u, v, q, o, ([], v, refl, refl, (y, h ∙ ap (λ k. b ++ k) e ∙ append_nil b ∙ m, i))))
rows_to p z w u v q o (inr (rs, l, (b, c, h, (r, i, g), end))) =
    subst (λ (k : Ex). IsAt 0 k w) (sym l) (omega arith, (u, v, q, o, (b, c, h, subst (λ (k : Rows). WritesRows k b) (sym i) g, end)))

pub rows_from : (p : Place) (rs : Rows) (v : Tokens) → (WritesRows rs ⋅ mark s.CloseRows) v → RawRows p (x.rows p rs) v
rows_from p x.no_rows v (b, c, h, n, (y, m, i)) = inl (tt, y.place, (y ∷ [], [], h ∙ ap (λ k. k ++ c) n ∙ m, (y, refl, i, refl), (refl, refl)))
rows_from p (x.row r l) v (b, c, h, g, end) = inr (x.row r l, refl, (b, c, h, ((r, l), refl, g), end))

pub has_rows : (p : Place) → Has (RawRows p)
has_rows p = (x.rows p x.no_rows, token_at (tok.Symbol s.CloseRows) ∷ [], rows_from p x.no_rows (token_at (tok.Symbol s.CloseRows) ∷ []) ([], token_at (tok.Symbol s.CloseRows) ∷ [], refl, refl, the_has (tok.Symbol s.CloseRows)))

abbrev pub IsListed : Exs → Tokens → Type 0
IsListed es = WritesList es ⋅ mark s.CloseBrace

pub listed_to : (es : Exs) (w : Tokens) → Start {A = Unit {0}} (λ a. tok.Symbol s.CloseBrace) (λ a z. Just x.no_exs) (λ es. WritesSome es ⋅ mark s.CloseBrace) es w → IsListed es w
listed_to es w (inl (a, r, (b, c, h, (y, m, i, j), (l, e)))) = subst (λ (k : Exs). IsListed k w) (sym l) ([], w, refl, refl, (y, h ∙ ap (λ k. b ++ k) e ∙ append_nil b ∙ m, i))
listed_to x.no_exs w (inr (b, c, h, g, end)) = absurd g
listed_to (x.ex e es) w (inr g) = g

pub listed_from : (es : Exs) (w : Tokens) → IsListed es w → Start {A = Unit {0}} (λ a. tok.Symbol s.CloseBrace) (λ a z. Just x.no_exs) (λ es. WritesSome es ⋅ mark s.CloseBrace) es w
listed_from x.no_exs w (b, c, h, n, (y, m, i)) = inl (tt, y.place, (y ∷ [], [], h ∙ ap (λ k. k ++ c) n ∙ m, (y, refl, i, refl), (refl, refl)))
listed_from (x.ex e es) w g = inr g

pub has_set : (p : Place) → Has (Image (x.set p) IsListed)
has_set p = has_image (x.set p) (x.no_exs, token_at (tok.Symbol s.CloseBrace) ∷ [], ([], token_at (tok.Symbol s.CloseBrace) ∷ [], refl, refl, the_has (tok.Symbol s.CloseBrace)))

abbrev pub IsClosed : Ex → Tokens → Type 0
IsClosed e = Writes e ⋅ mark s.CloseParenthesis

pub has_paren : (p : Place) → Has (Image (x.paren p) IsClosed)
has_paren p = has_image (x.paren p) (has_closing (tok.Symbol s.CloseParenthesis) has_zero)

abbrev pub IsArm : Ex × Ex → Tokens → Type 0
IsArm = Pair Writes (λ e. word k.Then ⋅ Writes e)

pub arms_back : (l : Arms) → (xs : List (Ex × Ex)) × (arms_of xs ≡ l)
arms_back x.no_arms = ([], refl)
arms_back (x.arm a b l) = let r = arms_back l in ((a, b) ∷ r.0, ap (x.arm a b) r.1)

abbrev pub IsIf : (Ex × Ex) × (Arms × Ex) → Tokens → Type 0
IsIf = Pair IsArm (Pair WritesArms (λ e. word k.Else ⋅ Writes e ⋅ word k.Endif))

abbrev pub if_of : Place → (Ex × Ex) × (Arms × Ex) → Ex
if_of p r = x.if_else p r.0.0 r.0.1 r.1.0 r.1.1

pub has_if : (p : Place) → Has (Image (if_of p) IsIf)
has_if p = has_image (if_of p) (has_pair (has_pair has_zero (has_skip (tok.Keyword k.Then) has_zero)) (has_pair {G = WritesArms} (x.no_arms, [], refl) (has_skip (tok.Keyword k.Else) (has_closing (tok.Keyword k.Endif) has_zero))))

module _ (d : ℕ) (inner : Reach → Parser Ex) (any : (n : ℕ) (I : Token → Bool) → Fresh I → Exact n d d I e_any Writes (inner reach.Any)) (range : (n : ℕ) (I : Token → Bool) → Fresh I → Exact n d d I e_range (IsAt 6) (inner reach.Range)) where
  pub more_generators_exact : (n : ℕ) → Exact n d d e_range (either comma e_range) WritesMoreGens (more_generators inner)
  unfolding more_generators
  more_generators_exact n = listing (symbol_class s.Comma) (λ a p. IsGenerator) gens_of WritesMoreGens (λ w h. h) (λ w h. h) (λ e es w a p g. placeless w p g) (λ e es w g. placing w g) gens_back
      (repeat (symbol_class s.Comma) (λ a. refl) (λ a. refl) (λ m a z. generator_exact m d inner any range nobody (λ w. refl)) n)

  pub gens_from : (gs : Gens) (w : Tokens) → WritesGens gs w → Image (λ r. x.gen r.0.0 r.0.1 r.1) (Pair (IsGenerator) WritesMoreGens) gs w
  gens_from x.no_gens w g = absurd g
  gens_from (x.gen ns e l) w g = (((ns, e), l), refl, g)

  pub generators_exact : (n : ℕ) (I : Token → Bool) → ((w : List ℕ) → I (tok.Name w) ≡ false) → Exact n d d I (either comma e_range) WritesGens (generators inner)
  unfolding generators
  generators_exact n I clear = built WritesGens (λ r. x.gen r.0.0 r.0.1 r.1) (λ r w g. g) gens_from (both (generator_exact n d inner any range I clear) (more_generators_exact n))

  pub generated_exact : (n : ℕ) → Exact n d (suc d) nobody nobody IsGenerated (generated inner)
  unfolding generated condition
  generated_exact n = both (generators_exact n nobody (λ w. refl))
      (optional_exact n d inner any range (keyword_class k.Where) (symbol_class s.CloseBracket) WritesWhere (λ w h. h) (λ w h. h) (λ e w h. h) (λ e w h. h) (either comma e_range) refl refl refl refl refl)

  -- ---- arrays

  pub array_exact : (n : ℕ) (p : Place) → Exact n d (suc d) nobody nobody (RawArray p) (array_rest inner p)
  unfolding array_rest
  array_exact n p = start (symbol_class s.CloseBracket) (λ a. refl) (λ a. refl) (λ a z. none_after (x.array p x.no_exs))
      (next (any n (either (symbol s.CloseBracket) nobody) symbol_fresh.0)
      (λ e. start (symbol_class s.Bar) (λ a. refl) (λ a. refl) (λ a z. mapped (λ g. x.comprehension p e g.0 g.1) (generated_exact n))
      (mapped (λ es. x.array p (x.ex e es)) (closed_by (symbol_class s.CloseBracket) refl refl
      (more_exact n d inner any range (either (symbol s.Bar) e_any) refl (either_second (symbol s.Bar) e_any))))))

  -- ---- rows

  pub more_rows_exact : (n : ℕ) → Exact n d d (either comma e_any) (either (symbol s.Bar) (either comma e_any)) WritesMoreRows (more_rows inner)
  unfolding more_rows
  more_rows_exact n = listing (symbol_class s.Bar) (λ a p. WritesSome) rows_of WritesMoreRows (λ w h. h) (λ w h. h) (λ e es w a p g. placeless w p g) (λ e es w g. placing w g) rows_back
      (repeat (symbol_class s.Bar) (λ a. refl) (λ a. refl) (λ m a z. list_exact m d inner any range nobody nobody_fresh) n)

  pub rows_exact : (n : ℕ) (p : Place) → Exact n d (suc d) nobody nobody (RawRows p) (rows_rest inner p)
  unfolding rows_rest row_list
  rows_exact n p = start (symbol_class s.CloseRows) (λ a. refl) (λ a. refl) (λ a z. none_after (x.rows p x.no_rows))
      (mapped (x.rows p) (closed_by (symbol_class s.CloseRows) refl refl (mapped row_of (both (list_exact n d inner any range (either (symbol s.CloseRows) nobody) symbol_fresh.3) (more_rows_exact n)))))

  -- ---- sets

  pub set_exact : (n : ℕ) (p : Place) → Exact n d (suc d) nobody nobody (Image (x.set p) IsListed) (set_rest inner p)
  unfolding set_rest listed
  set_exact n p = mapped (x.set p) (retold listed_to listed_from (start (symbol_class s.CloseBrace) (λ a. refl) (λ a. refl) (λ a z. none_after x.no_exs)
      (closed_by (symbol_class s.CloseBrace) refl refl (list_exact n d inner any range (either (symbol s.CloseBrace) nobody) symbol_fresh.2))))

  -- ---- parentheses

  pub paren_exact : (n : ℕ) (p : Place) → Exact n d (suc d) nobody nobody (Image (x.paren p) IsClosed) (paren_rest inner p)
  unfolding paren_rest
  paren_exact n p = mapped (x.paren p) (closed_by (symbol_class s.CloseParenthesis) refl refl (any n nobody nobody_fresh))

  -- ---- a choice of expressions

  pub arm_exact : (n : ℕ) → Exact n d d nobody e_any IsArm (arm inner)
  unfolding arm
  arm_exact n = both (any n nobody nobody_fresh) (behind (keyword_class k.Then) refl refl (any n nobody nobody_fresh))

  pub arms_exact : (n : ℕ) → Exact n d d e_any (either (keyword k.Elseif) e_any) WritesArms (arms inner)
  unfolding arms
  arms_exact n = listing (keyword_class k.Elseif) (λ a p. IsArm) arms_of WritesArms (λ w h. h) (λ w h. h) (λ e es w a p g. placeless w p g) (λ e es w g. placing w g) arms_back
      (repeat (keyword_class k.Elseif) (λ a. refl) (λ a. refl) (λ m a z. arm_exact m) n)

  pub if_exact : (n : ℕ) (p : Place) → Exact n d (suc d) nobody nobody (Image (if_of p) IsIf) (if_rest inner p)
  unfolding if_rest
  if_exact n p = mapped (if_of p) (both (arm_exact n) (both (arms_exact n) (behind (keyword_class k.Else) refl refl (closed_by (keyword_class k.Endif) refl refl (any n nobody nobody_fresh)))))
