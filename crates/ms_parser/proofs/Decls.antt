-- Kinds, notes and declarations are read as the grammar writes them, alone and in a `let`.
use Rattle.std.proofs.Common.{◌≡◌, ℕ, zero, suc, ◌≤◌, List, [], ◌∷◌, ◌++◌, length, Option, Some, None, Bool, true, false, refl, sym, ap, ◌∙◌, subst, append_assoc, length-append, arith, inl, inr}
use Rattle.ms_syntax.specs.declared.token.Token.{Token}
use Rattle.ms_syntax.specs.declared.token.Token.TheVariants as tok
use Rattle.ms_syntax.specs.declared.token.Keyword.TheVariants as k
use Rattle.ms_syntax.specs.declared.token.Symbol.TheVariants as s
use Rattle.ms_syntax.specs.declared.token.Spanned.{Spanned}
use Rattle.ms_syntax.specs.declared.token.Place.{Place}
use Rattle.ms_syntax.specs.declared.tree.Mode.{Mode}
use Rattle.ms_syntax.specs.declared.tree.Mode.TheVariants as m
use Rattle.ms_syntax.specs.Tree as x
use Rattle.ms_syntax.specs.Tree.{Ex, Maybe, Exs, Decl, Kd, Bs, Notes, decls_of, notes_of}
use Rattle.ms_syntax.specs.Grammar.{Tokens, ◌⋅◌, at, from, Writes, WritesSome, WritesNotes, WritesArguments, WritesValue, WritesDecl, WritesDecls, WritesMoreDecls, mark}
use Rattle.ms_expressions.specs.declared.reach.Reach.{Reach}
use Rattle.ms_expressions.specs.declared.reach.Reach.TheVariants as reach
use Rattle.ms_cursor.specs.Reading.{Out, bad, deep, Parser, ◌>>=◌, ok, and_then, pick, front, after, pure, by, must, into, skip, closing}
use Rattle.ms_cursor.specs.Kinds.{symbol, keyword}
use Rattle.ms_expressions.specs.Rules.{index_sets, set_base, base, marked, kind, note_arguments, note_rest, notes, value, declared, declaration, more_locals, locals}
use Rattle.ms_parser.proofs.Classes.{symbol_class, keyword_class}
use Rattle.ms_parser.proofs.Exact as e
use Rattle.ms_parser.proofs.Exact.{widen, loosen, Exact, Seq, Just, Cases, Stops, nobody, append_nil, extend, stops_nobody}
use Rattle.ms_parser.proofs.Choices.{either, either_second, either_less}
use Rattle.ms_parser.proofs.Read as r
use Rattle.ms_parser.proofs.Parts.{Pair, Image, Start, Has, token_at, some_place, the_has, has_closing, next, both, mapped, retold, none_after, behind, closed_by, start, start_open, clear_of, step_of}
use Rattle.ms_parser.proofs.Lists.{must_open, repeat, listing, placed_exact}
use Rattle.ms_parser.proofs.Enclosed.{e_atom, atom_in_tier, e_any, e_range, Fresh, nobody_fresh, symbol_fresh, IsAt, has_zero, list_exact}
use Rattle.ms_parser.proofs.Bases.{split, regroup, IsWord, word_exact, Sets, sets_exact, IsBase, Word_only, RawSetBase, base_to, base_from, FreshBase, FreshKind, nobody_fresh_base, IsMarked, marked_to, marked_from, IsKind, kind_of, plain_kind, kind_to, kind_from, has_sets}

-- ---- notes

abbrev pub Note_rest : List ℕ × Exs → Tokens → Type 0
Note_rest = Pair IsWord WritesArguments

abbrev pub IsNote : Place → Place × List ℕ × Exs → Tokens → Type 0
IsNote p = Image {B = Place × List ℕ × Exs} (λ r. (p, r.0, r.1)) Note_rest

arguments_to : (z : Exs) (w : Tokens) → Start {A = Unit {0}} (λ a. tok.Symbol s.OpenParenthesis) (λ a p es. WritesSome es ⋅ mark s.CloseParenthesis) (Just x.no_exs) z w → WritesArguments z w
arguments_to z w (inr (i, n)) = subst (λ (a : Exs). WritesArguments a w) (sym i) n
arguments_to x.no_exs w (inl (a, p, (u, v, q, (y, n, t, l), (b, c, h, g, end)))) = absurd g
arguments_to (x.ex e es) w (inl (a, p, (u, v, q, (y, n, t, l), g))) = (u, v, q, (y, n, t), g)

arguments_from : (z : Exs) (w : Tokens) → WritesArguments z w → Start {A = Unit {0}} (λ a. tok.Symbol s.OpenParenthesis) (λ a p es. WritesSome es ⋅ mark s.CloseParenthesis) (Just x.no_exs) z w
arguments_from x.no_exs w g = inr (refl, g)
arguments_from (x.ex e es) w (u, v, q, (y, n, t), g) = inl (tt, y.place, (u, v, q, (y, n, t, refl), g))

notes_back : (l : Notes) → (ns : List (Place × List ℕ × Exs)) × (notes_of ns ≡ l)
notes_back x.no_notes = ([], refl)
notes_back (x.note p w es l) = let b = notes_back l in ((p, w, es) ∷ b.0, ap (x.note p w es) b.1)

note_in : (n : Place × List ℕ × Exs) (ns : List (Place × List ℕ × Exs)) (w : Tokens) (p : Place) → (at p (tok.Symbol s.ColonColon) ⋅ (IsNote p n ⋅ WritesNotes (notes_of ns))) w → WritesNotes (notes_of (n ∷ ns)) w
note_in n ns w p (u, v, q, a, (c, d, h, (t, j, g), rest)) = subst (λ (z : Place × List ℕ × Exs). WritesNotes (notes_of (z ∷ ns)) w) (sym j) (u, v, q, a, (c, d, h, g, rest))

note_out : (n : Place × List ℕ × Exs) (ns : List (Place × List ℕ × Exs)) (w : Tokens) → WritesNotes (notes_of (n ∷ ns)) w → (a : Unit {0}) × (p : Place) × (at p (tok.Symbol s.ColonColon) ⋅ (IsNote p n ⋅ WritesNotes (notes_of ns))) w
note_out n ns w (u, v, q, a, (c, d, h, g, rest)) = (tt, n.0, (u, v, q, a, (c, d, h, ((n.1, n.2), refl, g), rest)))

has_arguments : Has (λ (es : Exs). WritesSome es ⋅ mark s.CloseParenthesis)
has_arguments = has_closing (tok.Symbol s.CloseParenthesis) (x.ex has_zero.0 x.no_exs, has_zero.1, (has_zero.1, [], sym (append_nil has_zero.1), has_zero.2, refl))

-- ---- declarations, where e more brackets may open

abbrev pub IsDeclared : List ℕ × (Notes × Maybe) → Tokens → Type 0
IsDeclared = Pair IsWord (Pair WritesNotes WritesValue)

-- what a declaration may go on with
abbrev pub e_declared : Token → Bool
e_declared = either (symbol s.Equal) (either (symbol s.ColonColon) e_any)

pub declared_any : (u : Token) → e_declared u ≡ false → e_any u ≡ false
declared_any u h = either_second (symbol s.ColonColon) e_any u (either_second (symbol s.Equal) (either (symbol s.ColonColon) e_any) u h)

declared_value : (u : Token) → e_declared u ≡ false → either (symbol s.Equal) (either (symbol s.ColonColon) e_atom) u ≡ false
declared_value u h = either_less (symbol s.Equal) (either (symbol s.ColonColon) e_any) (either (symbol s.ColonColon) e_atom) u (either_less (symbol s.ColonColon) e_any e_atom u (atom_in_tier 10 u)) h

abbrev pub declaration_of : Place × (Kd × (List ℕ × (Notes × Maybe))) → Decl
declaration_of r = x.declare r.0 r.1.0 r.1.1.0 r.1.1.1.0 r.1.1.1.1

abbrev RawDeclaration : Decl → Tokens → Type 0
RawDeclaration = Image declaration_of (λ (r : Place × (Kd × (List ℕ × (Notes × Maybe)))). from r.0 (Pair IsKind IsDeclared r.1))

declaration_to : (z : Decl) (w : Tokens) → RawDeclaration z w → WritesDecl z w
declaration_to z w (r, j, g) = subst (λ (a : Decl). WritesDecl a w) (sym j) g

declaration_from : (z : Decl) (w : Tokens) → WritesDecl z w → RawDeclaration z w
declaration_from (x.declare p kd w ns v) u g = ((p, (kd, (w, (ns, v)))), refl, g)

word_some : (w : List ℕ) (l : Tokens → Type 0) → (IsWord w ⋅ l) [] → ⊥
word_some w l ([], v, q, (y, n, t), g) = cc
word_some w l (z ∷ u, v, q, a, g) = cc

pub declaration_some : (r : Kd × (List ℕ × (Notes × Maybe))) → Pair IsKind IsDeclared r [] → ⊥
declaration_some r ([], [], q, g, h) = word_some r.1.0 (Pair WritesNotes WritesValue r.1.1) h
declaration_some r ([], z ∷ v, q, g, h) = cc
declaration_some r (z ∷ u, v, q, g, h) = cc

value_to : (z : Maybe) (w : Tokens) → Start {A = Unit {0}} (λ a. tok.Symbol s.Equal) (λ a p. Image x.present Writes) (Just x.absent) z w → WritesValue z w
value_to z w (inl (a, p, (u, v, q, (y, n, t, l), (e, j, g)))) = subst (λ (b : Maybe). WritesValue b w) (sym j) (u, v, q, (y, n, t), g)
value_to z w (inr (j, n)) = subst (λ (b : Maybe). WritesValue b w) (sym j) n

value_from : (z : Maybe) (w : Tokens) → WritesValue z w → Start {A = Unit {0}} (λ a. tok.Symbol s.Equal) (λ a p. Image x.present Writes) (Just x.absent) z w
value_from x.absent w g = inr (refl, g)
value_from (x.present e) w (u, v, q, (y, n, t), g) = inl (tt, y.place, (u, v, q, (y, n, t, refl), (e, refl, g)))

module _ (d : ℕ) (inner inmost : Reach → Parser Ex) (any : (n : ℕ) (I : Token → Bool) → Fresh I → Exact n d d I e_any Writes (inner reach.Any)) (range : (n : ℕ) (I : Token → Bool) → Fresh I → Exact n d d I e_range (IsAt 6) (inner reach.Range))
    (any2 : (l : ℕ) → d ≡ suc l → (n : ℕ) (I : Token → Bool) → Fresh I → Exact n l l I e_any Writes (inmost reach.Any)) (range2 : (l : ℕ) → d ≡ suc l → (n : ℕ) (I : Token → Bool) → Fresh I → Exact n l l I e_range (IsAt 6) (inmost reach.Range)) where
  word_base : (n : ℕ) (b : Bs) → Exact n d d nobody nobody (Word_only b) (closing (symbol s.Colon) (pure b))
  word_base n b = closed_by (symbol_class s.Colon) refl refl (none_after b)

  set_base_exact : (n : ℕ) → Exact n d d nobody nobody RawSetBase (closing (symbol s.Colon) (set_base inner))
  unfolding set_base
  set_base_exact n = regroup (must (keyword k.Of)) (λ c. by (keyword k.Int) (λ b z. pure x.set_of_int) (into x.set_of (inner reach.Range))) (λ b. must (symbol s.Colon) >>= λ c. pure b)
      (behind (keyword_class k.Of) refl refl (split (keyword k.Int) (λ b z. pure x.set_of_int) (into x.set_of (inner reach.Range)) (λ b. must (symbol s.Colon) >>= λ c. pure b) (start (keyword_class k.Int) (λ a. refl) (λ a. refl) (λ a z. word_base n x.set_of_int)
      (closed_by (symbol_class s.Colon) refl refl (mapped x.set_of (range n (either (keyword k.Int) nobody) nobody_fresh))))))

  abbrev with_colon : Bs → Parser Bs
  with_colon b = must (symbol s.Colon) >>= λ c. pure b

  abbrev from_set : Parser Bs
  from_set = by (keyword k.Set) (λ a y. set_base inner) (into x.of_values (inner reach.Range))

  abbrev from_ann : Parser Bs
  from_ann = by (keyword k.Ann) (λ a y. pure x.of_ann) from_set

  abbrev from_string : Parser Bs
  from_string = by (keyword k.String) (λ a y. pure x.of_string) from_ann

  abbrev from_int : Parser Bs
  from_int = by (keyword k.Int) (λ a y. pure x.of_int) from_string

  pub base_exact : (n : ℕ) (I : Token → Bool) → FreshBase I → Exact n d d I nobody IsBase (closing (symbol s.Colon) (base inner))
  unfolding base
  base_exact n I fresh = retold base_to base_from
      (split (keyword k.Bool) (λ a y. pure x.of_bool) from_int with_colon (start (keyword_class k.Bool) (λ a. fresh.1) (λ a. refl) (λ a z. word_base n x.of_bool)
      (split (keyword k.Int) (λ a y. pure x.of_int) from_string with_colon (start (keyword_class k.Int) (λ a. fresh.2) (λ a. refl) (λ a z. word_base n x.of_int)
      (split (keyword k.String) (λ a y. pure x.of_string) from_ann with_colon (start (keyword_class k.String) (λ a. fresh.3) (λ a. refl) (λ a z. word_base n x.of_string)
      (split (keyword k.Ann) (λ a y. pure x.of_ann) from_set with_colon (start (keyword_class k.Ann) (λ a. fresh.4) (λ a. refl) (λ a z. word_base n x.of_ann)
      (split (keyword k.Set) (λ a y. set_base inner) (into x.of_values (inner reach.Range)) with_colon (start (keyword_class k.Set) (λ a. fresh.5) (λ a. refl) (λ a z. set_base_exact n)
      (closed_by (symbol_class s.Colon) refl refl (mapped x.of_values (range n _ fresh.0)))))))))))))

  marked_exact : (n : ℕ) (I : Token → Bool) → FreshBase I → I (tok.Keyword k.Var) ≡ false → I (tok.Keyword k.Par) ≡ false → Exact n d d I nobody IsMarked (marked inner)
  unfolding marked
  marked_exact n I fresh v p = retold marked_to marked_from
      (start (keyword_class k.Var) (λ a. v) (λ a. refl) (λ a z. mapped {B = Mode × Bs} (λ b. (m.Var, b)) (base_exact n nobody nobody_fresh_base))
      (start (keyword_class k.Par) (λ a. p) (λ a. refl) (λ a z. mapped {B = Mode × Bs} (λ b. (m.Par, b)) (base_exact n nobody nobody_fresh_base))
      (mapped {B = Mode × Bs} (λ b. (m.Unmarked, b)) (base_exact n _ fresh))))

  pub kind_exact : (n : ℕ) (I : Token → Bool) → FreshKind I → Exact n d d I nobody IsKind (kind d inner inmost)
  unfolding kind
  kind_exact n I fresh = retold kind_to kind_from
      (start (keyword_class k.Array) (λ a. fresh.3) (λ a. refl) (λ a z. mapped kind_of
      (both (must_open (symbol_class s.OpenBracket) n nobody (λ a. refl) (λ a. refl) tt nobody (λ c. Sets) (λ c. index_sets inmost) d (λ c. has_sets) (λ l h c. sets_at n l h))
      (behind (keyword_class k.Of) refl refl (marked_exact n nobody nobody_fresh_base refl refl))))
      (mapped plain_kind (marked_exact n _ fresh.0 fresh.1 fresh.2)))
    where
      sets_at : (n l : ℕ) → d ≡ suc l → Exact n l (suc l) nobody nobody Sets (index_sets inmost)
      sets_at n l h = sets_exact l inmost (range2 l h) n

  note_arguments_exact : (n : ℕ) → Exact n d d nobody e_atom WritesArguments (note_arguments d inner inmost)
  unfolding note_arguments
  note_arguments_exact n = retold arguments_to arguments_from
      (start_open (symbol_class s.OpenParenthesis) (λ a. refl) (λ a. refl) (λ a z. has_arguments)
      (λ l h a z. widen (λ u k. refl) (closed_by (symbol_class s.CloseParenthesis) refl refl (list_exact n l inmost (any2 l h) (range2 l h) nobody nobody_fresh)))
      (none_after x.no_exs))

  note_exact : (n : ℕ) (p : Place) → Exact n d d nobody e_atom (IsNote p) (note_rest d inner inmost p)
  unfolding note_rest
  note_exact n p = mapped {B = Place × List ℕ × Exs} (λ r. (p, r.0, r.1)) (both (word_exact n d nobody (λ w. refl)) (note_arguments_exact n))

  -- where none of I may come after the last
  pub notes_exact : (I : Token → Bool) → I (tok.Symbol s.ColonColon) ≡ false → ((u : Token) → I u ≡ false → e_atom u ≡ false) → (n : ℕ) → Exact n d d I (either (symbol s.ColonColon) I) WritesNotes (notes d inner inmost)
  unfolding notes
  notes_exact I goes less n = listing (symbol_class s.ColonColon) (λ a p. IsNote p) notes_of WritesNotes (λ w h. h) (λ w h. h) (λ e es w a p g. note_in e es w p g) (λ e es w g. note_out e es w g) notes_back
      (repeat (symbol_class s.ColonColon) (λ a. goes) (λ a. refl) (λ l a z. widen less (note_exact l z)) n)

  value_exact : (n : ℕ) → Exact n d d (either (symbol s.ColonColon) e_atom) e_declared WritesValue (value d inner inmost)
  unfolding value
  value_exact n = retold value_to value_from
      (start (symbol_class s.Equal) (λ a. refl) (λ a. refl) (λ a z. widen declared_any (mapped x.present (any n nobody nobody_fresh)))
      (loosen declared_value (none_after x.absent)))

  pub declared_exact : (n : ℕ) → Exact n d d nobody e_declared IsDeclared (declared d inner inmost)
  unfolding declared
  declared_exact n = both (widen (λ u h. refl) (word_exact n d nobody (λ w. refl))) (both (notes_exact e_atom refl (λ u h. h) n) (value_exact n))

  pub declaration_exact : (n : ℕ) (I : Token → Bool) → FreshKind I → Exact n d d I e_declared WritesDecl (declaration d inner inmost)
  unfolding declaration
  declaration_exact n I fresh = retold declaration_to declaration_from (mapped declaration_of (placed_exact declaration_some (both (kind_exact n I fresh) (declared_exact n))))

-- ---- the declarations of a `let`

abbrev pub IsLocals : List Decl × Bool → Tokens → Type 0
IsLocals r = WritesDecls (decls_of r.0) r.1 ⋅ mark s.CloseBrace

abbrev pub MoreLocals : List Decl × Bool → Tokens → Type 0
MoreLocals r = WritesMoreDecls (decls_of r.0) r.1 ⋅ mark s.CloseBrace

abbrev pub with_first : Decl → List Decl × Bool → List Decl × Bool
with_first d r = (d ∷ r.0, r.1)

abbrev RawAfterMark : List Decl × Bool → Tokens → Type 0
RawAfterMark = Start {A = Unit {0}} {B = List Decl × Bool} (λ a. tok.Symbol s.CloseBrace) (λ a p. Just ([], true)) (Seq WritesDecl (λ d. Image (with_first d) MoreLocals))

abbrev RawMore : List Decl × Bool → Tokens → Type 0
RawMore = Start {A = Unit {0}} {B = List Decl × Bool} (λ a. tok.Symbol s.Semicolon) (λ a p. RawAfterMark) (λ z. mark s.CloseBrace ⋅ Just {A = List Decl × Bool} ([], false) z)

more_to : (z : List Decl × Bool) (w : Tokens) → RawMore z w → MoreLocals z w
more_to z w (inr (u, v, q, end, (j, n))) = subst (λ (a : List Decl × Bool). MoreLocals a w) (sym j) ([], w, refl, refl, subst (mark s.CloseBrace) (sym (q ∙ ap (λ a. u ++ a) n ∙ append_nil u)) end)
more_to z w (inl (a, p, (u, v, q, (y, n, t, l), inl (b, p2, (u2, v2, q2, (y2, n2, t2, l2), (j, n3)))))) =
    subst (λ (a : List Decl × Bool). MoreLocals a w) (sym j) (u, v, q, (y, n, t), (y2, q2 ∙ ap (λ a. u2 ++ a) n3 ∙ append_nil u2 ∙ n2, t2))
more_to z w (inl (a, p, (u, v, q, (y, n, t, l), inr (d, u2, v2, q2, g, (r, j, (u3, v3, q3, rest, end)))))) =
    subst (λ (a : List Decl × Bool). MoreLocals a w) (sym j) (u ++ (u2 ++ u3), v3, q ∙ ap (λ a. u ++ a) (q2 ∙ ap (λ a. u2 ++ a) q3 ∙ sym (append_assoc u2 u3 v3)) ∙ sym (append_assoc u (u2 ++ u3) v3), (u, u2 ++ u3, refl, (y, n, t), (u2, u3, refl, g, rest)), end)

more_from : (z : List Decl × Bool) (w : Tokens) → MoreLocals z w → RawMore z w
more_from z w g = by_list z.0 z.1 w g
  where
    by_list : (ds : List Decl) (c : Bool) (w : Tokens) → (WritesMoreDecls (decls_of ds) c ⋅ mark s.CloseBrace) w → RawMore (ds, c) w
    by_list [] true w (u, v, q, (y, n, t), (y2, n2, t2)) = inl (tt, y.place, (u, v, q, (y, n, t, refl), inl (tt, y2.place, (v, [], sym (append_nil v), (y2, n2, t2, refl), (refl, refl)))))
    by_list [] false w (u, v, q, n, end) = inr (w, [], sym (append_nil w), subst (mark s.CloseBrace) (sym (q ∙ ap (λ a. a ++ v) n)) end, (refl, refl))
    by_list (d ∷ ds) c w (u, v, q, (u1, u2, q1, (y, n, t), (u3, u4, q2, g, rest)), end) =
        inl (tt, y.place, (u1, u2 ++ v, q ∙ ap (λ a. a ++ v) q1 ∙ append_assoc u1 u2 v, (y, n, t, refl), inr (d, u3, u4 ++ v, ap (λ a. a ++ v) q2 ∙ append_assoc u3 u4 v, g, ((ds, c), refl, (u4, v, refl, rest, end)))))

-- on no tokens at all, a reader of a part of a language reads all of it, if none of it is of no tokens
module _ {A : Type 0} {d1 d2 : ℕ} {I E : Token → Bool} {G : A → Tokens → Type 0} {p : Parser A} (H : A → Tokens → Type 0) (part : (x : A) (w : Tokens) → G x w → H x w) (some : (x : A) → H x [] → ⊥)
    (begins : (x : A) (w r : Tokens) → H x w → Stops I (w ++ r)) (one : Exact 0 d1 d2 I E G p) where
  no_more : (x : A) (w r : Tokens) → length (w ++ r) ≤ 0 → H x w → ⊥
  no_more x [] r fits g = some x g
  no_more x (y ∷ w) r fits g = omega (arith, fits)

  pub on_nothing : Exact 0 d1 d2 I E H p
  on_nothing = record {
    witness = (one.witness.0, one.witness.1, part one.witness.0 one.witness.1 one.witness.2);
    starts = λ x w r g halt. begins x w r g;
    sound = λ ts x r fits h. let f = one.sound ts x r fits h in record { front = f.front; whole = f.whole; written = part x f.front f.written; even = f.even };
    right = λ x w r fits g halt. absurd (no_more x w r fits g);
    wrong = λ ts k fits h. let f = one.wrong ts k fits h in record { front = f.front; rest = f.rest; whole = f.whole; count = f.count; value = f.value; more = f.more; written = part f.value (f.front ++ f.more) f.written; even = f.even };
    passed = λ ts k fits h. let f = one.passed ts k fits h in
        record { front = f.front; opening = f.opening; rest = f.rest; whole = f.whole; count = f.count; value = f.value; more = f.more; written = part f.value (f.front ++ f.opening ∷ f.more) f.written; edge = f.edge; opener = f.opener };
    steady = one.steady;
    frozen = one.frozen;
  }

module _ (d : ℕ) (inner inmost : Reach → Parser Ex) (one : (n : ℕ) (I : Token → Bool) → FreshKind I → Exact n d d I e_declared WritesDecl (declaration d inner inmost)) where
  more_some : (z : List Decl × Bool) → MoreLocals z [] → ⊥
  more_some z ([], v, q, g, (y, n, t)) = cc
  more_some z (y ∷ u, v, q, g, end) = cc

  more_begins : (z : List Decl × Bool) (w r : Tokens) → MoreLocals z w → Stops e_declared (w ++ r)
  more_begins z w r g = begins_raw z w r (more_from z w g)
    where
      at_head : (t : Token) (w u v r : Tokens) (y : Spanned) → w ≡ u ++ v → u ≡ y ∷ [] → y.token ≡ t → e_declared t ≡ false → Stops e_declared (w ++ r)
      at_head t w u v r y q n i h = subst (λ (a : Tokens). Stops e_declared (a ++ r)) (sym (q ∙ ap (λ a. a ++ v) n)) (subst (λ (a : Token). e_declared a ≡ false) (sym i) h)

      begins_raw : (z : List Decl × Bool) (w r : Tokens) → RawMore z w → Stops e_declared (w ++ r)
      begins_raw z w r (inl (a, p, (u, v, q, (y, n, t, l), g))) = at_head (tok.Symbol s.Semicolon) w u v r y q n t refl
      begins_raw z w r (inr (u, v, q, (y, n, t), g)) = at_head (tok.Symbol s.CloseBrace) w u v r y q n t refl

  brace_fresh : FreshKind (either (symbol s.CloseBrace) nobody)
  brace_fresh = ((symbol_fresh.2, refl, refl, refl, refl, refl), refl, refl, refl)

  pub more_locals_exact : (n : ℕ) → Exact n d (suc d) e_declared nobody MoreLocals (more_locals d inner inmost n)
  unfolding more_locals
  more_locals_exact zero = on_nothing MoreLocals (λ z w g. more_to z w (inr g)) more_some more_begins (behind (symbol_class s.CloseBrace) refl refl (none_after {A = List Decl × Bool} ([], false)))
  more_locals_exact (suc n) = retold more_to more_from
      (e.retype (suc n) d (suc d) e_declared nobody (Cases (symbol s.Semicolon) (λ a y. RawAfterMark) (λ z. mark s.CloseBrace ⋅ Just {A = List Decl × Bool} ([], false) z)) RawMore (more_locals d inner inmost (suc n))
      raw_in raw_out
      (r.by_exact (suc n) n d d (suc d) (omega arith) e_declared nobody (symbol s.Semicolon) (λ a y. RawAfterMark) (λ z. mark s.CloseBrace ⋅ Just {A = List Decl × Bool} ([], false) z)
      (λ a y. by (symbol s.CloseBrace) (λ b z. pure ([], true)) (declaration d inner inmost >>= λ d2. into {B = List Decl × Bool} (with_first d2) (more_locals d inner inmost n)))
      (skip (symbol s.CloseBrace) (pure ([], false)))
      (clear_of (symbol_class s.Semicolon) e_declared (λ a. refl)) (step_of (symbol_class s.Semicolon) d (Some d) (λ a. refl))
      (λ a y h. start (symbol_class s.CloseBrace) (λ a. refl) (λ a. refl) (λ a z. none_after {A = List Decl × Bool} ([], true))
      (next (one n (either (symbol s.CloseBrace) nobody) brace_fresh) (λ d2. mapped {B = List Decl × Bool} (with_first d2) (more_locals_exact n))))
      (behind (symbol_class s.CloseBrace) refl refl (none_after {A = List Decl × Bool} ([], false)))))
    where
      raw_in : (z : List Decl × Bool) (w : Tokens) → Cases (symbol s.Semicolon) (λ a y. RawAfterMark) (λ z. mark s.CloseBrace ⋅ Just {A = List Decl × Bool} ([], false) z) z w → RawMore z w
      raw_in z w (inl (a, y, v, q, h, g)) = inl (tt, y.place, (y ∷ [], v, q, (y, refl, (symbol_class s.Semicolon).is y.token a h, refl), g))
      raw_in z w (inr g) = inr g

      raw_out : (z : List Decl × Bool) (w : Tokens) → RawMore z w → Cases (symbol s.Semicolon) (λ a y. RawAfterMark) (λ z. mark s.CloseBrace ⋅ Just {A = List Decl × Bool} ([], false) z) z w
      raw_out z w (inl (a, p, (u, v, q, (y, n, t, l), g))) = inl (tt, y, v, q ∙ ap (λ k. k ++ v) n, ap (symbol s.Semicolon) t ∙ (symbol_class s.Semicolon).has tt, g)
      raw_out z w (inr g) = inr g

  -- the turns that are allowed do not matter, where they are as many as the tokens
  turns_enough : (j n : ℕ) (ts : Tokens) → length ts ≤ j → length ts ≤ n → more_locals d inner inmost j ts ≡ more_locals d inner inmost n ts
  unfolding more_locals
  turns_enough zero zero ts h i = refl
  turns_enough zero (suc n) [] h i = refl
  turns_enough zero (suc n) (y ∷ ts) h i = absurd (omega arith)
  turns_enough (suc j) zero [] h i = refl
  turns_enough (suc j) zero (y ∷ ts) h i = absurd (omega arith)
  turns_enough (suc j) (suc n) [] h i = refl
  turns_enough (suc j) (suc n) (y ∷ ts) h i = marked_same (λ t a b. turns_enough j n t a b) (front (symbol s.Semicolon) (y ∷ ts)) (skip (symbol s.CloseBrace) (pure {A = List Decl × Bool} ([], false)) (y ∷ ts))
    where
      after_item : ((t : Tokens) → length t ≤ j → length t ≤ n → more_locals d inner inmost j t ≡ more_locals d inner inmost n t) → (q : Out Decl) → declaration d inner inmost ts ≡ q → and_then q (λ d2. into {B = List Decl × Bool} (with_first d2) (more_locals d inner inmost j)) ≡ and_then q (λ d2. into {B = List Decl × Bool} (with_first d2) (more_locals d inner inmost n))
      after_item again (ok d2 t) g =
          let f = (one (length ts) nobody ((nobody_fresh, refl, refl, refl, refl, refl), refl, refl, refl)).sound ts d2 t (omega arith) g in
          let less : length t ≤ length ts = omega (arith, ap length f.whole, length-append f.front t) in
          ap (λ o. and_then o (λ r. pure (with_first d2 r))) (again t (omega (arith, less, h)) (omega (arith, less, i)))
      after_item again (bad b) g = refl
      after_item again (deep b) g = refl

      closed_same : ((t : Tokens) → length t ≤ j → length t ≤ n → more_locals d inner inmost j t ≡ more_locals d inner inmost n t) → (q : Option (Unit {0} × Spanned)) (b : Out (List Decl × Bool)) → pick q (λ a. b) (and_then (declaration d inner inmost ts) (λ d2. into {B = List Decl × Bool} (with_first d2) (more_locals d inner inmost j)))
          ≡ pick q (λ a. b) (and_then (declaration d inner inmost ts) (λ d2. into {B = List Decl × Bool} (with_first d2) (more_locals d inner inmost n)))
      closed_same again None b = after_item again (declaration d inner inmost ts) refl
      closed_same again (Some a) b = refl

      marked_same : ((t : Tokens) → length t ≤ j → length t ≤ n → more_locals d inner inmost j t ≡ more_locals d inner inmost n t) → (q : Option (Unit {0} × Spanned)) (b : Out (List Decl × Bool))
          → pick q (λ a. by (symbol s.CloseBrace) (λ c z. pure ([], true)) (declaration d inner inmost >>= λ d2. into {B = List Decl × Bool} (with_first d2) (more_locals d inner inmost j)) ts) b
          ≡ pick q (λ a. by (symbol s.CloseBrace) (λ c z. pure ([], true)) (declaration d inner inmost >>= λ d2. into {B = List Decl × Bool} (with_first d2) (more_locals d inner inmost n)) ts) b
      marked_same again None b = refl
      marked_same again (Some a) b = closed_same again (front (symbol s.CloseBrace) ts) (ok ([], true) (after ts))

  locals_to : (z : List Decl × Bool) (w : Tokens) → Seq WritesDecl (λ d. Image (with_first d) MoreLocals) z w → IsLocals z w
  locals_to z w (d2, u, v, q, g, (r, j, (u2, v2, q2, rest, end))) =
      subst (λ (a : List Decl × Bool). IsLocals a w) (sym j) (u ++ u2, v2, q ∙ ap (λ a. u ++ a) q2 ∙ sym (append_assoc u u2 v2), (u, u2, refl, g, rest), end)

  locals_from : (z : List Decl × Bool) (w : Tokens) → IsLocals z w → Seq WritesDecl (λ d. Image (with_first d) MoreLocals) z w
  locals_from z w g = by_list z.0 z.1 w g
    where
      by_list : (ds : List Decl) (c : Bool) (w : Tokens) → (WritesDecls (decls_of ds) c ⋅ mark s.CloseBrace) w → Seq WritesDecl (λ d. Image (with_first d) MoreLocals) (ds, c) w
      by_list [] c w (u, v, q, g, end) = absurd g
      by_list (d2 ∷ ds) c w (u, v, q, (u1, u2, q1, g, rest), end) = (d2, u1, u2 ++ v, q ∙ ap (λ a. a ++ v) q1 ∙ append_assoc u1 u2 v, g, ((ds, c), refl, (u2, v, refl, rest, end)))

  pub locals_exact : (n : ℕ) → Exact n d (suc d) nobody nobody IsLocals (locals d inner inmost)
  unfolding locals
  locals_exact n = retold locals_to locals_from
      (next (one n nobody ((nobody_fresh, refl, refl, refl, refl, refl), refl, refl, refl)) (λ d2. mapped {B = List Decl × Bool} (with_first d2)
      (extend n d (suc d) e_declared nobody MoreLocals (λ ts. more_locals d inner inmost (length ts) ts) (more_locals d inner inmost n) (λ ts h. turns_enough (length ts) n ts (omega arith) h) (more_locals_exact n))))

pub has_locals : Has IsLocals
has_locals =
    let kind_word = token_at (tok.Keyword k.Int) in let colon = token_at (tok.Symbol s.Colon) in let name = token_at (tok.Name []) in let close = token_at (tok.Symbol s.CloseBrace) in
    let kind_is : IsKind (x.kind x.no_indices m.Unmarked x.of_int) (kind_word ∷ colon ∷ []) = (kind_word ∷ [], colon ∷ [], refl, ([], kind_word ∷ [], refl, refl, ([], kind_word ∷ [], refl, refl, the_has (tok.Keyword k.Int))), the_has (tok.Symbol s.Colon)) in
    let one : WritesDecl (x.declare some_place (x.kind x.no_indices m.Unmarked x.of_int) [] x.no_notes x.absent) (kind_word ∷ colon ∷ name ∷ []) =
    (refl, (kind_word ∷ colon ∷ [], name ∷ [], refl, kind_is, (name ∷ [], [], refl, the_has (tok.Name []), ([], [], refl, refl, refl)))) in (
      (x.declare some_place (x.kind x.no_indices m.Unmarked x.of_int) [] x.no_notes x.absent ∷ [], false),
      kind_word ∷ colon ∷ name ∷ close ∷ [],
      (kind_word ∷ colon ∷ name ∷ [], close ∷ [], refl, (kind_word ∷ colon ∷ name ∷ [], [], refl, one, refl), the_has (tok.Symbol s.CloseBrace)),
    )
