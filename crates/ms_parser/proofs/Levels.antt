-- Atoms, accesses, signs and the levels of operators are read as the grammar writes them.
use Rattle.std.proofs.Common.{◌≡◌, ℕ, zero, suc, ◌≤◌, List, [], ◌∷◌, ◌++◌, Some, None, Bool, true, false, refl, sym, ap, ◌∙◌, subst, arith, ◌⊎◌, inl, inr}
use Rattle.std.specs.Prelude.{◌==◌, if◌then◌else◌}
use Rattle.std.proofs.lemmas.Bool.{eqb-true}
use Rattle.ms_syntax.specs.declared.token.Token.{Token}
use Rattle.ms_syntax.specs.declared.token.Token.TheVariants as tok
use Rattle.ms_syntax.specs.declared.token.Keyword.TheVariants as k
use Rattle.ms_syntax.specs.declared.token.Symbol.TheVariants as s
use Rattle.ms_syntax.specs.declared.token.Spanned.{Spanned}
use Rattle.ms_syntax.specs.declared.token.Place.{Place}
use Rattle.ms_syntax.specs.declared.tree.Operator.{Operator}
use Rattle.ms_syntax.specs.declared.tree.Operator.TheVariants as o
use Rattle.ms_syntax.specs.declared.tree.Sign.{Sign}
use Rattle.ms_syntax.specs.declared.tree.Sign.TheVariants as g
use Rattle.ms_syntax.specs.Tree as x
use Rattle.ms_syntax.specs.Tree.{Ex, Maybe, Links, Subscripts, links_of, subscripts_of}
use Rattle.ms_syntax.specs.Grammar.{Tokens, ◌⋅◌, at, from, BeginsAt, operands, single, sign_of, mark_of, truth_of, Writes, WritesLinks, WritesSubscripts, left_after}
use Rattle.ms_expressions.specs.declared.reach.Reach.{Reach}
use Rattle.ms_expressions.specs.declared.reach.Reach.TheVariants as reach
use Rattle.ms_cursor.specs.Reading.{Parser, ◌>>=◌, pure, into, place_at}
use Rattle.ms_cursor.specs.Kinds.{a_name, a_number, a_text, a_sign, symbol, only, infix_of}
use Rattle.ms_expressions.specs.Rules.{chained, accessing, named, closed, bracketed, atom, opened_subscript, subscripts, accessed, signed, one_more, links, behind as behind_rule, tier, arguments, set_rest}
use Rattle.ms_cursor.specs.Level.{is_single}
use Rattle.ms_parser.proofs.Classes.{name_class, number_class, text_class, truth_class, sign_class, symbol_class, keyword_class, operator_has, infix_is, infix_has}
use Rattle.ms_parser.proofs.Exact.{widen, Exact, Seq, Just, One, Cases, Many, nobody, append_nil}
use Rattle.ms_parser.proofs.Choices.{either, either_second, some_or}
use Rattle.ms_parser.proofs.Read as r
use Rattle.ms_parser.proofs.Parts.{Pair, Image, Start, Has, token_at, the_has, has_pair, next, both, mapped, retold, none_after, start, start_open}
use Rattle.ms_parser.proofs.Lists.{must_open, repeat_open, listing, placeless, placing, placed_exact}
use Rattle.ms_parser.proofs.Enclosed.{e_atom, e_access, e_tier, e_any, e_range, Fresh, nobody_fresh, IsAt, IsClosed, IsListed, IsIf, if_of, IsSubscript, RawArray, RawRows, has_if, has_paren, has_array, has_rows, has_set, has_zero, if_exact, paren_exact, array_exact, rows_exact, set_exact, subscript_exact, array_to, array_from, comprehension_from, rows_to, rows_from}
use Rattle.ms_parser.proofs.Calls.{Behind, RawArguments, has_arguments, arguments_exact, named_to, call_from, generator_call_from}

-- ---- atoms

-- none of I begins an atom
abbrev pub FreshAtom : (Token → Bool) → Type 0
FreshAtom I = ((n : ℕ) → I (tok.Number n) ≡ false) × ((w : List ℕ) → I (tok.Text w) ≡ false) × ((w : List ℕ) → I (tok.Name w) ≡ false)
    × (I (tok.Keyword k.True) ≡ false) × (I (tok.Keyword k.False) ≡ false) × (I (tok.Keyword k.If) ≡ false) × (I (tok.Symbol s.OpenParenthesis) ≡ false)
    × (I (tok.Symbol s.OpenBracket) ≡ false) × (I (tok.Symbol s.OpenRows) ≡ false) × (I (tok.Symbol s.OpenBrace) ≡ false)

pub atom_of : (I : Token → Bool) → Fresh I → FreshAtom I
atom_of I f = (f.0, f.1, f.2, f.3, f.4, f.5, f.6, f.7, f.8, f.9)

-- nor an expression without a `let`
abbrev pub FreshSigned : (Token → Bool) → Type 0
FreshSigned I = FreshAtom I × (I (tok.Keyword k.Not) ≡ false) × (I (tok.Symbol s.Minus) ≡ false)

pub signed_of : (I : Token → Bool) → Fresh I → FreshSigned I
signed_of I f = (atom_of I f, f.10, f.11)

pub nobody_signed : FreshSigned nobody
nobody_signed = signed_of nobody nobody_fresh

abbrev pub RawClosed : Ex → Tokens → Type 0
RawClosed = Start tok.Number (λ n p. Just (x.number p n)) (Start tok.Text (λ w p. Just (x.text p w)) (Start truth_of (λ b p. Just (x.truth p b))
    (Start {A = Unit {0}} (λ a. tok.Keyword k.If) (λ a p. Image (if_of p) IsIf) (Start {A = Unit {0}} (λ a. tok.Symbol s.OpenParenthesis) (λ a p. Image (x.paren p) IsClosed)
    (Start {A = Unit {0}} (λ a. tok.Symbol s.OpenBracket) (λ a p. RawArray p) (Start {A = Unit {0}} (λ a. tok.Symbol s.OpenRows) (λ a p. RawRows p)
    (Seq (One (symbol s.OpenBrace)) (λ c. Image (x.set c.1.place) IsListed))))))))

abbrev pub RawAtom : Ex → Tokens → Type 0
RawAtom = Start tok.Name (λ w p. Behind p w) RawClosed

just_atom : (t : Token) (p : Place) (e z : Ex) (w : Tokens) → ((w : Tokens) → at p t w → IsAt 0 e w) → (at p t ⋅ Just e z) w → IsAt 0 z w
just_atom t p e z w f (u, v, q, a, (i, j)) = subst (λ (b : Ex). IsAt 0 b w) (sym i) (f w (subst (at p t) (sym (q ∙ ap (λ b. u ++ b) j ∙ append_nil u)) a))

atom_to : (z : Ex) (w : Tokens) → RawAtom z w → IsAt 0 z w
atom_to z w (inl (n, p, (u, v, q, a, g))) = named_to p n z w u v q a g
atom_to z w (inr (inl (n, p, g))) = just_atom (tok.Number n) p (x.number p n) z w (λ w h. (omega arith, h)) g
atom_to z w (inr (inr (inl (n, p, g)))) = just_atom (tok.Text n) p (x.text p n) z w (λ w h. (omega arith, h)) g
atom_to z w (inr (inr (inr (inl (n, p, g))))) = just_atom (truth_of n) p (x.truth p n) z w (λ w h. (omega arith, h)) g
atom_to z w (inr (inr (inr (inr (inl (n, p, (u, v, q, a, (c, i, g)))))))) = subst (λ (b : Ex). IsAt 0 b w) (sym i) (omega arith, (u, v, q, a, g))
atom_to z w (inr (inr (inr (inr (inr (inl (n, p, (u, v, q, a, (c, i, g))))))))) = subst (λ (b : Ex). IsAt 0 b w) (sym i) (omega arith, (u, v, q, a, g))
atom_to z w (inr (inr (inr (inr (inr (inr (inl (n, p, (u, v, q, a, g))))))))) = array_to p z w u v q a g
atom_to z w (inr (inr (inr (inr (inr (inr (inr (inl (n, p, (u, v, q, a, g)))))))))) = rows_to p z w u v q a g
atom_to z w (inr (inr (inr (inr (inr (inr (inr (inr (c, u, v, q, (m, h), (es, i, g)))))))))) =
    subst (λ (b : Ex). IsAt 0 b w) (sym i) (omega arith, (u, v, q, (c.1, m, (symbol_class s.OpenBrace).is c.1.token c.0 h, refl), g))

alone : (t : Token) (p : Place) (e : Ex) (w : Tokens) → at p t w → (at p t ⋅ Just e e) w
alone t p e w a = (w, [], sym (append_nil w), a, (refl, refl))

atom_from : (z : Ex) (w : Tokens) → IsAt 0 z w → RawAtom z w
atom_from (x.let_in p ds c e) w h = absurd (omega (arith, h.0))
atom_from (x.chain n e ls) w h = absurd (omega (arith, h.0))
atom_from (x.prefix p b e) w h = absurd (omega (arith, h.0))
atom_from (x.access p e is) w h = absurd (omega (arith, h.0))
atom_from (x.number p n) w h = inr (inl (n, p, alone (tok.Number n) p (x.number p n) w h.1))
atom_from (x.text p n) w h = inr (inr (inl (n, p, alone (tok.Text n) p (x.text p n) w h.1)))
atom_from (x.truth p n) w h = inr (inr (inr (inl (n, p, alone (truth_of n) p (x.truth p n) w h.1))))
atom_from (x.name p n) w h = inl (n, p, (w, [], sym (append_nil w), h.1, inr (refl, refl)))
atom_from (x.call p n es) w (b, (u, v, q, a, h)) = inl (n, p, (u, v, q, a, call_from p n es v h))
atom_from (x.generator_call p n gs c e) w (b, (u, v, q, a, h)) = inl (n, p, (u, v, q, a, generator_call_from p n gs c e v h))
atom_from (x.paren p e) w (b, (u, v, q, a, h)) = inr (inr (inr (inr (inr (inl (tt, p, (u, v, q, a, (e, refl, h))))))))
atom_from (x.array p es) w (b, (u, v, q, a, h)) = inr (inr (inr (inr (inr (inr (inl (tt, p, (u, v, q, a, array_from p es v h))))))))
atom_from (x.comprehension p e gs c) w (b, (u, v, q, a, h)) = inr (inr (inr (inr (inr (inr (inl (tt, p, (u, v, q, a, comprehension_from p e gs c v h))))))))
atom_from (x.rows p rs) w (b, (u, v, q, a, h)) = inr (inr (inr (inr (inr (inr (inr (inl (tt, p, (u, v, q, a, rows_from p rs v h)))))))))
atom_from (x.set p es) w (b, (u, v, q, (y, m, t, l), h)) =
    inr (inr (inr (inr (inr (inr (inr (inr ((tt, y), u, v, q, (m, ap (symbol s.OpenBrace) t ∙ (symbol_class s.OpenBrace).has tt), (es, ap (λ a. x.set a es) (sym l), h)))))))))
atom_from (x.if_else p c b more e) w (l, (u, v, q, a, h)) = inr (inr (inr (inr (inl (tt, p, (u, v, q, a, (((c, b), (more, e)), refl, h)))))))

-- ---- no atom is of no tokens

begins_some : (p : Place) (t : Token) (l : Tokens → Type 0) → (at p t ⋅ l) [] → ⊥
begins_some p t l ([], v, q, (y, m, h, i), g) = cc
begins_some p t l (z ∷ u, v, q, a, g) = cc

at_some : (p : Place) (t : Token) → at p t [] → ⊥
at_some p t (y, m, h, i) = cc

pub atom_some : (z : Ex) → IsAt 0 z [] → ⊥
atom_some (x.let_in p ds c e) h = absurd (omega (arith, h.0))
atom_some (x.chain n e ls) h = absurd (omega (arith, h.0))
atom_some (x.prefix p b e) h = absurd (omega (arith, h.0))
atom_some (x.access p e is) h = absurd (omega (arith, h.0))
atom_some (x.number p n) h = at_some p (tok.Number n) h.1
atom_some (x.text p n) h = at_some p (tok.Text n) h.1
atom_some (x.truth p n) h = at_some p (truth_of n) h.1
atom_some (x.name p n) h = at_some p (tok.Name n) h.1
atom_some (x.call p n es) h = begins_some p (tok.Name n) _ h.1
atom_some (x.generator_call p n gs c e) h = begins_some p (tok.Name n) _ h.1
atom_some (x.paren p e) h = begins_some p (tok.Symbol s.OpenParenthesis) _ h.1
atom_some (x.array p es) h = begins_some p (tok.Symbol s.OpenBracket) _ h.1
atom_some (x.comprehension p e gs c) h = begins_some p (tok.Symbol s.OpenBracket) _ h.1
atom_some (x.rows p rs) h = begins_some p (tok.Symbol s.OpenRows) _ h.1
atom_some (x.set p es) h = begins_some p (tok.Symbol s.OpenBrace) _ h.1
atom_some (x.if_else p c b more e) h = begins_some p (tok.Keyword k.If) _ h.1

-- ---- accesses

abbrev pub Accessed : Ex × Subscripts → Tokens → Type 0
Accessed = Pair (IsAt 0) WritesSubscripts

abbrev pub RawAccess : Ex → Tokens → Type 0
RawAccess = Image (λ r. accessing r.0 r.1.0 r.1.1) (λ (r : Place × (Ex × Subscripts)). from r.0 (Accessed r.1))

chain_least : (n : ℕ) (e : Ex) (ls : Links) (w : Tokens) → Writes (x.chain n e ls) w → 2 ≤ n
chain_least n e x.no_links w g = absurd g.0
chain_least n e (x.link op p e2 more) w (one, (u, v, q, h, (i, rest))) = omega (arith, operands_least op, i)
  where
    operands_least : (op : Operator) → 2 ≤ operands op
    operands_least o.Equivalent = omega arith
    operands_least _ = omega arith

begins_of : (w : Tokens) → (w ≡ [] → ⊥) → BeginsAt (place_at w) w
begins_of [] h = absurd (h refl)
begins_of (y ∷ w) h = refl

access_to : (z : Ex) (w : Tokens) → RawAccess z w → IsAt 1 z w
access_to z w ((p, (e, x.no_subscripts)), i, (b, (u, v, q, g, n))) =
    subst (λ (a : Ex). IsAt 1 a w) (sym i) (subst (IsAt 1 e) (sym (q ∙ ap (λ a. u ++ a) n ∙ append_nil u)) (omega (arith, g.0), g.1))
access_to z w ((p, (e, x.subscript a c more)), i, (b, (u, v, q, g, n))) = subst (λ (a : Ex). IsAt 1 a w) (sym i) (omega arith, (b, (tt, (u, v, q, g, n))))

plain_access : (z : Ex) (w : Tokens) → IsAt 0 z w → RawAccess z w
plain_access z w g = ((place_at w, (z, x.no_subscripts)), refl, (begins_of w (λ h. atom_some z (subst (IsAt 0 z) h g)), (w, [], sym (append_nil w), g, refl)))

access_from : (z : Ex) (w : Tokens) → IsAt 1 z w → RawAccess z w
access_from (x.let_in p ds c e) w h = absurd (omega (arith, h.0))
access_from (x.chain n e ls) w h = absurd (omega (arith, h.0, chain_least n e ls w h.1))
access_from (x.prefix p b e) w h = absurd (omega (arith, h.0))
access_from (x.access p e x.no_subscripts) w (l, (b, (one, g))) = absurd one
access_from (x.access p e (x.subscript a c more)) w (l, (b, (one, g))) = ((p, (e, x.subscript a c more)), refl, (b, g))
access_from z w h = plain_access z w (omega arith, h.1)

pub subscripts_back : (l : Subscripts) → (xs : List (Ex × Maybe)) × (subscripts_of xs ≡ l)
subscripts_back x.no_subscripts = ([], refl)
subscripts_back (x.subscript i j l) = let b = subscripts_back l in ((i, j) ∷ b.0, ap (x.subscript i j) b.1)

has_subscript : Has IsSubscript
has_subscript = has_pair has_zero (x.absent, token_at (tok.Symbol s.CloseBracket) ∷ [], ([], token_at (tok.Symbol s.CloseBracket) ∷ [], refl, refl, the_has (tok.Symbol s.CloseBracket)))

-- ---- signs

abbrev pub RawSigned : Ex → Tokens → Type 0
RawSigned = Start mark_of (λ b p. Image (x.prefix p b) (IsAt 1)) (IsAt 1)

signed_to : (z : Ex) (w : Tokens) → RawSigned z w → IsAt 2 z w
signed_to z w (inl (b, p, (u, v, q, a, (e, i, g)))) = subst (λ (a : Ex). IsAt 2 a w) (sym i) (omega arith, (u, v, q, a, g))
signed_to z w (inr g) = (omega (arith, g.0), g.1)

signed_from : (z : Ex) (w : Tokens) → IsAt 2 z w → RawSigned z w
signed_from (x.let_in p ds c e) w h = absurd (omega (arith, h.0))
signed_from (x.chain n e ls) w h = absurd (omega (arith, h.0, chain_least n e ls w h.1))
signed_from (x.prefix p b e) w (l, (u, v, q, a, g)) = inl (b, p, (u, v, q, a, (e, refl, g)))
signed_from z w h = inr (omega arith, h.1)

-- ---- operators

keeps : (d : ℕ) (op : Operator) → left_after d (sign_of op) ≡ Some d
keeps d o.Equivalent = refl
keeps d _ = refl

other_level : (n : ℕ) (op : Operator) → suc n ≤ operands op → infix_of n (sign_of op) ≡ None
other_level n op h = ap (only n) (operator_has op) ∙ at_test (operands op == n) refl
  where
    at_test : (b : Bool) → (operands op == n) ≡ b → (if b then Some op else None) ≡ None
    at_test true e = absurd (omega (arith, eqb-true (operands op) n e))
    at_test false e = refl

tier_clear : (h : ℕ) (op : Operator) → suc (suc h) ≤ operands op → e_tier h (sign_of op) ≡ false
tier_clear zero o.Equivalent l = refl
tier_clear zero _ l = refl
tier_clear (suc h) op l = ap (λ q. some_or q (e_tier h (sign_of op))) (other_level (suc (suc h)) op (omega (arith, l))) ∙ tier_clear h op (omega (arith, l))

single_is : (op : Operator) → single op ≡ is_single (operands op)
single_is o.Equivalent = refl
single_is _ = refl

abbrev IsLink : ℕ → Operator → Place → Operator × Place × Ex → Tokens → Type 0
IsLink n op p = Image (λ e. (op, p, e)) (IsAt n)

links_to : (n : ℕ) (ls : List (Operator × Place × Ex)) (w : Tokens) → Many (infix_of n) (λ op y. IsLink n op y.place) ls w → WritesLinks n (links_of ls) w
links_to n [] w h = h
links_to n (l ∷ ls) w (op, y, u, v, q, h, (e, i, g), rest) =
    let is = infix_is n y.token op h in
    subst (λ (a : Operator × Place × Ex). WritesLinks n (links_of (a ∷ ls)) w) (sym i) (is.1, (y ∷ [], u ++ v, q, (y, refl, is.0, refl), (u, v, refl, g, links_to n ls v rest)))

links_from : (n : ℕ) (ls : Links) (w : Tokens) → WritesLinks n ls w → Image links_of (Many (infix_of n) (λ op y. IsLink n op y.place)) ls w
links_from n x.no_links w h = ([], refl, h)
links_from n (x.link op p e more) w (i, (u, v, q, (y, m, t, l), (b, c, q2, g, rest))) =
    let again = links_from n more c rest in
    ((op, p, e) ∷ again.0, ap (x.link op p e) again.1, (op, y, b, c, q ∙ ap (λ a. a ++ v) m ∙ ap (λ a. y ∷ a) q2, ap (infix_of n) t ∙ infix_has n op i, (e, ap (λ a. (op, a, e)) (sym l), g), again.2))

links_both : (n : ℕ) (ls : Links) (w : Tokens) → Image links_of (Many (infix_of n) (λ op y. IsLink n op y.place)) ls w → WritesLinks n ls w
links_both n ls w (xs, i, g) = subst (λ (a : Links). WritesLinks n a w) (sym i) (links_to n xs w g)

-- behind a first operand: one operator, or any number
abbrev One_more : ℕ → Ex → Ex → Tokens → Type 0
One_more n first = Cases (infix_of n) (λ op y. Image (λ e. x.chain n first (x.link op y.place e x.no_links)) (IsAt n)) (Just first)

abbrev Any_more : ℕ → Ex → Ex → Tokens → Type 0
Any_more n first = Image (chained n first) (WritesLinks n)

abbrev Behind_first : Bool → ℕ → Ex → Ex → Tokens → Type 0
Behind_first true n first = One_more n first
Behind_first false n first = Any_more n first

at_most_or : (m n : ℕ) → m ≤ n → (suc m ≤ n) ⊎ (m ≡ n)
at_most_or zero zero h = inr refl
at_most_or zero (suc n) h = inl (omega arith)
at_most_or (suc m) zero h = absurd (omega arith)
at_most_or (suc m) (suc n) h = elim (at_most_or m n (omega arith)) as (λ _. (suc (suc m) ≤ suc n) ⊎ (suc m ≡ suc n)) [
  | inl e ↦ inl (omega arith)
  | inr e ↦ inr (ap suc e)
]

-- an expression of a level is one of the level below, or a chain
lower : (h : ℕ) → h ≤ 9 → (z : Ex) (w : Tokens) → IsAt (suc (suc (suc h))) z w → IsAt (suc (suc h)) z w ⊎ ((e : Ex) × (ls : Links) × (z ≡ x.chain (suc (suc h)) e ls) × Writes (x.chain (suc (suc h)) e ls) w)
lower h b (x.let_in p ds c e) w g = absurd (omega (arith, g.0, b))
lower h b (x.chain n e ls) w g = elim (at_most_or n (suc (suc h)) (omega (arith, g.0))) as (λ _. IsAt (suc (suc h)) (x.chain n e ls) w ⊎ ((e2 : Ex) × (ls2 : Links) × (x.chain n e ls ≡ x.chain (suc (suc h)) e2 ls2) × Writes (x.chain (suc (suc h)) e2 ls2) w)) [
  | inl l ↦ inl (l, g.1)
  | inr l ↦ inr (e, ls, ap (λ a. x.chain a e ls) l, subst (λ (a : ℕ). Writes (x.chain a e ls) w) l g.1)
]
lower h b z w g = inl (omega arith, g.1)

first_alone : (n : ℕ) (z first : Ex) (w u v : Tokens) → w ≡ u ++ v → IsAt n first u → z ≡ first → v ≡ [] → IsAt (suc n) z w
first_alone n z first w u v q g i j = subst (λ (a : Ex). IsAt (suc n) a w) (sym i) (subst (IsAt (suc n) first) (sym (q ∙ ap (λ a. u ++ a) j ∙ append_nil u)) (omega (arith, g.0), g.1))

one_to : (n : ℕ) (z : Ex) (w : Tokens) → Seq (IsAt n) (One_more n) z w → IsAt (suc n) z w
one_to n z w (first, u, v, q, g, inr (i, j)) = first_alone n z first w u v q g i j
one_to n z w (first, u, v, q, g, inl (op, y, c, m, h, (e, i, ge))) =
    let is = infix_is n y.token op h in
    subst (λ (a : Ex). IsAt (suc n) a w) (sym i) (omega arith, (tt, (u, v, q, g, (is.1, (y ∷ [], c, m, (y, refl, is.0, refl), (c, [], sym (append_nil c), ge, refl))))))

any_to : (n : ℕ) → is_single n ≡ false → (z : Ex) (w : Tokens) → Seq (IsAt n) (Any_more n) z w → IsAt (suc n) z w
any_to n b z w (first, u, v, q, g, (x.no_links, i, j)) = first_alone n z first w u v q g i j
any_to n b z w (first, u, v, q, g, (x.link op p e x.no_links, i, j)) = subst (λ (a : Ex). IsAt (suc n) a w) (sym i) (omega arith, (tt, (u, v, q, g, j)))
any_to n b z w (first, u, v, q, g, (x.link op p e (x.link op2 p2 e2 more), i, j)) =
    subst (λ (a : Ex). IsAt (suc n) a w) (sym i) (omega arith, (single_is op ∙ ap is_single j.0 ∙ b, (u, v, q, g, j)))

one_from : (n : ℕ) → is_single n ≡ true → (z e : Ex) (ls : Links) (w : Tokens) → z ≡ x.chain n e ls → Writes (x.chain n e ls) w → Seq (IsAt n) (One_more n) z w
one_from n b z e x.no_links w i g = absurd g.0
one_from n b z e (x.link op p e2 x.no_links) w i (one, (u, v, q, ge, (is, (c, d, q2, (y, m, t, l), (c2, d2, q3, g2, j))))) =
    let rest : d ≡ c2 = q3 ∙ ap (λ a. c2 ++ a) j ∙ append_nil c2 in
    (e, u, v, q, ge, inl (op, y, c2, q2 ∙ ap (λ a. a ++ d) m ∙ ap (λ a. y ∷ a) rest, ap (infix_of n) t ∙ infix_has n op is, (e2, i ∙ ap (λ a. x.chain n e (x.link op a e2 x.no_links)) (sym l), g2)))
one_from n b z e (x.link op p e2 (x.link op2 p2 e3 more)) w i (one, (u, v, q, ge, (is, rest))) =
    let no : true ≡ false = sym b ∙ ap is_single (sym is) ∙ sym (single_is op) ∙ one in absurd (cc)

any_from : (n : ℕ) (z e : Ex) (ls : Links) (w : Tokens) → z ≡ x.chain n e ls → Writes (x.chain n e ls) w → Seq (IsAt n) (Any_more n) z w
any_from n z e x.no_links w i g = absurd g.0
any_from n z e (x.link op p e2 more) w i (one, (u, v, q, ge, rest)) = (e, u, v, q, ge, (x.link op p e2 more, i, rest))

behind_to : (h : ℕ) (b : Bool) → is_single (suc (suc h)) ≡ b → (z : Ex) (w : Tokens) → Seq (IsAt (suc (suc h))) (Behind_first b (suc (suc h))) z w → IsAt (suc (suc (suc h))) z w
behind_to h true is z w g = one_to (suc (suc h)) z w g
behind_to h false is z w g = any_to (suc (suc h)) is z w g

behind_from : (h : ℕ) → h ≤ 9 → (b : Bool) → is_single (suc (suc h)) ≡ b → (z : Ex) (w : Tokens) → IsAt (suc (suc (suc h))) z w → Seq (IsAt (suc (suc h))) (Behind_first b (suc (suc h))) z w
behind_from h l true is z w g = elim (lower h l z w g) as (λ _. Seq (IsAt (suc (suc h))) (One_more (suc (suc h))) z w) [
  | inl k ↦ (z, w, [], sym (append_nil w), k, inr (refl, refl))
  | inr (e, ls, i, k) ↦ one_from (suc (suc h)) is z e ls w i k
]
behind_from h l false is z w g = elim (lower h l z w g) as (λ _. Seq (IsAt (suc (suc h))) (Any_more (suc (suc h))) z w) [
  | inl k ↦ (z, w, [], sym (append_nil w), k, (x.no_links, refl, refl))
  | inr (e, ls, i, k) ↦ any_from (suc (suc h)) z e ls w i k
]

module _ (n d h : ℕ) (operand : Parser Ex) (one : (n : ℕ) (I : Token → Bool) → FreshSigned I → Exact n d d I (e_tier h) (IsAt (suc (suc h))) operand) where
  infix_clear : (y : Spanned) (op : Operator) → infix_of (suc (suc h)) y.token ≡ Some op → e_tier h y.token ≡ false
  infix_clear y op g = let is = infix_is (suc (suc h)) y.token op g in subst (λ (u : Token). e_tier h u ≡ false) (sym is.0) (tier_clear h op (omega (arith, is.1)))

  infix_step : (y : Spanned) (op : Operator) → infix_of (suc (suc h)) y.token ≡ Some op → left_after d y.token ≡ Some d
  infix_step y op g = let is = infix_is (suc (suc h)) y.token op g in subst (λ (u : Token). left_after d u ≡ Some d) (sym is.0) (keeps d op)

  links_exact : Exact n d d (e_tier h) (e_tier (suc h)) (WritesLinks (suc (suc h))) (links (suc (suc h)) operand)
  unfolding links
  links_exact = retold (links_both (suc (suc h))) (links_from (suc (suc h)))
      (mapped links_of (r.many_exact d d (e_tier h) (infix_of (suc (suc h))) (λ op y. IsLink (suc (suc h)) op y.place) (λ op y. into {B = Operator × Place × Ex} (λ e. (op, y.place, e)) operand)
      infix_clear infix_step (λ m op y g. mapped (λ e. (op, y.place, e)) (one m nobody nobody_signed)) n))

  one_more_exact : (first : Ex) → Exact n d d (e_tier h) (e_tier (suc h)) (One_more (suc (suc h)) first) (one_more (suc (suc h)) operand first)
  unfolding one_more
  one_more_exact first = r.by_exact n n d d d (omega arith) (e_tier h) (e_tier (suc h)) (infix_of (suc (suc h))) (λ op y. Image (λ e. x.chain (suc (suc h)) first (x.link op y.place e x.no_links)) (IsAt (suc (suc h)))) (Just first)
      (λ op y. into (λ e. x.chain (suc (suc h)) first (x.link op y.place e x.no_links)) operand) (pure first) infix_clear infix_step
      (λ op y g. widen (λ u k. either_second (infix_of (suc (suc h))) (e_tier h) u k) (mapped (λ e. x.chain (suc (suc h)) first (x.link op y.place e x.no_links)) (one n nobody nobody_signed)))
      (none_after first)

  behind_exact : (b : Bool) (first : Ex) → Exact n d d (e_tier h) (e_tier (suc h)) (Behind_first b (suc (suc h)) first) (if b then one_more (suc (suc h)) operand first else into (chained (suc (suc h)) first) (links (suc (suc h)) operand))
  behind_exact true first = one_more_exact first
  behind_exact false first = mapped (chained (suc (suc h)) first) links_exact

  pub next_tier : h ≤ 9 → (I : Token → Bool) → FreshSigned I → Exact n d d I (e_tier (suc h)) (IsAt (suc (suc (suc h)))) (operand >>= behind_rule h operand)
  unfolding behind_rule
  next_tier l I fresh = retold (behind_to h (is_single (suc (suc h))) refl) (behind_from h l (is_single (suc (suc h))) refl) (next (one n I fresh) (λ first. behind_exact (is_single (suc (suc h))) first))

module _ (d : ℕ) (operand : Parser Ex) (one : (n : ℕ) (I : Token → Bool) → FreshSigned I → Exact n d d I e_access (IsAt 2) operand) where
  pub tier_exact : (h : ℕ) → h ≤ 10 → (n : ℕ) (I : Token → Bool) → FreshSigned I → Exact n d d I (e_tier h) (IsAt (suc (suc h))) (tier h operand)
  unfolding tier
  tier_exact zero l n I fresh = one n I fresh
  tier_exact (suc h) l n I fresh = next_tier n d h (tier h operand) (λ m J f. tier_exact h (omega (arith, l)) m J f) (omega (arith, l)) I fresh

-- ---- all of it, where d more brackets may open

module _ (d : ℕ) (inner : Reach → Parser Ex) (any : (m : ℕ) → d ≡ suc m → (n : ℕ) (I : Token → Bool) → Fresh I → Exact n m m I e_any Writes (inner reach.Any))
    (range : (m : ℕ) → d ≡ suc m → (n : ℕ) (I : Token → Bool) → Fresh I → Exact n m m I e_range (IsAt 6) (inner reach.Range)) where
  truth_clear : (I : Token → Bool) → Fresh I → (b : Bool) → I (truth_of b) ≡ false
  truth_clear I fresh true = fresh.3
  truth_clear I fresh false = fresh.4

  sign_clear : (I : Token → Bool) → FreshSigned I → (b : Sign) → I (mark_of b) ≡ false
  sign_clear I fresh g.Not = fresh.1
  sign_clear I fresh g.Minus = fresh.2

  truth_keeps : (b : Bool) → left_after d (truth_of b) ≡ Some d
  truth_keeps true = refl
  truth_keeps false = refl

  sign_keeps : (b : Sign) → left_after d (mark_of b) ≡ Some d
  sign_keeps g.Not = refl
  sign_keeps g.Minus = refl

  closed_atom_exact : (n : ℕ) (I : Token → Bool) → FreshAtom I → Exact n d d (either a_name I) nobody RawClosed (closed d inner)
  unfolding closed bracketed
  closed_atom_exact n I fresh = start number_class (λ m. fresh.0 m) (λ m. refl) (λ m p. none_after (x.number p m))
      (start text_class (λ w. fresh.1 w) (λ w. refl) (λ w p. none_after (x.text p w))
      (start truth_class (truth_clear_more I fresh) truth_keeps (λ b p. none_after (x.truth p b))
      (start_open (keyword_class k.If) (λ a. fresh.5) (λ a. refl) (λ a p. has_if p) (λ m h a p. if_exact m inner (any m h) (range m h) n p)
      (start_open (symbol_class s.OpenParenthesis) (λ a. fresh.6) (λ a. refl) (λ a p. has_paren p) (λ m h a p. paren_exact m inner (any m h) (range m h) n p)
      (start_open (symbol_class s.OpenBracket) (λ a. fresh.7) (λ a. refl) (λ a p. has_array p) (λ m h a p. array_exact m inner (any m h) (range m h) n p)
      (start_open (symbol_class s.OpenRows) (λ a. fresh.8) (λ a. refl) (λ a p. has_rows p) (λ m h a p. rows_exact m inner (any m h) (range m h) n p)
      (must_open (symbol_class s.OpenBrace) n _ (λ a. fresh.9) (λ a. refl) tt nobody (λ c. Image (x.set c.1.place) IsListed) (λ c. set_rest inner c.1.place) d (λ c. has_set c.1.place)
      (λ m h c. set_exact m inner (any m h) (range m h) n c.1.place))))))))
    where
      truth_clear_more : (I : Token → Bool) → FreshAtom I → (b : Bool) → either a_text (either a_number (either a_name I)) (truth_of b) ≡ false
      truth_clear_more I fresh true = fresh.3
      truth_clear_more I fresh false = fresh.4

  pub atom_exact : (n : ℕ) (I : Token → Bool) → FreshAtom I → Exact n d d I e_atom (IsAt 0) (atom d inner)
  unfolding atom named
  atom_exact n I fresh = retold atom_to atom_from
      (start name_class (λ w. fresh.2 w) (λ w. refl)
      (λ w p. start_open (symbol_class s.OpenParenthesis) (λ a. refl) (λ a. refl) (λ a z. has_arguments p w)
      (λ m h a z. arguments_at n w p m h) (none_after (x.name p w)))
      (widen (λ u h. refl) (closed_atom_exact n I fresh)))
    where
      arguments_at : (n : ℕ) (w : List ℕ) (p : Place) (m : ℕ) → d ≡ suc m → Exact n m (suc m) nobody e_atom (RawArguments p w) (arguments d inner p w)
      arguments_at n w p m h = subst (λ (q : ℕ). Exact n m (suc m) nobody e_atom (RawArguments p w) (arguments q inner p w)) (sym h) (arguments_exact m inner (any m h) (range m h) n p w)

  subscripts_exact : (n : ℕ) → Exact n d d e_atom e_access WritesSubscripts (subscripts d inner)
  unfolding subscripts opened_subscript
  subscripts_exact n = listing (symbol_class s.OpenBracket) (λ a p. IsSubscript) subscripts_of WritesSubscripts (λ w h. h) (λ w h. h) (λ e es w a p h. placeless w p h) (λ e es w h. placing w h) subscripts_back
      (repeat_open (symbol_class s.OpenBracket) (λ a. refl) (λ a. refl) (λ a z. has_subscript) (λ m h n2 a z. subscript_exact n2 m inner (any m h) (range m h)) n)

  accessed_some : (r : Ex × Subscripts) → Accessed r [] → ⊥
  accessed_some r ([], v, q, a, g) = atom_some r.0 a
  accessed_some r (y ∷ u, v, q, a, g) = cc

  accessed_exact : (n : ℕ) (I : Token → Bool) → FreshAtom I → Exact n d d I e_access (IsAt 1) (accessed d inner)
  unfolding accessed
  accessed_exact n I fresh = retold access_to access_from (mapped (λ r. accessing r.0 r.1.0 r.1.1) (placed_exact accessed_some (both (atom_exact n I fresh) (subscripts_exact n))))

  pub signed_exact : (n : ℕ) (I : Token → Bool) → FreshSigned I → Exact n d d I e_access (IsAt 2) (signed d inner)
  unfolding signed
  signed_exact n I fresh = retold signed_to signed_from
      (start sign_class (sign_clear I fresh) sign_keeps (λ b p. mapped (x.prefix p b) (accessed_exact n nobody (atom_of nobody nobody_fresh)))
      (accessed_exact n (either a_sign I) fresh.0))
