-- Parts of items, and items that begin with a range, are read as the grammar writes them.
use Rattle.std.proofs.Common.{◌≡◌, ℕ, suc, List, [], ◌∷◌, ◌++◌, Option, Some, None, Bool, false, refl, sym, ap, ◌∙◌, subst, append_assoc, arith, inl, inr}
use Rattle.std.specs.Prelude.{option_and_then}
use Rattle.ms_syntax.specs.declared.token.Token.{Token}
use Rattle.ms_syntax.specs.declared.token.Token.TheVariants as tok
use Rattle.ms_syntax.specs.declared.token.Keyword.TheVariants as k
use Rattle.ms_syntax.specs.declared.token.Symbol.TheVariants as s
use Rattle.ms_syntax.specs.declared.token.Spanned.{Spanned}
use Rattle.ms_syntax.specs.declared.token.Place.{Place}
use Rattle.ms_syntax.specs.declared.tree.Mode.TheVariants as m
use Rattle.ms_syntax.specs.Tree as x
use Rattle.ms_syntax.specs.Tree.{Names, Ex, Maybe, Kd, Notes, Params, Gl, It}
use Rattle.ms_syntax.specs.Grammar.{Tokens, ◌⋅◌, the, at, from, BeginsAt, mark_of, Writes, WritesNames, WritesNotes, WritesDecl, WritesNameList, WritesElements, WritesParam, WritesMoreParams, WritesParamList, WritesParams, WritesGoal, WritesItem, mark}
use Rattle.ms_expressions.specs.declared.reach.Reach.TheVariants as reach
use Rattle.ms_cursor.specs.Reading.{Out, ok, bad, deep, and_then, ◌>>=◌, pure, pair, into, placed, many, separated}
use Rattle.ms_cursor.specs.Kinds.{a_text, symbol, keyword}
use Rattle.ms_expressions.specs.Rules.{a_word, kind, under}
use Rattle.ms_expressions.specs.Rules as r2
use Rattle.ms_parser.specs.Items.{any, notes, a_string, if_name, name_list, elements, parameter, parameter_list, parameters, goal}
use Rattle.ms_parser.proofs.Classes.{text_class, symbol_class, keyword_class}
use Rattle.ms_parser.proofs.Exact.{extend, widen, loosen, Exact, Seq, Just, One, Cases, Many, nobody, append_nil}
use Rattle.ms_parser.proofs.Choices.{either, either_second, either_less}
use Rattle.ms_parser.proofs.Parts.{Pair, Image, Start, Has, token_at, the_has, next, both, mapped, retold, none_after, take, closed_by, start}
use Rattle.ms_parser.proofs.Lists.{must_open, repeat, placed_exact}
use Rattle.ms_parser.proofs.Enclosed.{e_atom, atom_in_tier, comma, e_any, e_range, Fresh, nobody_fresh, symbol_fresh, IsAt, names_exact, built}
use Rattle.ms_parser.proofs.Bases.{IsWord, word_exact, IsKind, FreshKind, nobody_fresh_base}
use Rattle.ms_parser.proofs.Decls.{declared_any, e_declared, IsDeclared, kind_exact, notes_exact}
use Rattle.ms_parser.proofs.Nested.{under_exact}
use Rattle.ms_parser.proofs.Levels.{atom_some}

-- ---- parts of items

pub string_exact : (n d : ℕ) (I : Token → Bool) → ((w : List ℕ) → I (tok.Text w) ≡ false) → Exact n d d I nobody (λ w. the (tok.Text w)) a_string
string_exact n d I clear = retold to from_text (mapped (λ c. c.0) (take text_class [] clear (λ w. refl)))
  where
    to : (z : List ℕ) (w : Tokens) → Image (λ c. c.0) (One a_text) z w → the (tok.Text z) w
    to z w (c, i, (h, g)) = subst (λ (q : List ℕ). the (tok.Text q) w) (sym i) (c.1, h, text_class.is c.1.token c.0 g)

    from_text : (z : List ℕ) (w : Tokens) → the (tok.Text z) w → Image (λ c. c.0) (One a_text) z w
    from_text z w (y, h, i) = ((z, y), refl, (h, ap a_text i))

pub any_at : (n : ℕ) (I : Token → Bool) → Fresh I → Exact n 200 200 I e_any Writes (under 201 reach.Any)
any_at n I fresh = (under_exact 200 n I fresh).0

pub range_at : (n : ℕ) (I : Token → Bool) → Fresh I → Exact n 200 200 I e_range (IsAt 6) (under 201 reach.Range)
range_at n I fresh = (under_exact 200 n I fresh).1

pub any_in : (l : ℕ) → 200 ≡ suc l → (n : ℕ) (I : Token → Bool) → Fresh I → Exact n l l I e_any Writes (under 200 reach.Any)
any_in l h n I fresh = let same : 199 ≡ l = omega (arith, h) in subst (λ (a : ℕ). Exact n a a I e_any Writes (under 200 reach.Any)) same (under_exact 199 n I fresh).0

pub range_in : (l : ℕ) → 200 ≡ suc l → (n : ℕ) (I : Token → Bool) → Fresh I → Exact n l l I e_range (IsAt 6) (under 200 reach.Range)
range_in l h n I fresh = let same : 199 ≡ l = omega (arith, h) in subst (λ (a : ℕ). Exact n a a I e_range (IsAt 6) (under 200 reach.Range)) same (under_exact 199 n I fresh).1

any_third : (l : ℕ) → 199 ≡ suc l → (n : ℕ) (I : Token → Bool) → Fresh I → Exact n l l I e_any Writes (under 199 reach.Any)
any_third l h n I fresh = let same : 198 ≡ l = omega (arith, h) in subst (λ (a : ℕ). Exact n a a I e_any Writes (under 199 reach.Any)) same (under_exact 198 n I fresh).0

range_third : (l : ℕ) → 199 ≡ suc l → (n : ℕ) (I : Token → Bool) → Fresh I → Exact n l l I e_range (IsAt 6) (under 199 reach.Range)
range_third l h n I fresh = let same : 198 ≡ l = omega (arith, h) in subst (λ (a : ℕ). Exact n a a I e_range (IsAt 6) (under 199 reach.Range)) same (under_exact 198 n I fresh).1

-- an expression that an item ends with
pub value_exact : (n : ℕ) → Exact n 200 200 nobody e_declared Writes any
value_exact n = widen declared_any (any_at n nobody nobody_fresh)

-- names of an enumeration
abbrev Named_list : Names → Tokens → Type 0
Named_list ns = WritesNameList ns ⋅ mark s.CloseBrace

names_to : (z : Names) (w : Tokens) → Start {A = Unit {0}} (λ a. tok.Symbol s.CloseBrace) (λ a p. Just []) (λ ns. WritesNames ns ⋅ mark s.CloseBrace) z w → Named_list z w
names_to z w (inl (a, p, (u, v, q, (y, n, i, l), (j, o)))) = subst (λ (b : Names). Named_list b w) (sym j) ([], w, refl, refl, (y, q ∙ ap (λ b. u ++ b) o ∙ append_nil u ∙ n, i))
names_to [] w (inr (u, v, q, g, end)) = absurd g
names_to (n ∷ ns) w (inr g) = g

names_from : (z : Names) (w : Tokens) → Named_list z w → Start {A = Unit {0}} (λ a. tok.Symbol s.CloseBrace) (λ a p. Just []) (λ ns. WritesNames ns ⋅ mark s.CloseBrace) z w
names_from [] w (u, v, q, n, (y, m1, i)) = inl (tt, y.place, (y ∷ [], [], q ∙ ap (λ b. b ++ v) n ∙ m1, (y, refl, i, refl), (refl, refl)))
names_from (n ∷ ns) w g = inr g

name_list_exact : (n l : ℕ) → Exact n l (suc l) nobody nobody Named_list name_list
unfolding name_list
name_list_exact n l = retold names_to names_from (start (symbol_class s.CloseBrace) (λ a. refl) (λ a. refl) (λ a z. none_after {A = Names} []) (closed_by (symbol_class s.CloseBrace) refl refl (names_exact n l (either (symbol s.CloseBrace) nobody) (λ w. refl))))

has_names : Has Named_list
has_names = ([], token_at (tok.Symbol s.CloseBrace) ∷ [], ([], token_at (tok.Symbol s.CloseBrace) ∷ [], refl, refl, the_has (tok.Symbol s.CloseBrace)))

abbrev RawElements : Option Names → Tokens → Type 0
RawElements = Start {A = Unit {0}} (λ a. tok.Symbol s.Equal) (λ a p. Image Some (Seq (One (symbol s.OpenBrace)) (λ c. Named_list))) (Just None)

elements_to : (z : Option Names) (w : Tokens) → RawElements z w → WritesElements z w
elements_to z w (inr (j, n)) = subst (λ (b : Option Names). WritesElements b w) (sym j) n
elements_to z w (inl (a, p, (u, v, q, (y, n, i, l), (ns, j, (c, b, b2, h, (m1, o), g))))) =
    subst (λ (b : Option Names). WritesElements b w) (sym j) (u, v, q, (y, n, i), (b, b2, h, (c.1, m1, (symbol_class s.OpenBrace).is c.1.token c.0 o), g))

elements_from : (z : Option Names) (w : Tokens) → WritesElements z w → RawElements z w
elements_from None w g = inr (refl, g)
elements_from (Some ns) w (u, v, q, (y, n, i), (b, b2, h, (y2, m1, t), g)) = inl (tt, y.place, (u, v, q, (y, n, i, refl), (ns, refl, ((tt, y2), b, b2, h, (m1, ap (symbol s.OpenBrace) t ∙ (symbol_class s.OpenBrace).has tt), g))))

pub elements_exact : (n : ℕ) → Exact n 200 200 nobody e_declared WritesElements elements
unfolding elements
elements_exact n = retold elements_to elements_from
    (start (symbol_class s.Equal) (λ a. refl) (λ a. refl) (λ a z. widen (λ u h. refl) (mapped Some (must_open (symbol_class s.OpenBrace) n nobody (λ a. refl) (λ a. refl) tt nobody (λ c. Named_list) (λ c. name_list) 200 (λ c. has_names) (λ l h c. name_list_exact n l))))
    (loosen declared_equal (none_after {A = Option Names} None)))
  where
    declared_equal : (u : Token) → e_declared u ≡ false → either (symbol s.Equal) nobody u ≡ false
    declared_equal u h = either_less (symbol s.Equal) (either (symbol s.ColonColon) e_any) nobody u (λ k. refl) h

-- parameters
abbrev RawParam : Place × Kd × List ℕ → Tokens → Type 0
RawParam = Image {B = Place × Kd × List ℕ} (λ r. (r.0, r.1.0, r.1.1)) (λ (r : Place × (Kd × List ℕ)). from r.0 (Pair IsKind IsWord r.1))

param_some : (r : Kd × List ℕ) → Pair IsKind IsWord r [] → ⊥
param_some r ([], [], q, g, (y, n, t)) = cc
param_some r ([], z ∷ v, q, g, h) = cc
param_some r (z ∷ u, v, q, g, h) = cc

parameter_exact : (n l : ℕ) → 200 ≡ suc l → (I : Token → Bool) → FreshKind I → Exact n l l I nobody WritesParam parameter
unfolding r2.parameter
parameter_exact n l h I fresh =
    let same : 199 ≡ l = omega (arith, h) in
    subst (λ (a : ℕ). Exact n a a I nobody WritesParam (into {B = Place × Kd × List ℕ} (λ r. (r.0, r.1.0, r.1.1)) (placed (pair (kind 199 (under 200) (under 199)) a_word)))) same
    (built {B = Place × Kd × List ℕ} WritesParam (λ r. (r.0, r.1.0, r.1.1)) (λ r w g. g) (λ z w g. ((z.0, (z.1, z.2)), refl, g))
    (placed_exact param_some (both (kind_exact 199 (under 200) (under 199) (λ n I f. (under_exact 199 n I f).0) (λ n I f. (under_exact 199 n I f).1) any_third range_third n I fresh) (word_exact n 199 nobody (λ w. refl)))))

more_params_exact : (n l : ℕ) → 200 ≡ suc l → Exact n l l nobody (either comma nobody) WritesMoreParams (many comma (λ a y. parameter))
more_params_exact n l h = retold to from_more (repeat (symbol_class s.Comma) (λ a. refl) (λ a. refl) (λ j a z. parameter_exact j l h nobody (nobody_fresh_base, refl, refl, refl)) n)
  where
    to : (ps : Params) (w : Tokens) → Many comma (λ a y. WritesParam) ps w → WritesMoreParams ps w
    to [] w g = g
    to (p ∷ ps) w (a, y, u, v, q, i, g, rest) = (y ∷ [], u ++ v, q, (y, refl, (symbol_class s.Comma).is y.token a i), (u, v, refl, g, to ps v rest))

    from_more : (ps : Params) (w : Tokens) → WritesMoreParams ps w → Many comma (λ a y. WritesParam) ps w
    from_more [] w g = g
    from_more (p ∷ ps) w (b, c, j, (y, i, t), (u, v, q, g, rest)) = (tt, y, u, v, j ∙ ap (λ z. z ++ c) i ∙ ap (λ z. y ∷ z) q, ap comma t, g, from_more ps v rest)

abbrev Closed_list : Params → Tokens → Type 0
Closed_list ps = WritesParamList ps ⋅ mark s.CloseParenthesis

abbrev cons_of : (Place × Kd × List ℕ) × Params → Params
cons_of r = r.0 ∷ r.1

abbrev Separated : Params → Tokens → Type 0
Separated = Image cons_of (Pair WritesParam WritesMoreParams)

separated_exact : (n l : ℕ) → 200 ≡ suc l → (I : Token → Bool) → FreshKind I → Exact n l l I (either comma nobody) Separated (separated comma parameter)
unfolding separated
separated_exact n l h I fresh =
    extend n l l I (either comma nobody) Separated (separated comma parameter) (into cons_of (pair parameter (many comma (λ a y. parameter)))) (λ ts fits. same (parameter ts))
    (mapped cons_of (both (parameter_exact n l h I fresh) (more_params_exact n l h)))
  where
    joined : (p : Place × Kd × List ℕ) (o : Out Params) → and_then o (λ ps. pure (p ∷ ps)) ≡ and_then (and_then o (λ ps. pure {A = (Place × Kd × List ℕ) × Params} (p, ps))) (λ r. pure (cons_of r))
    joined p (ok ps r) = refl
    joined p (bad n) = refl
    joined p (deep n) = refl

    same : (o : Out (Place × Kd × List ℕ)) → and_then o (λ p. many comma (λ a y. parameter) >>= λ ps. pure (p ∷ ps))
        ≡ and_then (and_then o (λ p. many comma (λ a y. parameter) >>= λ ps. pure {A = (Place × Kd × List ℕ) × Params} (p, ps))) (λ r. pure (cons_of r))
    same (ok p r) = joined p (many comma (λ a y. parameter) r)
    same (bad n) = refl
    same (deep n) = refl

abbrev RawParams : Params → Tokens → Type 0
RawParams = Start {A = Unit {0}} (λ a. tok.Symbol s.CloseParenthesis) (λ a p. Just []) (λ ps. Separated ps ⋅ mark s.CloseParenthesis)

params_to : (z : Params) (w : Tokens) → RawParams z w → Closed_list z w
params_to z w (inl (a, p, (u, v, q, (y, n, i, l), (j, o)))) = subst (λ (b : Params). Closed_list b w) (sym j) ([], w, refl, refl, (y, q ∙ ap (λ b. u ++ b) o ∙ append_nil u ∙ n, i))
params_to z w (inr (u, v, q, (c, j, g), end)) = subst (λ (b : Params). Closed_list b w) (sym j) (u, v, q, g, end)

params_from : (z : Params) (w : Tokens) → Closed_list z w → RawParams z w
params_from [] w (u, v, q, n, (y, m1, i)) = inl (tt, y.place, (y ∷ [], [], q ∙ ap (λ b. b ++ v) n ∙ m1, (y, refl, i, refl), (refl, refl)))
params_from (p ∷ ps) w (u, v, q, g, end) = inr (u, v, q, ((p, ps), refl, g), end)

paren_kind : FreshKind (either (symbol s.CloseParenthesis) nobody)
paren_kind = ((symbol_fresh.1, refl, refl, refl, refl, refl), refl, refl, refl)

list_in_exact : (n l : ℕ) → 200 ≡ suc l → Exact n l (suc l) nobody nobody Closed_list parameter_list
unfolding parameter_list
list_in_exact n l h = retold params_to params_from (start (symbol_class s.CloseParenthesis) (λ a. refl) (λ a. refl) (λ a z. none_after {A = Params} [])
    (closed_by (symbol_class s.CloseParenthesis) refl refl (separated_exact n l h (either (symbol s.CloseParenthesis) nobody) paren_kind)))

has_params : Has Closed_list
has_params = ([], token_at (tok.Symbol s.CloseParenthesis) ∷ [], ([], token_at (tok.Symbol s.CloseParenthesis) ∷ [], refl, refl, the_has (tok.Symbol s.CloseParenthesis)))

pub parameters_exact : (n : ℕ) → Exact n 200 200 nobody nobody WritesParams parameters
unfolding parameters
parameters_exact n = retold to from_params (must_open (symbol_class s.OpenParenthesis) n nobody (λ a. refl) (λ a. refl) tt nobody (λ c. Closed_list) (λ c. parameter_list) 200 (λ c. has_params) (λ l h c. list_in_exact n l h))
  where
    to : (z : Params) (w : Tokens) → Seq (One (symbol s.OpenParenthesis)) (λ c. Closed_list) z w → WritesParams z w
    to z w (c, u, v, q, (n, h), g) = (u, v, q, (c.1, n, (symbol_class s.OpenParenthesis).is c.1.token c.0 h), g)

    from_params : (z : Params) (w : Tokens) → WritesParams z w → Seq (One (symbol s.OpenParenthesis)) (λ c. Closed_list) z w
    from_params z w (u, v, q, (y, n, t), g) = ((tt, y), u, v, q, (n, ap (symbol s.OpenParenthesis) t ∙ (symbol_class s.OpenParenthesis).has tt), g)

notes_at : (I : Token → Bool) → I (tok.Symbol s.ColonColon) ≡ false → ((u : Token) → I u ≡ false → e_atom u ≡ false) → (n : ℕ) → Exact n 200 200 I (either (symbol s.ColonColon) I) WritesNotes notes
notes_at I goes less n = notes_exact 200 (under 201) (under 200) any_at range_at any_in range_in I goes less n

pub constraint_exact : (n : ℕ) → Exact n 200 200 nobody e_declared (Pair Writes WritesNotes) (pair any notes)
constraint_exact n = widen (λ u h. either_second (symbol s.Equal) (either (symbol s.ColonColon) e_any) u h) (both (any_at n nobody nobody_fresh) (notes_at e_any refl (atom_in_tier 10) n))

-- goals
abbrev RawGoal : Gl → Tokens → Type 0
RawGoal = Start {A = Unit {0}} (λ a. tok.Keyword k.Satisfy) (λ a p. Just (x.satisfy p)) (Start {A = Unit {0}} (λ a. tok.Keyword k.Minimize) (λ a p. Image (x.minimize p) Writes) (Start {A = Unit {0}} (λ a. tok.Keyword k.Maximize) (λ a p. Image (x.maximize p) Writes)
    (Seq (One (keyword k.Search)) (λ c. Image (x.search_by c.1.place) Writes))))

goal_to : (z : Gl) (w : Tokens) → RawGoal z w → WritesGoal z w
goal_to z w (inl (a, p, (u, v, q, g, (j, o)))) = subst (λ (b : Gl). WritesGoal b w) (sym j) (subst (at p (tok.Keyword k.Satisfy)) (sym (q ∙ ap (λ b. u ++ b) o ∙ append_nil u)) g)
goal_to z w (inr (inl (a, p, (u, v, q, g, (c, j, h))))) = subst (λ (b : Gl). WritesGoal b w) (sym j) (u, v, q, g, h)
goal_to z w (inr (inr (inl (a, p, (u, v, q, g, (c, j, h)))))) = subst (λ (b : Gl). WritesGoal b w) (sym j) (u, v, q, g, h)
goal_to z w (inr (inr (inr (c, u, v, q, (n, o), (b, j, h))))) = subst (λ (b : Gl). WritesGoal b w) (sym j) (u, v, q, (c.1, n, (keyword_class k.Search).is c.1.token c.0 o, refl), h)

goal_from : (z : Gl) (w : Tokens) → WritesGoal z w → RawGoal z w
goal_from (x.satisfy p) w g = inl (tt, p, (w, [], sym (append_nil w), g, (refl, refl)))
goal_from (x.minimize p c) w (u, v, q, g, h) = inr (inl (tt, p, (u, v, q, g, (c, refl, h))))
goal_from (x.maximize p c) w (u, v, q, g, h) = inr (inr (inl (tt, p, (u, v, q, g, (c, refl, h)))))
goal_from (x.search_by p c) w (u, v, q, (y, n, t, l), h) = inr (inr (inr ((tt, y), u, v, q, (n, ap (keyword k.Search) t ∙ (keyword_class k.Search).has tt), (c, ap (λ b. x.search_by b c) (sym l), h))))

goal_exact : (n : ℕ) → Exact n 200 200 (either (symbol s.ColonColon) e_atom) e_declared WritesGoal goal
unfolding goal
goal_exact n = retold goal_to goal_from
    (start (keyword_class k.Satisfy) (λ a. refl) (λ a. refl) (λ a p. widen (λ u h. refl) (none_after (x.satisfy p)))
    (start (keyword_class k.Minimize) (λ a. refl) (λ a. refl) (λ a p. mapped (x.minimize p) (value_exact n))
    (start (keyword_class k.Maximize) (λ a. refl) (λ a. refl) (λ a p. mapped (x.maximize p) (value_exact n))
    (next (take (keyword_class k.Search) tt (λ a. refl) (λ a. refl)) (λ c. mapped (x.search_by c.1.place) (value_exact n))))))

pub solve_exact : (n : ℕ) → Exact n 200 200 nobody e_declared (Pair WritesNotes WritesGoal) (pair notes goal)
solve_exact n = both (loosen (λ u h. refl) (notes_at e_atom refl (λ u h. h) n)) (goal_exact n)

-- ---- items that begin with a range

pub name_class_is : (z : Ex) (f : Token → Option (Unit {0})) (u : Token) (w : List ℕ) → if_name z f u ≡ Some w → (f u ≡ Some tt) × ((p : Place) × (z ≡ x.name p w))
name_class_is (x.name p n) f u w h = at_option (f u) h
  where
    at_option : (q : Option (Unit {0})) → option_and_then (λ a. Some n) q ≡ Some w → (q ≡ Some tt) × ((p2 : Place) × (x.name p n ≡ x.name p2 w))
    at_option None h = absurd (cc)
    at_option (Some a) h = let same : n ≡ w = cc in (refl, (p, ap (x.name p) same))
name_class_is _ f u w h = absurd (cc)

abbrev pub range_declared : Place × Ex → List ℕ × (Notes × Maybe) → It
range_declared r c = x.declaration (x.declare r.0 (x.kind x.no_indices m.Unmarked (x.of_values r.1)) c.0 c.1.0 c.1.1)

abbrev pub RawOfRange : It → Tokens → Type 0
RawOfRange = Seq (λ (r : Place × Ex). from r.0 (IsAt 6 r.1)) (λ r. Cases (if_name r.1 (symbol s.Equal)) (λ w y. Image (x.assignment r.0 w) Writes) (λ z. mark s.Colon ⋅ Image (range_declared r) IsDeclared z))

pub begins_no : (p : Place) (t : Token) (l : Tokens → Type 0) → (at p t ⋅ l) [] → ⊥
begins_no p t l ([], v, q, (y, n, h, i), g) = cc
begins_no p t l (z ∷ u, v, q, a, g) = cc

-- no expression is of no tokens
writes_some : (z : Ex) → Writes z [] → ⊥
writes_some (x.let_in p ds c b) g = begins_no p (tok.Keyword k.Let) _ g
writes_some (x.chain n b ls) (one, ([], v, q, (l, g), rest)) = writes_some b g
writes_some (x.chain n b ls) (one, (y ∷ u, v, q, g, rest)) = cc
writes_some (x.prefix p sg b) g = begins_no p (mark_of sg) _ g
writes_some (x.access p b is) g = g.0
writes_some z g = atom_some z (omega arith, g)

pub range_some : (c : Ex) → (w : Tokens) → IsAt 6 c w → w ≡ [] → ⊥
range_some c w g h = writes_some c (subst (Writes c) h g.1)

begins_of_first : (p : Place) (u v : Tokens) → BeginsAt p (u ++ v) → (u ≡ [] → ⊥) → BeginsAt p u
begins_of_first p [] v b h = absurd (h refl)
begins_of_first p (y ∷ u) v b h = b

begins_append : (p : Place) (u v : Tokens) → BeginsAt p u → BeginsAt p (u ++ v)
begins_append p [] v b = absurd b
begins_append p (y ∷ u) v b = b

begins_front : (p : Place) (y : Spanned) (w v : Tokens) → w ≡ y ∷ v → y.place ≡ p → BeginsAt p w
begins_front p y w v q h = subst (BeginsAt p) (sym q) h

at_moved : (p p2 : Place) (t : Token) (u : Tokens) → at p2 t u → BeginsAt p u → at p t u
at_moved p p2 t u (y, n, i, l) b = (y, n, i, subst (BeginsAt p) n b)

pub of_range_to : (z : It) (w : Tokens) → RawOfRange z w → WritesItem z w
of_range_to z w (r, u, v, q, (b, g), inl (n, y, v2, h, t, (c, j, wr))) =
    let is = name_class_is r.1 (symbol s.Equal) y.token n t in
    let named : IsAt 6 (x.name is.1.0 n) u = subst (λ (k : Ex). IsAt 6 k u) is.1.1 g in
    subst (λ (k : It). WritesItem k w) (sym j) (u, v, q, at_moved r.0 is.1.0 (tok.Name n) u named.1 b, (y ∷ [], v2, h, (y, refl, (symbol_class s.Equal).is y.token tt is.0), wr))
of_range_to z w (r, u, v, q, (b, g), inr (b2, c2, h2, colon, (c, j, rest))) =
    subst (λ (k : It). WritesItem k w) (sym j) (
      subst (BeginsAt r.0) (sym q) (begins_append r.0 u v b),
      (u ++ b2, c2, q ∙ ap (λ k. u ++ k) h2 ∙ sym (append_assoc u b2 c2), (u, b2, refl, ([], u, refl, refl, ([], u, refl, refl, g)), colon), rest),
    )

name_at : (p : Place) (n : List ℕ) (u : Tokens) → at p (tok.Name n) u → from p (IsAt 6 (x.name p n)) u
name_at p n u (y, m1, i, l) = (begins_front p y u [] m1 l, (omega arith, (y, m1, i, l)))

pub assignment_from : (p : Place) (n : List ℕ) (c : Ex) (w : Tokens) → WritesItem (x.assignment p n c) w → RawOfRange (x.assignment p n c) w
assignment_from p n c w (u, v, q, a, (b, b2, h, (y, m1, t), wr)) =
    ((p, x.name p n), u, v, q, name_at p n u a, inl (n, y, b2, h ∙ ap (λ k. k ++ b2) m1, ap (option_and_then (λ k. Some n)) (ap (symbol s.Equal) t ∙ (symbol_class s.Equal).has tt), (c, refl, wr)))

pub range_from : (p : Place) (c : Ex) (n : List ℕ) (ns : Notes) (v : Maybe) (w : Tokens) → WritesDecl (x.declare p (x.kind x.no_indices m.Unmarked (x.of_values c)) n ns v) w
    → RawOfRange (x.declaration (x.declare p (x.kind x.no_indices m.Unmarked (x.of_values c)) n ns v)) w
range_from p c n ns v w (b, (u, u2, q, (k1, k2, h, (i1, i2, h2, e1, (m1, m2, h3, e2, g)), colon), rest)) =
    let kind_is : k1 ≡ m2 = h2 ∙ ap (λ a. a ++ i2) e1 ∙ h3 ∙ ap (λ a. a ++ m2) e2 in
    let whole : w ≡ m2 ++ (k2 ++ u2) = q ∙ ap (λ a. a ++ u2) (h ∙ ap (λ a. a ++ k2) kind_is) ∙ append_assoc m2 k2 u2 in
    ((p, c), m2, k2 ++ u2, whole, (begins_of_first p m2 (k2 ++ u2) (subst (BeginsAt p) whole b) (range_some c m2 g), g), inr (k2, u2, refl, colon, ((n, (ns, v)), refl, rest)))
