-- A name with what stands in brackets behind it: arguments, or generators and then an expression.
use Rattle.std.proofs.Common.{◌≡◌, ℕ, suc, List, [], ◌∷◌, ◌++◌, Option, Some, None, Bool, true, false, refl, sym, ap, ◌∙◌, subst, append_assoc, arith, ◌⊎◌, inl, inr}
use Rattle.std.specs.Prelude.{option_map, option_and_then, ◌==◌, if◌then◌else◌}
use Rattle.std.proofs.lemmas.Bool.{eq-eqb}
use Rattle.ms_syntax.specs.declared.token.Token.{Token}
use Rattle.ms_syntax.specs.declared.token.Token.TheVariants as tok
use Rattle.ms_syntax.specs.declared.token.Keyword.TheVariants as k
use Rattle.ms_syntax.specs.declared.token.Symbol.TheVariants as s
use Rattle.ms_syntax.specs.declared.token.Place.{Place}
use Rattle.ms_syntax.specs.declared.tree.Operator.TheVariants as o
use Rattle.ms_syntax.specs.Tree as x
use Rattle.ms_syntax.specs.Tree.{Names, Ex, Maybe, Exs, Gens}
use Rattle.ms_syntax.specs.Grammar.{Tokens, ◌⋅◌, at, bound, Writes, WritesNames, WritesMoreNames, WritesMore, WritesList, WritesSome, WritesWhere, WritesGens, WritesMoreGens, mark, word, opens, left_after}
use Rattle.ms_expressions.specs.declared.reach.Reach.{Reach}
use Rattle.ms_expressions.specs.declared.reach.Reach.TheVariants as reach
use Rattle.ms_cursor.specs.Reading.{Parser, ◌>>=◌, must, enter, sealed, into, closing}
use Rattle.ms_cursor.specs.Kinds.{symbol, keyword}
use Rattle.ms_expressions.specs.Rules.{generators_from, generators_of, if_generators, after_where, generator_body, after_list, arguments}
use Rattle.ms_parser.proofs.Classes.{symbol_class, keyword_class}
use Rattle.ms_parser.proofs.Exact.{widen, Exact, Seq, Just, One, Cases, nobody, append_nil}
use Rattle.ms_parser.proofs.Choices.{either, some_or}
use Rattle.ms_parser.proofs.Read as r
use Rattle.ms_parser.proofs.Parts.{Pair, Image, Start, Has, token_at, has_closing, has_image, next, both, mapped, behind, none_after, closed_by, start}
use Rattle.ms_parser.proofs.Lists.{must_open, restop}
use Rattle.ms_parser.proofs.Enclosed.{comma, e_atom, e_any, e_range, Fresh, nobody_fresh, symbol_fresh, IsAt, IsClosed, has_zero, list_exact}

-- ---- a list of expressions that is one of generators

-- names with a comma behind them, or none
abbrev pub Prefix : Names → Tokens → Type 0
Prefix [] u = u ≡ []
Prefix (n ∷ ns) u = (WritesNames (n ∷ ns) ⋅ mark s.Comma) u

pub more_names_snoc : (ns : Names) (m : Place × List ℕ) (u c v : Tokens) → WritesMoreNames ns u → mark s.Comma c → at m.0 (tok.Name m.1) v → WritesMoreNames (ns ++ m ∷ []) (u ++ (c ++ v))
more_names_snoc [] m u c v g h i = subst (WritesMoreNames (m ∷ [])) (sym (ap (λ z. z ++ (c ++ v)) g)) (c, v, refl, h, (v, [], sym (append_nil v), i, refl))
more_names_snoc (n ∷ ns) m u c v (a, b, q, g, (a2, b2, q2, g2, rest)) h i =
    (a, b ++ (c ++ v), ap (λ z. z ++ (c ++ v)) q ∙ append_assoc a b (c ++ v), g, (a2, b2 ++ (c ++ v), ap (λ z. z ++ (c ++ v)) q2 ∙ append_assoc a2 b2 (c ++ v), g2, more_names_snoc ns m b2 c v rest h i))

-- one name more
pub names_snoc : (ns : Names) (m : Place × List ℕ) (u v : Tokens) → Prefix ns u → at m.0 (tok.Name m.1) v → WritesNames (ns ++ m ∷ []) (u ++ v)
names_snoc [] m u v g h = subst (WritesNames (m ∷ [])) (sym (ap (λ z. z ++ v) g)) (v, [], sym (append_nil v), h, refl)
names_snoc (n ∷ ns) m u v (a, c, q, (b, d, q2, g, rest), h) i =
    (b, d ++ (c ++ v), ap (λ z. z ++ v) q ∙ append_assoc a c v ∙ ap (λ z. z ++ (c ++ v)) q2 ∙ append_assoc b d (c ++ v), g, more_names_snoc ns m d c v rest h i)

pub prefix_snoc : (ns : Names) (m : Place × List ℕ) (u v c : Tokens) → Prefix ns u → at m.0 (tok.Name m.1) v → mark s.Comma c → Prefix (ns ++ m ∷ []) (u ++ (v ++ c))
prefix_snoc [] m u v c g h i = (u ++ v, c, sym (append_assoc u v c), names_snoc [] m u v g h, i)
prefix_snoc (n ∷ ns) m u v c g h i = (u ++ v, c, sym (append_assoc u v c), names_snoc (n ∷ ns) m u v g h, i)

-- what comes behind the first
pub more_some : (es : Exs) (w : Tokens) → WritesMore es w → ((es ≡ x.no_exs) × (w ≡ [])) ⊎ (mark s.Comma ⋅ WritesSome es) w
more_some x.no_exs w g = inl (refl, g)
more_some (x.ex e es) w g = inr g

pub more_gens : (gs : Gens) (w : Tokens) → (mark s.Comma ⋅ WritesGens gs) w → WritesMoreGens gs w
more_gens x.no_gens w (u, v, q, c, g) = absurd g
more_gens (x.gen ns e gs) w g = g

pub not_empty : (ns : Names) (m : Place × List ℕ) (gs : Gens) → generators_from (ns ++ m ∷ []) x.no_exs ≡ Some gs → ⊥
not_empty [] m gs h = cc
not_empty (n ∷ ns) m gs h = cc

pub map_some : {A B : Type 0} (f : A → B) (q : Option A) (b : B) → option_map f q ≡ Some b → (a : A) × (q ≡ Some a) × (f a ≡ b)
map_some f None b h = absurd (cc)
map_some f (Some a) b h = (a, refl, cc)

pub none_left : (gs : Gens) → generators_from [] x.no_exs ≡ Some gs → x.no_gens ≡ gs
none_left gs h = cc

pub gens_read : (ns : Names) (es : Exs) (gs : Gens) (u w : Tokens) → Prefix ns u → WritesSome es w → generators_from ns es ≡ Some gs → WritesGens gs (u ++ w)
gens_read ns x.no_exs gs u w g wr h = absurd wr
gens_read ns (x.ex (x.name p q) es) gs u w g (a, b, i, name, more) h =
    elim (more_some es b more) as (λ _. WritesGens gs (u ++ w)) [
      | inl e ↦ absurd (not_empty ns (p, q) gs (subst (λ (z : Exs). generators_from (ns ++ (p, q) ∷ []) z ≡ Some gs) e.0 h))
      | inr (c, v, j, k, rest) ↦
          subst (WritesGens gs) (append_assoc u (a ++ c) v ∙ ap (λ z. u ++ z) (append_assoc a c v ∙ ap (λ z. a ++ z) (sym j) ∙ sym i))
          (gens_read (ns ++ (p, q) ∷ []) es gs (u ++ (a ++ c)) v (prefix_snoc ns (p, q) u a c g name k) rest h)
    ]
gens_read ns (x.ex (x.chain l (x.name p q) (x.link o.In r e x.no_links)) es) gs u w g (a, b, i, (one, (a2, b2, i2, (low, name), (at_six, (c, d, i3, (y, m, t, pl), (d2, d3, i4, right, n))))), more) h =
    let six_is : (if l == 6 then option_map (x.gen (ns ++ (p, q) ∷ []) e) (generators_from [] es) else None) ≡ option_map (x.gen (ns ++ (p, q) ∷ []) e) (generators_from [] es) =
    ap (λ b. if b then option_map (x.gen (ns ++ (p, q) ∷ []) e) (generators_from [] es) else None) (eq-eqb l 6 (sym at_six)) in
    let from_map = map_some (x.gen (ns ++ (p, q) ∷ []) e) (generators_from [] es) gs (sym six_is ∙ h) in
    let tail : WritesMoreGens from_map.0 b = elim (more_some es b more) as (λ _. WritesMoreGens from_map.0 b) [
      | inl f ↦ subst (λ (z : Gens). WritesMoreGens z b) (none_left from_map.0 (subst (λ (z : Exs). generators_from [] z ≡ Some from_map.0) f.0 from_map.1)) f.1
      | inr (c2, v, j, k, rest) ↦ more_gens from_map.0 b (c2, v, j, k, gens_read [] es from_map.0 [] v refl rest from_map.1)
    ] in
    let right_is : d ≡ d2 = i4 ∙ ap (λ z. d2 ++ z) n ∙ append_nil d2 in
    let whole : u ++ w ≡ ((u ++ a2) ++ (c ++ d2)) ++ b =
    ap (λ z. u ++ z) (i ∙ ap (λ z. z ++ b) (i2 ∙ ap (λ z. a2 ++ z) (i3 ∙ ap (λ z. c ++ z) right_is))) ∙ sym (append_assoc u (a2 ++ (c ++ d2)) b) ∙ ap (λ z. z ++ b) (sym (append_assoc u a2 (c ++ d2))) in
    let six : bound 6 e (Writes e) d2 = (omega (arith, right.0, at_six), right.1) in
    subst (λ (z : Gens). WritesGens z (u ++ w)) from_map.2
    ((u ++ a2) ++ (c ++ d2), b, whole, (u ++ a2, c ++ d2, refl, names_snoc ns (p, q) u a2 g name, (c, d2, refl, (y, m, t), six)), tail)
gens_read ns (x.ex _ es) gs u w g wr h = absurd (cc)

-- ---- and the other way

pub some_more : (es : Exs) (w : Tokens) → (mark s.Comma ⋅ WritesSome es) w → WritesMore es w
some_more x.no_exs w (u, v, q, c, g) = absurd g
some_more (x.ex e es) w g = g

-- expressions for some names with a set, before more
pub for_names : (acc : Names) (n : Place × List ℕ) (ns : Names) (e : Ex) (rest : Exs) (gs : Gens) (u c d v : Tokens) → WritesNames (n ∷ ns) u → word k.In c → bound 6 e (Writes e) d → generators_from [] rest ≡ Some gs → WritesMore rest v
    → (es : Exs) × (generators_from acc es ≡ Some (x.gen (acc ++ (n ∷ ns)) e gs)) × WritesSome es (u ++ ((c ++ d) ++ v))
for_names acc n [] e rest gs u c d v (a, b, q, name, z) (y, m, t) right is more =
    let u_is : u ≡ a = q ∙ ap (λ z. a ++ z) z ∙ append_nil a in (
      x.ex (x.chain 6 (x.name n.0 n.1) (x.link o.In y.place e x.no_links)) rest,
      ap (option_map (x.gen (acc ++ n ∷ []) e)) is,
      (u ++ (c ++ d), v, sym (append_assoc u (c ++ d) v), (tt, (u, c ++ d, refl, (omega arith, subst (at n.0 (tok.Name n.1)) (sym u_is) name), (refl, (c, d, refl, (y, m, t, refl), (d, [], sym (append_nil d), right, refl))))), more),
    )
for_names acc n (n2 ∷ ns) e rest gs u c d v (a, b, q, name, (a2, b2, q2, kom, names)) inn right is more =
    let again = for_names (acc ++ n ∷ []) n2 ns e rest gs b2 c d v names inn right is more in (
      x.ex (x.name n.0 n.1) again.0,
      again.1 ∙ ap (λ z. Some (x.gen z e gs)) (append_assoc acc (n ∷ []) (n2 ∷ ns)),
      (
        a,
        b ++ ((c ++ d) ++ v),
        ap (λ z. z ++ ((c ++ d) ++ v)) q ∙ append_assoc a b ((c ++ d) ++ v),
        name,
        some_more again.0 (b ++ ((c ++ d) ++ v)) (a2, b2 ++ ((c ++ d) ++ v), ap (λ z. z ++ ((c ++ d) ++ v)) q2 ∙ append_assoc a2 b2 ((c ++ d) ++ v), kom, again.2),
      ),
    )

pub one_written : (ns : Names) (e : Ex) (rest : Exs) (gs : Gens) (u c d v : Tokens) → WritesNames ns u → word k.In c → bound 6 e (Writes e) d → generators_from [] rest ≡ Some gs → WritesMore rest v
    → (es : Exs) × (generators_from [] es ≡ Some (x.gen ns e gs)) × WritesSome es (u ++ ((c ++ d) ++ v))
one_written [] e rest gs u c d v g i right is more = absurd g
one_written (n ∷ ns) e rest gs u c d v g i right is more = for_names [] n ns e rest gs u c d v g i right is more

pub more_written : (gs : Gens) (w : Tokens) → WritesMoreGens gs w → (es : Exs) × (generators_from [] es ≡ Some gs) × WritesMore es w
more_written x.no_gens w g = (x.no_exs, refl, g)
more_written (x.gen ns e gs) w (p, w2, q0, kom, (a, v, q, (u, b, q2, names, (c, d, q3, i, right)), more)) =
    let rest = more_written gs v more in
    let all = one_written ns e rest.0 gs u c d v names i right rest.1 rest.2 in
    let whole : w2 ≡ u ++ ((c ++ d) ++ v) = q ∙ ap (λ z. z ++ v) (q2 ∙ ap (λ z. u ++ z) q3) ∙ append_assoc u (c ++ d) v in
    (all.0, all.1, some_more all.0 w (p, w2, q0, kom, subst (WritesSome all.0) (sym whole) all.2))

pub gens_written : (gs : Gens) (w : Tokens) → WritesGens gs w → (es : Exs) × (generators_from [] es ≡ Some gs) × WritesSome es w
gens_written x.no_gens w g = absurd g
gens_written (x.gen ns e gs) w (a, v, q, (u, b, q2, names, (c, d, q3, i, right)), more) =
    let rest = more_written gs v more in
    let all = one_written ns e rest.0 gs u c d v names i right rest.1 rest.2 in
    let whole : w ≡ u ++ ((c ++ d) ++ v) = q ∙ ap (λ z. z ++ v) (q2 ∙ ap (λ z. u ++ z) q3) ∙ append_assoc u (c ++ d) v in
    (all.0, all.1, subst (WritesSome all.0) (sym whole) all.2)

-- ---- a token behind a list, where the list is one of generators

pub gens_class_is : (es : Exs) (f : Token → Option (Unit {0})) (u : Token) (gs : Gens) → if_generators es f u ≡ Some gs → (f u ≡ Some tt) × (generators_of es ≡ Some gs)
gens_class_is es f u gs h = at_option (f u) h
  where
    at_option : (q : Option (Unit {0})) → option_and_then (λ a. generators_of es) q ≡ Some gs → (q ≡ Some tt) × (generators_of es ≡ Some gs)
    at_option None h = absurd (cc)
    at_option (Some a) h = (refl, h)

pub gens_class_has : (es : Exs) (f : Token → Option (Unit {0})) (u : Token) (gs : Gens) → f u ≡ Some tt → generators_of es ≡ Some gs → if_generators es f u ≡ Some gs
gens_class_has es f u gs h g = ap (option_and_then (λ a. generators_of es)) h ∙ g

-- where the list is not one of generators, or the token is another, the same tokens stop
pub gens_stop : (es : Exs) (f : Token → Option (Unit {0})) (u : Token) → either f (either (if_generators es f) nobody) u ≡ either f nobody u
gens_stop es f u = at_option (f u) (generators_of es)
  where
    at_option : (q : Option (Unit {0})) (g : Option Gens) → some_or q (some_or (option_and_then (λ a. g) q) false) ≡ some_or q false
    at_option None g = refl
    at_option (Some a) g = refl

abbrev pub lparen : Token → Option (Unit {0})
lparen = symbol s.OpenParenthesis

abbrev pub rparen : Token → Option (Unit {0})
rparen = symbol s.CloseParenthesis

abbrev pub k_where : Token → Option (Unit {0})
k_where = keyword k.Where

abbrev pub IsBody : Ex → Tokens → Type 0
IsBody = Seq (One lparen) (λ c. IsClosed)

abbrev pub AfterWhere : Place → List ℕ → Gens → Ex → Tokens → Type 0
AfterWhere p w gs = Image (λ r. x.generator_call p w gs (x.present r.0) r.1) (Pair IsClosed IsBody)

abbrev pub AfterList : Place → List ℕ → Exs → Ex → Tokens → Type 0
AfterList p w es = Cases (if_generators es lparen) (λ gs y. Image (x.generator_call p w gs x.absent) IsClosed) (Just (x.call p w es))

abbrev pub RawArguments : Place → List ℕ → Ex → Tokens → Type 0
RawArguments p w = Start {A = Unit {0}} (λ a. tok.Symbol s.CloseParenthesis) (λ a z. Just (x.call p w x.no_exs))
    (Seq WritesSome (λ es. Cases (if_generators es k_where) (λ gs y. AfterWhere p w gs) (λ z. mark s.CloseParenthesis ⋅ AfterList p w es z)))

-- behind the name
pub named_to : (p : Place) (n : List ℕ) (z : Ex) (w u v : Tokens) → w ≡ u ++ v → at p (tok.Name n) u → Start {A = Unit {0}} (λ a. tok.Symbol s.OpenParenthesis) (λ a q. RawArguments p n) (Just (x.name p n)) z v → IsAt 0 z w
named_to p n z w u v q name (inr (i, j)) = subst (λ (a : Ex). IsAt 0 a w) (sym i) (omega arith, subst (at p (tok.Name n)) (sym (q ∙ ap (λ a. u ++ a) j ∙ append_nil u)) name)
named_to p n z w u v q name (inl (a, r, (b, c, i, (y, m, t, l), inl (a2, r2, (b2, c2, i2, (y2, m2, t2, l2), (e, j)))))) =
    subst (λ (a : Ex). IsAt 0 a w) (sym e) (omega arith, (u, v, q, name, (b, c, i, (y, m, t), ([], c, refl, refl, (y2, i2 ∙ ap (λ a. b2 ++ a) j ∙ append_nil b2 ∙ m2, t2)))))
named_to p n z w u v q name (inl (a, r, (b, c, i, (y, m, t, l), inr (es, b2, c2, i2, some, inl (gs, y2, c3, i3, h, ((cond, body), e, (b4, c4, i4, (b5, c5, i5, wc, end), (o, b6, c6, i6, (m6, h6), made)))))))) =
    let is = gens_class_is es k_where y2.token gs h in
    let gens = gens_read [] es gs [] b2 refl some is.1 in
    let whole : c2 ≡ (y2 ∷ b5) ++ (c5 ++ c4) = i3 ∙ ap (λ a. y2 ∷ a) (i4 ∙ ap (λ a. a ++ c4) i5 ∙ append_assoc b5 c5 c4) in
    subst (λ (a : Ex). IsAt 0 a w) (sym e) (
      omega arith,
      (
        u,
        v,
        q,
        name,
        (
          b,
          c,
          i,
          (y, m, t),
          (
            b2,
            c2,
            i2,
            gens,
            (
              y2 ∷ b5,
              c5 ++ c4,
              whole,
              (y2 ∷ [], b5, refl, (y2, refl, (keyword_class k.Where).is y2.token tt is.0), wc),
              (c5, c4, refl, end, (b6, c6, i6, (o.1, m6, (symbol_class s.OpenParenthesis).is o.1.token o.0 h6), made)),
            ),
          ),
        ),
      ),
    )
named_to p n z w u v q name (inl (a, r, (b, c, i, (y, m, t, l), inr (es, b2, c2, i2, some, inr (b3, c3, i3, end, inl (gs, y2, c4, i4, h, (body, e, made))))))) =
    let is = gens_class_is es lparen y2.token gs h in
    let gens = gens_read [] es gs [] b2 refl some is.1 in
    subst (λ (a : Ex). IsAt 0 a w) (sym e) (omega arith, (u, v, q, name, (b, c, i, (y, m, t), (b2, c2, i2, gens, ([], c2, refl, refl, (b3, c3, i3, end, (y2 ∷ [], c4, i4, (y2, refl, (symbol_class s.OpenParenthesis).is y2.token tt is.0), made)))))))
named_to p n z w u v q name (inl (a, r, (b, c, i, (y, m, t, l), inr (es, b2, c2, i2, some, inr (b3, c3, i3, end, inr (e, j)))))) =
    subst (λ (a : Ex). IsAt 0 a w) (sym e) (omega arith, (u, v, q, name, (b, c, i, (y, m, t), (b2, c2, i2, some_list es b2 some, subst (mark s.CloseParenthesis) (sym (i3 ∙ ap (λ a. b3 ++ a) j ∙ append_nil b3)) end))))
  where
    some_list : (es : Exs) (w : Tokens) → WritesSome es w → WritesList es w
    some_list x.no_exs w g = absurd g
    some_list (x.ex e es) w g = g

abbrev pub Behind : Place → List ℕ → Ex → Tokens → Type 0
Behind p n = Start {A = Unit {0}} (λ a. tok.Symbol s.OpenParenthesis) (λ a q. RawArguments p n) (Just (x.name p n))

pub call_from : (p : Place) (n : List ℕ) (es : Exs) (v : Tokens) → (mark s.OpenParenthesis ⋅ WritesList es ⋅ mark s.CloseParenthesis) v → Behind p n (x.call p n es) v
call_from p n x.no_exs v (b, c, i, (y, m, t), (b2, c2, i2, j, (y2, m2, t2))) =
    inl (tt, y.place, (b, c, i, (y, m, t, refl), inl (tt, y2.place, (y2 ∷ [], [], i2 ∙ ap (λ a. a ++ c2) j ∙ m2, (y2, refl, t2, refl), (refl, refl)))))
call_from p n (x.ex e es) v (b, c, i, (y, m, t), (b2, c2, i2, some, end)) =
    inl (tt, y.place, (b, c, i, (y, m, t, refl), inr (x.ex e es, b2, c2, i2, some, inr (c2, [], sym (append_nil c2), end, inr (refl, refl)))))

pub generator_call_from : (p : Place) (n : List ℕ) (gs : Gens) (cond : Maybe) (body : Ex) (v : Tokens)
    → (mark s.OpenParenthesis ⋅ WritesGens gs ⋅ WritesWhere cond ⋅ mark s.CloseParenthesis ⋅ mark s.OpenParenthesis ⋅ Writes body ⋅ mark s.CloseParenthesis) v → Behind p n (x.generator_call p n gs cond body) v
generator_call_from p n gs x.absent body v (b, c, i, (y, m, t), (b2, c2, i2, gens, (b3, c3, i3, j, (b4, c4, i4, end, (b5, c5, i5, (y5, m5, t5), made))))) =
    let es = gens_written gs b2 gens in
    inl (
      tt,
      y.place,
      (
        b,
        c,
        i,
        (y, m, t, refl),
        inr (
          es.0,
          b2,
          c2,
          i2,
          es.2,
          inr (
            b4,
            c4,
            i3 ∙ ap (λ a. a ++ c3) j ∙ i4,
            end,
            inl (gs, y5, c5, i5 ∙ ap (λ a. a ++ c5) m5, gens_class_has es.0 lparen y5.token gs (ap lparen t5 ∙ (symbol_class s.OpenParenthesis).has tt) es.1, (body, refl, made)),
          ),
        ),
      ),
    )
generator_call_from p n gs (x.present cond) body v (b, c, i, (y, m, t), (b2, c2, i2, gens, (b3, c3, i3, (b6, c6, i6, (y6, m6, t6), wc), (b4, c4, i4, end, (b5, c5, i5, (y5, m5, t5), made))))) =
    let es = gens_written gs b2 gens in
    let whole : c2 ≡ y6 ∷ ((c6 ++ b4) ++ c4) = i3 ∙ ap (λ a. a ++ c3) (i6 ∙ ap (λ a. a ++ c6) m6) ∙ ap (λ a. y6 ∷ a) (ap (λ a. c6 ++ a) i4 ∙ sym (append_assoc c6 b4 c4)) in
    inl (
      tt,
      y.place,
      (
        b,
        c,
        i,
        (y, m, t, refl),
        inr (
          es.0,
          b2,
          c2,
          i2,
          es.2,
          inl (
            gs,
            y6,
            (c6 ++ b4) ++ c4,
            whole,
            gens_class_has es.0 k_where y6.token gs (ap k_where t6 ∙ (keyword_class k.Where).has tt) es.1,
            ((cond, body), refl, (c6 ++ b4, c4, refl, (c6, b4, refl, wc, end), ((tt, y5), b5, c5, i5, (m5, ap lparen t5 ∙ (symbol_class s.OpenParenthesis).has tt), made))),
          ),
        ),
      ),
    )

pub has_arguments : (p : Place) (n : List ℕ) → Has (RawArguments p n)
has_arguments p n = (x.call p n x.no_exs, token_at (tok.Symbol s.CloseParenthesis) ∷ [], inl (tt, (token_at (tok.Symbol s.CloseParenthesis)).place, (token_at (tok.Symbol s.CloseParenthesis) ∷ [], [], refl, (token_at (tok.Symbol s.CloseParenthesis), refl, refl, refl), (refl, refl))))

module _ (e : ℕ) (inner : Reach → Parser Ex) (any : (n : ℕ) (I : Token → Bool) → Fresh I → Exact n e e I e_any Writes (inner reach.Any)) (range : (n : ℕ) (I : Token → Bool) → Fresh I → Exact n e e I e_range (IsAt 6) (inner reach.Range)) where
  pub closed_exact : (n : ℕ) → Exact n e (suc e) nobody nobody IsClosed (closing rparen (inner reach.Any))
  closed_exact n = closed_by (symbol_class s.CloseParenthesis) refl refl (any n nobody nobody_fresh)

  pub body_exact : (n : ℕ) → Exact n (suc e) (suc e) nobody nobody IsBody (enter (suc e) lparen >>= λ c. closing rparen (inner reach.Any))
  body_exact n = must_open (symbol_class s.OpenParenthesis) n nobody (λ a. refl) (λ a. refl) tt nobody (λ c. IsClosed) (λ c. closing rparen (inner reach.Any)) (suc e)
      (λ c. has_closing (tok.Symbol s.CloseParenthesis) has_zero) (λ m h c. subst (λ (m : ℕ). Exact n m (suc m) nobody nobody IsClosed (closing rparen (inner reach.Any))) (omega (arith, h)) (closed_exact n))

  pub after_where_exact : (n : ℕ) (p : Place) (w : List ℕ) (gs : Gens) → Exact n e (suc e) nobody e_atom (AfterWhere p w gs) (after_where (suc e) inner p w gs)
  unfolding after_where
  after_where_exact n p w gs = widen (λ u h. refl) (mapped (λ r. x.generator_call p w gs (x.present r.0) r.1) (both (closed_exact n) (body_exact n)))

  pub after_list_exact : (n : ℕ) (p : Place) (w : List ℕ) (es : Exs) → Exact n (suc e) (suc e) nobody e_atom (AfterList p w es) (after_list (suc e) inner p w es)
  unfolding after_list generator_body
  after_list_exact n p w es =
      r.opening_exact n nobody (if_generators es lparen) (λ gs y. Image (x.generator_call p w gs x.absent) IsClosed) (λ gs y. into (x.generator_call p w gs x.absent) (closing rparen (inner reach.Any)))
      (λ y gs h. refl) (λ y gs h. subst (λ (u : Token). opens u ≡ true) (sym ((symbol_class s.OpenParenthesis).is y.token tt (gens_class_is es lparen y.token gs h).0)) refl)
      (λ gs y. has_image (x.generator_call p w gs x.absent) (has_closing (tok.Symbol s.CloseParenthesis) has_zero)) (suc e) e_atom (Just (x.call p w es)) (sealed lparen (x.call p w es))
      (restop (gens_stop es lparen) (r.sealed_exact n (suc e) (either (if_generators es lparen) nobody) lparen (x.call p w es)))
      (λ m h gs y g. subst (λ (m : ℕ). Exact n m (suc m) nobody e_atom (Image (x.generator_call p w gs x.absent) IsClosed) (into (x.generator_call p w gs x.absent) (closing rparen (inner reach.Any)))) (omega (arith, h))
      (widen (λ u h. refl) (mapped (x.generator_call p w gs x.absent) (closed_exact n))))

  pub arguments_exact : (n : ℕ) (p : Place) (w : List ℕ) → Exact n e (suc e) nobody e_atom (RawArguments p w) (arguments (suc e) inner p w)
  unfolding arguments
  arguments_exact n p w = start (symbol_class s.CloseParenthesis) (λ a. refl) (λ a. refl) (λ a z. widen (λ u h. refl) (none_after (x.call p w x.no_exs)))
      (next (list_exact n e inner any range (either rparen nobody) symbol_fresh.1)
      (λ es. r.by_exact n n e e (suc e) (omega arith) (either comma e_any) e_atom (if_generators es k_where) (λ gs y. AfterWhere p w gs) (λ z. mark s.CloseParenthesis ⋅ AfterList p w es z)
      (λ gs y. after_where (suc e) inner p w gs) (must rparen >>= λ c. after_list (suc e) inner p w es)
      (λ y gs h. subst (λ (u : Token). either comma e_any u ≡ false) (sym ((keyword_class k.Where).is y.token tt (gens_class_is es k_where y.token gs h).0)) refl)
      (λ y gs h. subst (λ (u : Token). left_after e u ≡ Some e) (sym ((keyword_class k.Where).is y.token tt (gens_class_is es k_where y.token gs h).0)) refl)
      (λ gs y h. after_where_exact n p w gs)
      (behind (symbol_class s.CloseParenthesis) refl refl (after_list_exact n p w es))))
  -- ---- a name, with its brackets or none
