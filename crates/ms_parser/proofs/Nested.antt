-- Every expression is read as the grammar writes it, however deep brackets nest.
use Rattle.std.proofs.Common.{◌≡◌, ℕ, zero, suc, ◌≤◌, List, [], ◌∷◌, ◌++◌, Bool, refl, sym, ap, ◌∙◌, subst, append_assoc, arith, inl, inr}
use Rattle.std.specs.Prelude.{pred}
use Rattle.ms_syntax.specs.declared.token.Token.{Token}
use Rattle.ms_syntax.specs.declared.token.Token.TheVariants as tok
use Rattle.ms_syntax.specs.declared.token.Keyword.TheVariants as k
use Rattle.ms_syntax.specs.declared.token.Symbol.TheVariants as s
use Rattle.ms_syntax.specs.declared.token.Place.{Place}
use Rattle.ms_syntax.specs.declared.tree.Operator.{Operator}
use Rattle.ms_syntax.specs.declared.tree.Operator.TheVariants as o
use Rattle.ms_syntax.specs.Tree as x
use Rattle.ms_syntax.specs.Tree.{Ex, Links, Decl, Decls, decls_of}
use Rattle.ms_syntax.specs.Grammar.{Tokens, ◌⋅◌, operands, Writes, WritesDecls, word}
use Rattle.ms_expressions.specs.declared.reach.Reach.{Reach}
use Rattle.ms_expressions.specs.declared.reach.Reach.TheVariants as reach
use Rattle.ms_cursor.specs.Reading.{Parser}
use Rattle.ms_cursor.specs.Kinds.{symbol, keyword}
use Rattle.ms_expressions.specs.Rules.{locals, local, reads, nested, under, tier, signed}
use Rattle.ms_expressions.proofs.Depth.{under_reads, nested_one}
use Rattle.ms_parser.proofs.Classes.{symbol_class, keyword_class}
use Rattle.ms_parser.proofs.Exact.{Exact, Seq, One, nobody}
use Rattle.ms_parser.proofs.Choices.{either}
use Rattle.ms_parser.proofs.Parts.{Pair, Image, Start, both, mapped, retold, behind, start}
use Rattle.ms_parser.proofs.Lists.{must_open}
use Rattle.ms_parser.proofs.Enclosed.{e_tier, e_any, e_range, Fresh, IsAt}
use Rattle.ms_parser.proofs.Levels.{tier_exact, signed_exact, FreshSigned, signed_of, nobody_signed}
use Rattle.ms_parser.proofs.Decls.{declaration_exact, IsLocals, locals_exact, has_locals}

abbrev let_of : Place → (List Decl × Bool) × Ex → Ex
let_of p r = x.let_in p (decls_of r.0.0) r.0.1 r.1

abbrev IsBraced : List Decl × Bool → Tokens → Type 0
IsBraced = Seq (One (symbol s.OpenBrace)) (λ c. IsLocals)

abbrev RawAny : Ex → Tokens → Type 0
RawAny = Start {A = Unit {0}} (λ a. tok.Keyword k.Let) (λ a p. Image (let_of p) (Pair IsBraced (λ e. word k.In ⋅ IsAt 12 e))) (IsAt 12)

any_to : (z : Ex) (w : Tokens) → RawAny z w → Writes z w
any_to z w (inr g) = g.1
any_to z w (inl (a, p, (u, v, q, at_let, (t, j, (u2, v2, q2, (c, b, b2, q3, (n, h), (u4, v4, q4, ds, close)), body))))) =
    subst (λ (e : Ex). Writes e w) (sym j) (u, v, q, at_let, (b, u4 ++ (v4 ++ v2), whole, (c.1, n, (symbol_class s.OpenBrace).is c.1.token c.0 h), (u4, v4 ++ v2, refl, ds, (v4, v2, refl, close, body))))
  where
    whole : v ≡ b ++ (u4 ++ (v4 ++ v2))
    whole = q2 ∙ ap (λ e. e ++ v2) (q3 ∙ ap (λ e. b ++ e) q4) ∙ append_assoc b (u4 ++ v4) v2 ∙ ap (λ e. b ++ e) (append_assoc u4 v4 v2)

chain_most : (n : ℕ) (e : Ex) (ls : Links) (w : Tokens) → Writes (x.chain n e ls) w → n ≤ 11
chain_most n e x.no_links w g = absurd g.0
chain_most n e (x.link op p e2 more) w (one, (u, v, q, h, (i, rest))) = omega (arith, operands_most op, i)
  where
    operands_most : (op : Operator) → operands op ≤ 11
    operands_most o.Equivalent = omega arith
    operands_most _ = omega arith

list_of : (ds : Decls) → (l : List Decl) × (decls_of l ≡ ds)
list_of x.no_decls = ([], refl)
list_of (x.decl d ds) = let r = list_of ds in (d ∷ r.0, ap (x.decl d) r.1)

any_from : (z : Ex) (w : Tokens) → Writes z w → RawAny z w
any_from (x.let_in p ds c e) w (u, v, q, at_let, (b, b2, q2, (y, n, t), (u4, v4, q4, wr, (u5, v5, q5, close, body)))) =
    let l = list_of ds in
    inl (
      tt,
      p,
      (
        u,
        v,
        q,
        at_let,
        (
          ((l.0, c), e),
          ap (λ a. x.let_in p a c e) (sym l.1),
          (
            b ++ (u4 ++ u5),
            v5,
            q2 ∙ ap (λ a. b ++ a) (q4 ∙ ap (λ a. u4 ++ a) q5 ∙ sym (append_assoc u4 u5 v5)) ∙ sym (append_assoc b (u4 ++ u5) v5),
            ((tt, y), b, u4 ++ u5, refl, (n, ap (symbol s.OpenBrace) t ∙ (symbol_class s.OpenBrace).has tt), (u4, u5, refl, subst (λ (a : Decls). WritesDecls a c u4) (sym l.1) wr, close)),
            body,
          ),
        ),
      ),
    )
any_from (x.chain n e ls) w g = inr (omega (arith, chain_most n e ls w g), g)
any_from z w g = inr (omega arith, g)

-- what is read where d more brackets may open
abbrev pub ReadsAll : ℕ → Type 0
ReadsAll d = (n : ℕ) (I : Token → Bool) → Fresh I → Exact n d d I e_any Writes (under (suc d) reach.Any) × Exact n d d I e_range (IsAt 6) (under (suc d) reach.Range)

module _ (d : ℕ) (inner inmost : Reach → Parser Ex) (any : (l : ℕ) → d ≡ suc l → (n : ℕ) (I : Token → Bool) → Fresh I → Exact n l l I e_any Writes (inner reach.Any)) (range : (l : ℕ) → d ≡ suc l → (n : ℕ) (I : Token → Bool) → Fresh I → Exact n l l I e_range (IsAt 6) (inner reach.Range))
    (any2 : (l : ℕ) → d ≡ suc (suc l) → (n : ℕ) (I : Token → Bool) → Fresh I → Exact n l l I e_any Writes (inmost reach.Any)) (range2 : (l : ℕ) → d ≡ suc (suc l) → (n : ℕ) (I : Token → Bool) → Fresh I → Exact n l l I e_range (IsAt 6) (inmost reach.Range)) where
  tiers : (h : ℕ) → h ≤ 10 → (n : ℕ) (I : Token → Bool) → FreshSigned I → Exact n d d I (e_tier h) (IsAt (suc (suc h))) (tier h (signed d inner))
  tiers = tier_exact d (signed d inner) (signed_exact d inner any range)

  locals_at : (n l : ℕ) → d ≡ suc l → Exact n l (suc l) nobody nobody IsLocals (locals (pred d) inner inmost)
  locals_at n l h = subst (λ (a : ℕ). Exact n l (suc l) nobody nobody IsLocals (locals (pred a) inner inmost)) (sym h)
      (locals_exact l inner inmost (declaration_exact l inner inmost (any l h) (range l h) (λ m g. any2 m (h ∙ ap suc g)) (λ m g. range2 m (h ∙ ap suc g))) n)

  local_exact : (n : ℕ) (p : Place) → Exact n d d nobody e_any (Image (let_of p) (Pair IsBraced (λ e. word k.In ⋅ IsAt 12 e))) (local d inner inmost p)
  unfolding local
  local_exact n p = mapped (let_of p) (both (must_open (symbol_class s.OpenBrace) n nobody (λ a. refl) (λ a. refl) tt nobody (λ c. IsLocals) (λ c. locals (pred d) inner inmost) d (λ c. has_locals) (λ l h c. locals_at n l h))
      (behind (keyword_class k.In) refl refl (tiers 10 (omega arith) n nobody nobody_signed)))

  pub any_exact : (n : ℕ) (I : Token → Bool) → Fresh I → Exact n d d I e_any Writes (reads d inner inmost reach.Any)
  unfolding reads
  any_exact n I fresh = retold any_to any_from (start (keyword_class k.Let) (λ a. fresh.12) (λ a. refl) (λ a p. local_exact n p)
      (tiers 10 (omega arith) n (either (keyword k.Let) I) (signed_of I fresh)))

  pub range_exact : (n : ℕ) (I : Token → Bool) → Fresh I → Exact n d d I e_range (IsAt 6) (reads d inner inmost reach.Range)
  unfolding reads
  range_exact n I fresh = tiers 4 (omega arith) n I (signed_of I fresh)

-- the reader inside a bracket of one is the reader with a bracket less
step : (d : ℕ) → ((l : ℕ) → d ≡ suc l → ReadsAll l) → ((l : ℕ) → d ≡ suc (suc l) → ReadsAll l) → ReadsAll d
step d one two n I fresh = (
  subst (λ (p : Parser Ex). Exact n d d I e_any Writes p) (sym (under_reads d reach.Any)) (any_exact d (under d) (nested d).1 inner_any inner_range inmost_any inmost_range n I fresh),
  subst (λ (p : Parser Ex). Exact n d d I e_range (IsAt 6) p) (sym (under_reads d reach.Range)) (range_exact d (under d) (nested d).1 inner_any inner_range inmost_any inmost_range n I fresh),
)
  where
    inner_any : (l : ℕ) → d ≡ suc l → (n : ℕ) (I : Token → Bool) → Fresh I → Exact n l l I e_any Writes (under d reach.Any)
    inner_any l h n I fresh = subst (λ (a : ℕ). Exact n l l I e_any Writes (under a reach.Any)) (sym h) (one l h n I fresh).0

    inner_range : (l : ℕ) → d ≡ suc l → (n : ℕ) (I : Token → Bool) → Fresh I → Exact n l l I e_range (IsAt 6) (under d reach.Range)
    inner_range l h n I fresh = subst (λ (a : ℕ). Exact n l l I e_range (IsAt 6) (under a reach.Range)) (sym h) (one l h n I fresh).1

    inmost_any : (l : ℕ) → d ≡ suc (suc l) → (n : ℕ) (I : Token → Bool) → Fresh I → Exact n l l I e_any Writes ((nested d).1 reach.Any)
    inmost_any l h n I fresh = subst (λ (a : ℕ). Exact n l l I e_any Writes ((nested a).1 reach.Any)) (sym h) (subst (λ (p : Reach → Parser Ex). Exact n l l I e_any Writes (p reach.Any)) (sym (nested_one (suc l))) (two l h n I fresh).0)

    inmost_range : (l : ℕ) → d ≡ suc (suc l) → (n : ℕ) (I : Token → Bool) → Fresh I → Exact n l l I e_range (IsAt 6) ((nested d).1 reach.Range)
    inmost_range l h n I fresh = subst (λ (a : ℕ). Exact n l l I e_range (IsAt 6) ((nested a).1 reach.Range)) (sym h) (subst (λ (p : Reach → Parser Ex). Exact n l l I e_range (IsAt 6) (p reach.Range)) (sym (nested_one (suc l))) (two l h n I fresh).1)

pub under_exact : (d : ℕ) → ReadsAll d
under_exact zero = step 0 (λ l h. absurd (omega (arith, h))) (λ l h. absurd (omega (arith, h)))
under_exact (suc zero) = step 1 (λ l h. let same : 0 ≡ l = omega (arith, h) in subst ReadsAll same (under_exact zero)) (λ l h. absurd (omega (arith, h)))
under_exact (suc (suc d)) = step (suc (suc d)) (λ l h. let same : suc d ≡ l = omega (arith, h) in subst ReadsAll same (under_exact (suc d))) (λ l h. let same : d ≡ l = omega (arith, h) in subst ReadsAll same (under_exact d))
