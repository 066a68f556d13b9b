-- An array without elements, and an access.
use Rattle.std.proofs.Common.{◌≡◌, ℕ, List, [], ◌∷◌, Bool, true, false, Option, Some, None, refl, sym, ap, ◌∙◌}
use Rattle.std.specs.Prelude.{is_some, if◌then◌else◌}
use Rattle.ms_syntax.specs.declared.token.Place.{Place}
use Rattle.ms_syntax.specs.declared.token.Spanned.{Spanned}
use Rattle.ms_syntax.specs.declared.token.Symbol.TheVariants as s
use Rattle.ms_syntax.specs.Tree as x
use Rattle.ms_syntax.specs.Tree.{Ex, Maybe, exs_of, subscripts_of}
use Rattle.ms_syntax.specs.Grammar.{Tokens}
use Rattle.ms_cursor.specs.declared.stop.Stop.{Stop}
use Rattle.ms_cursor.specs.declared.stop.Stop.TheVariants.{Syntax, Deep, Memory}
use Rattle.ms_expressions.specs.declared.reach.Reach.{Reach}
use Rattle.ms_expressions.specs.declared.reach.Reach.TheVariants as reach
use Rattle.ms_cursor.specs.Kinds.{symbol}
use Rattle.ms_cursor.specs.Reading.{Out, ok, bad, deep, Parser, and_then, pure, pick, front, after, must, many, grown, place_at}
use Rattle.ms_cursor.specs.Reads.{Fails}
use Rattle.ms_expressions.specs.Rules.{more, array_rest, atom, opened_subscript, subscripts, accessed, accessing}

-- an array that ends at once
pub array_empty : (inner : Reach → Parser Ex) (p : Place) (ts r : Tokens) (b : Bool) → b ≡ is_some (front (symbol s.CloseBracket) ts) → b ≡ true → r ≡ (if b then after ts else ts) → array_rest inner p ts ≡ ok (x.array p x.no_exs) r
unfolding array_rest
array_empty inner p ts r b saw h next =
    let e : array_rest inner p ts ≡ ok (x.array p x.no_exs) (after ts) = at_mark (front (symbol s.CloseBracket) ts) _ (sym saw ∙ h) in
    e ∙ ap (ok (x.array p x.no_exs)) (sym (next ∙ ap (λ v. if v then after ts else ts) h))
  where
    at_mark : (o : Option (Unit {0} × Spanned)) (q : Out Ex) → is_some o ≡ true → pick o (λ a. ok (x.array p x.no_exs) (after ts)) q ≡ ok (x.array p x.no_exs) (after ts)
    at_mark None q h = absurd (cc)
    at_mark (Some a) q h = refl

-- an array of one element or more: the first was read, and what follows is no bar
module _ (p : Place) where
  abbrev pub until_close : Out (List Ex) → Out Ex
  until_close o = and_then o (λ es. λ t. and_then (must (symbol s.CloseBracket) t) (λ c. pure (x.array p (exs_of es))))

  at_close : (e : Ex) (es : List Ex) (q : Out (Unit {0} × Spanned)) → and_then (and_then q (λ c. pure (exs_of es))) (λ r. pure (x.array p (x.ex e r))) ≡ and_then q (λ c. pure (x.array p (exs_of (e ∷ es))))
  at_close e es (ok c r) = refl
  at_close e es (bad n) = refl
  at_close e es (deep n) = refl

  joined : (e : Ex) (o : Out (List Ex)) → and_then (and_then (and_then o (λ es. pure (exs_of es))) (λ r. λ t. and_then (must (symbol s.CloseBracket) t) (λ c. pure r))) (λ r. pure (x.array p (x.ex e r))) ≡ until_close (grown (e ∷ []) o)
  joined e (ok es r) = at_close e es (must (symbol s.CloseBracket) r)
  joined e (bad n) = refl
  joined e (deep n) = refl

  missing : {A : Type 0} (o : Option A) → is_some o ≡ false → o ≡ None
  missing None h = refl
  missing (Some a) h = absurd (cc)

  goes_on : (inner : Reach → Parser Ex) (ts t1 : Tokens) (e : Ex) → front (symbol s.CloseBracket) ts ≡ None → inner reach.Any ts ≡ ok e t1 → front (symbol s.Bar) t1 ≡ None → array_rest inner p ts ≡ until_close (grown (e ∷ []) (many (symbol s.Comma) (λ a y. inner reach.Any) t1))
  unfolding array_rest more
  goes_on inner ts t1 e no_close first no_bar = rw (no_close, first, no_bar) (joined e (many (symbol s.Comma) (λ a y. inner reach.Any) t1))

  pub array_goes_on : (inner : Reach → Parser Ex) (ts t0 t1 t2 : Tokens) (b c : Bool) (e : Ex) (o : Out (List Ex)) → b ≡ is_some (front (symbol s.CloseBracket) ts) → t0 ≡ (if b then after ts else ts) → b ≡ false → inner reach.Any t0 ≡ ok e t1
      → c ≡ is_some (front (symbol s.Bar) t1) → t2 ≡ (if c then after t1 else t1) → c ≡ false → o ≡ grown (e ∷ []) (many (symbol s.Comma) (λ a y. inner reach.Any) t2) → array_rest inner p ts ≡ until_close o
  array_goes_on inner ts t0 t1 t2 b c e o saw next no_close first saw_bar next_bar no_bar found =
      let at_start : t0 ≡ ts = next ∙ ap (λ v. if v then after ts else ts) no_close in
      let behind_it : t2 ≡ t1 = next_bar ∙ ap (λ v. if v then after t1 else t1) no_bar in
      goes_on inner ts t1 e (missing (front (symbol s.CloseBracket) ts) (sym saw ∙ no_close)) (ap (inner reach.Any) (sym at_start) ∙ first) (missing (front (symbol s.Bar) t1) (sym saw_bar ∙ no_bar))
      ∙ ap (λ t. until_close (grown (e ∷ []) (many (symbol s.Comma) (λ a y. inner reach.Any) t))) (sym behind_it) ∙ ap until_close (sym found)

  pub until_fails : (o : Out (List Ex)) (stop : Stop) → Fails o stop → Fails (until_close o) stop
  until_fails o Memory h = tt
  until_fails o (Syntax n) h = ap until_close h
  until_fails o (Deep n) h = ap until_close h

  pub until_open : (o : Out (List Ex)) (es : List Ex) (t : Tokens) (stop : Stop) → o ≡ ok es t → Fails (must (symbol s.CloseBracket) t) stop → Fails (until_close o) stop
  until_open o es t Memory h g = tt
  until_open o es t (Syntax n) h g = ap until_close h ∙ ap (λ q. and_then q (λ c. pure (x.array p (exs_of es)))) g
  until_open o es t (Deep n) h g = ap until_close h ∙ ap (λ q. and_then q (λ c. pure (x.array p (exs_of es)))) g

  pub until_closed : (o : Out (List Ex)) (es : List Ex) (t r : Tokens) (c : Unit {0} × Spanned) → o ≡ ok es t → must (symbol s.CloseBracket) t ≡ ok c r → until_close o ≡ ok (x.array p (exs_of es)) r
  until_closed o es t r c h g = ap until_close h ∙ ap (λ q. and_then q (λ c. pure (x.array p (exs_of es)))) g

-- an atom with its subscripts
pub accessed_read : (d : ℕ) (inner : Reach → Parser Ex) (ts t1 t2 : Tokens) (e : Ex) (is : List (Ex × Maybe)) → atom d inner ts ≡ ok e t1 → many (symbol s.OpenBracket) (λ a y. opened_subscript d inner a) t1 ≡ ok is t2
    → accessed d inner ts ≡ ok (accessing (place_at ts) e (subscripts_of is)) t2
unfolding accessed subscripts
accessed_read d inner ts t1 t2 e is h1 h2 = rw (h1, h2)
