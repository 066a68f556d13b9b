-- A loop that goes on in turns, each with one value more or the end.
use Rattle.std.proofs.Common.{◌≡◌, ℕ, suc, ◌+◌, ◌-◌, ◌<◌, ◌≤◌, arith, List, [], ◌∷◌, ◌++◌, Option, Some, None, Bool, true, false, refl, sym, ap, ◌∙◌, append_assoc}
use Rattle.ms_syntax.specs.declared.token.Spanned.{Spanned}
use Rattle.ms_syntax.specs.declared.token.Symbol.TheVariants as s
use Rattle.ms_syntax.specs.Tree.{Ex, Decl}
use Rattle.ms_syntax.specs.Grammar.{Tokens}
use Rattle.std.proofs.lemmas.List.{append-nil}
use Rattle.ms_cursor.specs.declared.stop.Stop.{Stop}
use Rattle.ms_cursor.specs.declared.stop.Stop.TheVariants.{Syntax, Deep, Memory}
use Rattle.ms_expressions.specs.declared.reach.Reach.{Reach}
use Rattle.ms_cursor.specs.Reads.{Fails}
use Rattle.ms_cursor.specs.Reading.{Out, ok, bad, deep, Parser, and_then, ◌>>=◌, pure, pick, front, after, by, must, into, skip}
use Rattle.ms_cursor.specs.Kinds.{symbol}
use Rattle.ms_expressions.specs.Rules.{Turn, item, last, declaration, more_locals, local_turn}

-- the values that were found, before those of the outcome
abbrev pub grown_by : {A : Type 0} → List A → Out (List A × Bool) → Out (List A × Bool)
grown_by found (ok r t) = ok (found ++ r.0, r.1) t
grown_by found (bad n) = bad n
grown_by found (deep n) = deep n

pub grown_none : {A : Type 0} (o : Out (List A × Bool)) → grown_by [] o ≡ o
grown_none (ok r t) = refl
grown_none (bad n) = refl
grown_none (deep n) = refl

grown_twice : {A : Type 0} (found : List A) (a : A) (o : Out (List A × Bool)) → grown_by found (and_then o (λ r. pure {A = List A × Bool} (a ∷ r.0, r.1))) ≡ grown_by (found ++ a ∷ []) o
grown_twice {A} found a (ok r t) = ap (λ v. pure {A = List A × Bool} (v, r.1) t) (sym (append_assoc found (a ∷ []) r.0))
grown_twice found a (bad n) = refl
grown_twice found a (deep n) = refl

-- what a turn is followed by
abbrev pub go_on : {A : Type 0} → Parser (List A × Bool) → Turn A → Parser (List A × Bool)
go_on {A} more (item a) = into {B = List A × Bool} (λ r. (a ∷ r.0, r.1)) more
go_on {A} more (last c) = pure {A = List A × Bool} ([], c)

module _ {A : Type 0} (more : ℕ → Parser (List A × Bool)) (turn : Parser (Turn A)) (unroll : (n : ℕ) (ts : Tokens) → more (suc n) ts ≡ and_then (turn ts) (go_on (more n))) where
  module _ (end now : ℕ) (found : List A) (ts : Tokens) (whole : Out (List A × Bool)) (so_far : grown_by found (more (end - now) ts) ≡ whole) (less : now < end) where
    at_turn : (o : Out (Turn A)) → turn ts ≡ o → grown_by found (and_then o (go_on (more (end - (now + 1))))) ≡ whole
    at_turn o h =
        let one : end - now ≡ suc (end - (now + 1)) = omega (arith, less) in
        ap (λ k. grown_by found (and_then k (go_on (more (end - (now + 1)))))) (sym h) ∙ ap (grown_by found) (sym (unroll (end - (now + 1)) ts)) ∙ ap (λ k. grown_by found (more k ts)) (sym one) ∙ so_far

    pub turn_more : (found2 : List A) (a : A) (r : Tokens) → turn ts ≡ ok (item a) r → found2 ≡ found ++ a ∷ [] → grown_by found2 (more (end - (now + 1)) r) ≡ whole
    turn_more found2 a r h g = ap (λ v. grown_by v (more (end - (now + 1)) r)) g ∙ sym (grown_twice found a (more (end - (now + 1)) r)) ∙ at_turn (ok (item a) r) h

    pub turn_last : (c : Bool) (r : Tokens) → turn ts ≡ ok (last c) r → whole ≡ ok (found, c) r
    turn_last c r h = sym (at_turn (ok (last c) r) h) ∙ ap (λ v. pure {A = List A × Bool} (v, c) r) (append-nil found)

    pub turn_fails : (fault : Stop) → Fails (turn ts) fault → Fails whole fault
    turn_fails Memory h = tt
    turn_fails (Syntax k) h = sym (at_turn (bad k) h)
    turn_fails (Deep k) h = sym (at_turn (deep k) h)

-- no turn is left
pub turns_over : {A : Type 0} (more : ℕ → Parser (List A × Bool)) (end now : ℕ) (found : List A) (ts : Tokens) (whole : Out (List A × Bool)) → grown_by found (more (end - now) ts) ≡ whole → end ≤ now → grown_by found (more 0 ts) ≡ whole
turns_over more end now found ts whole so_far h = let none : end - now ≡ 0 = omega (arith, h) in ap (λ k. grown_by found (more k ts)) (sym none) ∙ so_far

-- ---- the declarations of a `let`

module _ (e : ℕ) (inner inmost : Reach → Parser Ex) where
  pub locals_unroll : (n : ℕ) (ts : Tokens) → more_locals e inner inmost (suc n) ts ≡ and_then (local_turn e inner inmost ts) (go_on (more_locals e inner inmost n))
  unfolding more_locals local_turn
  locals_unroll n ts = at_mark (front (symbol s.Semicolon) ts)
    where
      item_then : (o : Out Decl) → and_then o (λ d. into {B = List Decl × Bool} (λ r. (d ∷ r.0, r.1)) (more_locals e inner inmost n)) ≡ and_then (and_then o (λ d. pure (item d))) (go_on (more_locals e inner inmost n))
      item_then (ok d r) = refl
      item_then (bad k) = refl
      item_then (deep k) = refl

      at_close : (q : Option (Unit {0} × Spanned)) (r t : Tokens) → pick q (λ a. pure {A = List Decl × Bool} ([], true) r) (and_then (declaration e inner inmost t) (λ d. into {B = List Decl × Bool} (λ r. (d ∷ r.0, r.1)) (more_locals e inner inmost n)))
          ≡ and_then (pick q (λ a. ok (last true) r) (and_then (declaration e inner inmost t) (λ d. pure (item d)))) (go_on (more_locals e inner inmost n))
      at_close None r t = item_then (declaration e inner inmost t)
      at_close (Some a) r t = refl

      at_end : (o : Out (Unit {0} × Spanned)) → and_then o (λ c. pure {A = List Decl × Bool} ([], false)) ≡ and_then (and_then o (λ c. pure (last false))) (go_on (more_locals e inner inmost n))
      at_end (ok c r) = refl
      at_end (bad k) = refl
      at_end (deep k) = refl

      at_mark : (q : Option (Unit {0} × Spanned))
          → pick q (λ a. by (symbol s.CloseBrace) (λ b z. pure {A = List Decl × Bool} ([], true)) (declaration e inner inmost >>= λ d. into {B = List Decl × Bool} (λ r. (d ∷ r.0, r.1)) (more_locals e inner inmost n)) (after ts))
          (skip (symbol s.CloseBrace) (pure {A = List Decl × Bool} ([], false)) ts)
          ≡ and_then (pick q (λ a. by (symbol s.CloseBrace) (λ b z. pure (last true)) (into item (declaration e inner inmost)) (after ts)) (skip (symbol s.CloseBrace) (pure (last false)) ts)) (go_on (more_locals e inner inmost n))
      at_mark None = at_end (must (symbol s.CloseBrace) ts)
      at_mark (Some a) = at_close (front (symbol s.CloseBrace) (after ts)) (after (after ts)) (after ts)

  -- no turn is left, so the closing brace comes
  module _ (found : List Decl) (ts : Tokens) (whole : Out (List Decl × Bool)) (so_far : grown_by found (more_locals e inner inmost 0 ts) ≡ whole) where
    at_brace : (o : Out (Unit {0} × Spanned)) → must (symbol s.CloseBrace) ts ≡ o → grown_by found (and_then o (λ c. pure {A = List Decl × Bool} ([], false))) ≡ whole
    unfolding more_locals
    at_brace o h = ap (λ o. grown_by found (and_then o (λ c. pure {A = List Decl × Bool} ([], false)))) (sym h) ∙ so_far

    pub locals_over : (c : Unit {0} × Spanned) (r : Tokens) → must (symbol s.CloseBrace) ts ≡ ok c r → whole ≡ ok (found, false) r
    locals_over c r h = sym (at_brace (ok c r) h) ∙ ap (λ v. pure {A = List Decl × Bool} (v, false) r) (append-nil found)

    pub locals_open : (fault : Stop) → Fails (must (symbol s.CloseBrace) ts) fault → Fails whole fault
    locals_open Memory h = tt
    locals_open (Syntax k) h = sym (at_brace (bad k) h)
    locals_open (Deep k) h = sym (at_brace (deep k) h)
