-- A declaration whose kind has been read.
use Rattle.std.proofs.Common.{◌≡◌, ℕ, List, refl, sym, ap, ◌∙◌}
use Rattle.ms_syntax.specs.declared.token.Place.{Place}
use Rattle.ms_syntax.specs.Tree as x
use Rattle.ms_syntax.specs.Tree.{Ex, Kd, Notes, Maybe}
use Rattle.ms_syntax.specs.Grammar.{Tokens}
use Rattle.ms_expressions.specs.declared.reach.Reach.{Reach}
use Rattle.ms_cursor.specs.Reading.{Out, ok, bad, deep, Parser, and_then, pure, into, place_at}
use Rattle.ms_expressions.specs.Rules.{kind, declared, declaration}

module _ (e : ℕ) (inner inmost : Reach → Parser Ex) where
  pub as_declared : (ts r : Tokens) (k : Kd) (p : Place) → p ≡ place_at ts → kind e inner inmost ts ≡ ok k r
      → into (λ c. x.declare p k c.0 c.1.0 c.1.1) (declared e inner inmost) r ≡ declaration e inner inmost ts
  unfolding declaration
  as_declared ts r k p h g =
      ap (λ q. into (λ c. x.declare q k c.0 c.1.0 c.1.1) (declared e inner inmost) r) h ∙ regroup (declared e inner inmost r) ∙ ap (λ o. and_then (and_then (and_then o (λ a. λ t. and_then (declared e inner inmost t) (λ b. pure {A = Kd × (List ℕ × (Notes × Maybe))} (a, b)))) (λ a. pure {A = Place × (Kd × (List ℕ × (Notes × Maybe)))} (place_at ts, a))) (λ r. pure (x.declare r.0 r.1.0 r.1.1.0 r.1.1.1.0 r.1.1.1.1))) (sym g)
    where
      regroup : (o : Out (List ℕ × (Notes × Maybe)))
          → and_then o (λ c. pure (x.declare (place_at ts) k c.0 c.1.0 c.1.1))
          ≡ and_then (and_then (and_then o (λ b. pure {A = Kd × (List ℕ × (Notes × Maybe))} (k, b))) (λ a. pure {A = Place × (Kd × (List ℕ × (Notes × Maybe)))} (place_at ts, a))) (λ r. pure (x.declare r.0 r.1.0 r.1.1.0 r.1.1.1.0 r.1.1.1.1))
      regroup (ok c t) = refl
      regroup (bad n) = refl
      regroup (deep n) = refl
