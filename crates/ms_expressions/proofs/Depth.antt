-- How many more brackets may open, as the code counts.
use Rattle.std.proofs.Common.{◌≡◌, ℕ, zero, suc, ◌+◌, ◌-◌, ◌<◌, ◌≤◌, length, refl, sym, ap, ◌∙◌, subst, arith}
use Rattle.std.specs.Prelude.{pred, Result}
use Rattle.std.specs.declared.alloc.Global.{Global}
use denote.Ref.{MutBor}
use Rattle.ms_syntax.specs.declared.tree.Expr.{Expr}
use Rattle.ms_syntax.specs.Tree.{Ex}
use Rattle.ms_syntax.specs.Grammar.{Tokens}
use Rattle.ms_cursor.specs.declared.stop.Stop.{Stop}
use Rattle.ms_cursor.specs.declared.stop.Stop.TheVariants.{Syntax, Deep, Memory}
use Rattle.ms_expressions.specs.declared.reach.Reach.{Reach}
use Rattle.ms_cursor.specs.Reading.{Out, ok, bad, deep, deeper, Parser, and_then}
use Rattle.ms_cursor.specs.Reads.{Fails}
use Rattle.ms_expressions.specs.Nests.{Nests}
use Rattle.ms_expressions.specs.Rules.{under, reads, nested, inmost, locals, tier, behind}

pub nested_one : (d : ℕ) → (nested (suc d)).1 ≡ under d
unfolding nested under
nested_one d = refl

pub under_reads : (d : ℕ) (c : Reach) → under (suc d) c ≡ reads d (under d) (nested d).1 c
unfolding nested under
under_reads d c = refl

inmost_is : (d : ℕ) → inmost d ≡ (nested d).1
unfolding inmost
inmost_is d = refl

-- one bracket less may open inside
pub under_step : (k d : ℕ) (c : Reach) (ts : Tokens) → k ≡ suc d → under k c ts ≡ reads d (under d) (inmost d) c ts
under_step k d c ts h = ap (λ a. under a c ts) h ∙ ap (λ p. p ts) (under_reads d c) ∙ ap (λ p. reads d (under d) p c ts) (sym (inmost_is d))

pub under_none : (k : ℕ) (c : Reach) (ts : Tokens) → k ≡ 0 → under k c ts ≡ bad (length ts)
unfolding under nested
under_none k c ts h = ap (λ a. under a c ts) h

pub locals_inside : (d k : ℕ) (ts : Tokens) → suc k ≡ d → locals (pred d) (under d) (inmost d) ts ≡ locals k (under (suc k)) (under k) ts
locals_inside d k ts h =
    ap (λ a. locals (pred a) (under a) (inmost a) ts) (sym h) ∙ ap (λ p. locals k (under (suc k)) p ts) (inmost_is (suc k) ∙ nested_one k)

pub nests_less : {d k : ℕ} {pre : Global → MutBor Tokens → ℕ → Reach → Type 0} {post : Global → MutBor Tokens → ℕ → Reach → Result Expr Stop → MutBor Tokens → Type 0} → k ≤ d → Nests d pre post → Nests k pre post
nests_less h n = record { callable = λ alloc old m c l. n.callable alloc old m c (omega (arith, l, h)); reads = n.reads }

-- ---- levels one after the other

-- so many levels were read, up to an operand with the tokens behind it
pub tier_next : (h : ℕ) (operand : Parser Ex) (ts r : Tokens) (first : Ex) → tier h operand ts ≡ ok first r → tier (suc h) operand ts ≡ behind h (tier h operand) first r
unfolding tier
tier_next h operand ts r first e = ap (λ o. and_then o (behind h (tier h operand))) e

pub tier_none : (operand : Parser Ex) (ts : Tokens) → tier 0 operand ts ≡ operand ts
unfolding tier
tier_none operand ts = refl

-- a fault of a level is one of the levels above it
one_above : (n : ℕ) (operand : Parser Ex) (ts : Tokens) (fault : Stop) → Fails (tier n operand ts) fault → Fails (tier (suc n) operand ts) fault
unfolding tier
one_above n operand ts Memory e = tt
one_above n operand ts (Syntax m) e = ap (λ o. and_then o (behind n (tier n operand))) e
one_above n operand ts (Deep m) e = ap (λ o. and_then o (behind n (tier n operand))) e

fault_above : (h k : ℕ) (operand : Parser Ex) (ts : Tokens) (fault : Stop) → Fails (tier h operand ts) fault → Fails (tier (k + h) operand ts) fault
fault_above h zero operand ts fault e = subst (λ n. Fails (tier n operand ts) fault) (omega arith) e
fault_above h (suc k) operand ts fault e = subst (λ n. Fails (tier n operand ts) fault) (omega arith) (one_above (k + h) operand ts fault (fault_above h k operand ts fault e))

pub tier_fails : (h top : ℕ) (operand : Parser Ex) (ts r : Tokens) (first : Ex) (fault : Stop) → h < top → tier h operand ts ≡ ok first r → Fails (behind h (tier h operand) first r) fault → Fails (tier top operand ts) fault
tier_fails h top operand ts r first fault less e g =
    let up : (top - suc h) + suc h ≡ top = omega (arith, less) in
    subst (λ n. Fails (tier n operand ts) fault) up (fault_above (suc h) (top - suc h) operand ts fault (moved fault g))
  where
    moved : (fault : Stop) → Fails (behind h (tier h operand) first r) fault → Fails (tier (suc h) operand ts) fault
    moved Memory g = tt
    moved (Syntax m) g = tier_next h operand ts r first e ∙ g
    moved (Deep m) g = tier_next h operand ts r first e ∙ g

pub operand_fails : (top : ℕ) (operand : Parser Ex) (ts : Tokens) (fault : Stop) → Fails (operand ts) fault → Fails (tier top operand ts) fault
operand_fails top operand ts fault g =
    let up : top + 0 ≡ top = omega arith in
    subst (λ n. Fails (tier n operand ts) fault) up (fault_above 0 top operand ts fault (moved fault g))
  where
    moved : (fault : Stop) → Fails (operand ts) fault → Fails (tier 0 operand ts) fault
    moved Memory g = tt
    moved (Syntax m) g = tier_none operand ts ∙ g
    moved (Deep m) g = tier_none operand ts ∙ g

-- a bracket has opened, so one less may open
pub opened : (d : ℕ) (ts r : Tokens) → deeper d (tt {0}) ts ≡ ok (tt {0}) r → 0 < d
opened zero ts r h = absurd (let wrong : ◌≡◌ {A = Out (Unit {0})} (deep (length ts)) (ok (tt {0}) r) = h in cc)
opened (suc d) ts r h = omega arith
