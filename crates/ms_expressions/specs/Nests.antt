-- Function values that read expressions, and what a turn of a list stands for.
use Rattle.std.specs.Prelude.{◌≡◌, ◌≤◌, ℕ, Result}
use Rattle.std.specs.declared.alloc.Global.{Global}
use denote.Ref.{MutBor}
use Rattle.ms_syntax.specs.declared.tree.Expr.{Expr}
use Rattle.ms_syntax.specs.Tree.{ex_view}
use Rattle.ms_syntax.specs.Grammar.{Tokens}
use Rattle.ms_cursor.specs.declared.stop.Stop.{Stop}
use Rattle.ms_cursor.specs.Reads.{Reads}
use Rattle.ms_expressions.specs.declared.reach.Reach.{Reach}
use Rattle.ms_expressions.specs.Rules.{under, Turn, item, last}
use Rattle.ms_expressions.specs.declared.turn.Turn.{Turn as Ends}

-- a function value that reads an expression where so many brackets may open, or fewer
pub record Nests (depth : ℕ) (pre : Global → MutBor Tokens → ℕ → Reach → Type 0) (post : Global → MutBor Tokens → ℕ → Reach → Result Expr Stop → MutBor Tokens → Type 0) : Type 0 where
  pub callable : (alloc : Global) (old : MutBor Tokens) (n : ℕ) (reach : Reach) → n ≤ depth → pre alloc old n reach
  pub reads : (alloc : Global) (old new : MutBor Tokens) (n : ℕ) (reach : Reach) (r : Result Expr Stop) → post alloc old n reach r new → Reads ex_view (under n reach old.now) r new.now

abbrev pub turn_view : {X A : Type 0} → (X → A) → Ends X → Turn A
turn_view view (Ends.Item x) = item (view x)
turn_view view (Ends.Last c) = last c
