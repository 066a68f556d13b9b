-- What the outcome of a statement says.
use Rattle.std.proofs.Common.{◌≡◌, ℕ, [], length}
use Rattle.ms_syntax.specs.Tree.{Ex}
use Rattle.ms_syntax.specs.Grammar.{Tokens, Writes, IsShallow}
use Rattle.ms_expressions.specs.declared.reach.Reach.TheVariants as reach
use Rattle.ms_parser.specs.Answers.{HasAnswer, IsWithin, from_front}
use Rattle.ms_expressions.specs.Rules.{under}
use Rattle.ms_parser.specs.Items.{statement}
use Rattle.ms_parser.proofs.Exact.{Exact, nobody}
use Rattle.ms_parser.proofs.Enclosed.{e_any, nobody_fresh}
use Rattle.ms_parser.proofs.Nested.{under_exact}
use Rattle.std.specs.Prelude.{Result}
use Rattle.ms_syntax.specs.declared.tree.Expr.{Expr}
use Rattle.ms_syntax.specs.Tree.{ex_view}
use Rattle.ms_cursor.specs.declared.stop.Stop.{Stop}
use Rattle.ms_cursor.specs.Reads.{Reads}
use Rattle.ms_parser.proofs.Law as law
use Rattle.ms_parser.proofs.Answered as t

exact : (n : ℕ) → Exact n 200 200 nobody e_any Writes (under 201 reach.Any)
exact n = (under_exact 200 n nobody nobody_fresh).0

pub one_expression : (ts : Tokens) (x y : Ex) → Writes x ts → Writes y ts → IsShallow ts → x ≡ y
one_expression = law.one_value e_any Writes (under 201 reach.Any) exact

pub some_expression : (ts : Tokens) → HasAnswer Writes ts
some_expression = law.some_answer e_any Writes (under 201 reach.Any) exact

pub within : (ts : Tokens) (r : Result Expr Stop) → Reads ex_view (statement ts) r [] → IsWithin (length ts) r
unfolding statement
within = t.within ex_view e_any Writes (under 201 reach.Any) exact

pub answered : (ts : Tokens) (r : Result Expr Stop) → Reads ex_view (statement ts) r [] → t.Answered ex_view Writes ts (from_front (length ts) r)
unfolding statement
answered = t.answered ex_view e_any Writes (under 201 reach.Any) exact
