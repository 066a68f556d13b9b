use Rattle.std.proofs.Common.{sym}
use Rattle.ms_evaluator.proofs.Turns.{longer}
use Rattle.ms_evaluator.proofs.lists.admit_row.Goals as goal

pub returns-then-parts-row : goal.returns-then-parts-row
returns-then-parts-row c = sym (longer c.args.parts.now c.args.row.now c.if-parts-row.true)
