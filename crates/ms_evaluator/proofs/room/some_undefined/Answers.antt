use Rattle.std.proofs.Common.{◌∙◌}
use Rattle.ms_evaluator.proofs.Turns.{undefined_any}
use Rattle.ms_evaluator.proofs.room.some_undefined.Goals as goal

pub returns : goal.returns
returns c = c.some_marked.ensures ∙ undefined_any c.args.parts.now
