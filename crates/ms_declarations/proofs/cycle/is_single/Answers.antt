use Rattle.ms_declarations.proofs.Cycles.{several}
use Rattle.ms_declarations.proofs.cycle.is_single.Goals as goal

pub returns-in-len1-up : goal.returns-in-len1-up
returns-in-len1-up c = several c.args.indices.now c.in-len1-up.len_at_least
