use Rattle.ms_access.proofs.Columns.{nothing_more}
use Rattle.ms_access.proofs.lines.push_at.Goals as goal

pub returns-in-None : goal.returns-in-None
returns-in-None g c = nothing_more c.args.copied.now c.args.elements.now c.args.at c.in-None.ensures.lookup.3
