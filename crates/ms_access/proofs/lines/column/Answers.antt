use Rattle.ms_access.proofs.Columns.{one_more}
use Rattle.ms_access.proofs.lines.column.Goals as goal

pub loop-preserved : goal.loop-preserved
loop-preserved g c = one_more c.args.width c.args.at c.args.rows c.loop.counter _ c.loop.rest.now c.loop.copied c.behind-rest.result.now c.push_at.new.copied c.loop-test.true c.in_ok-push_at.ensures c.behind-rest.ensures c.loop.invariant
