use Rattle.std.proofs.Common.{sym}
use Rattle.ms_cells.proofs.Reaching.{forgotten_below, forgotten_none}
use Rattle.ms_cells.proofs.cells.forget_from.Goals as goal

pub returns-then-count-reach-clause-reach : goal.returns-then-count-reach-clause-reach
returns-then-count-reach-clause-reach g c = forgotten_below c.args.count c.args.taken.now.items _ c.forget.ensures

pub returns-else-count-reach-clause-taken : goal.returns-else-count-reach-clause-taken
returns-else-count-reach-clause-taken g c = sym (forgotten_none c.args.reach.now c.args.count c.args.taken.now.items c.if-count-reach.false c.requires.few c.requires.known)
