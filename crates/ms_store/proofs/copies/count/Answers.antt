use Rattle.ms_num.proofs.SharedSets.{ranges_is_set}
use Rattle.ms_store.proofs.copies.count.Goals as goal

pub returns-clause-proper : goal.returns-clause-proper
returns-clause-proper c = λ some. ranges_is_set c.args.set.now c.ranges-ranges.ensures.proper some
