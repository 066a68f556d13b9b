use Rattle.ms_num.proofs.SharedQuotients.{div_least}
use Rattle.ms_num.proofs.iv.Iv.div_hull.Goals as goal

pub returns-clause-value : goal.returns-clause-value
returns-clause-value c = rw (c.join_some.ensures, c.quotients-below.ensures.value, c.quotients-above.ensures.value, c.negative_part.ensures.value, c.positive_part.ensures.value)

pub returns-clause-least : goal.returns-clause-least
returns-clause-least c = rw (returns-clause-value c) (div_least c.args.self c.args.other c.quotients-below.ensures.ordered c.negative_part.ensures.ordered)
