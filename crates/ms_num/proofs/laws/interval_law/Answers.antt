use Rattle.ms_num.proofs.LeastIntervals.{intervals_are_least}
use Rattle.ms_num.proofs.laws.interval_law.Goals as goal

pub returns : goal.returns
returns c = intervals_are_least
