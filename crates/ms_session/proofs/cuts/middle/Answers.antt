use Rattle.ms_session.proofs.PartsOfSets.{middle_read}
use Rattle.ms_session.proofs.cuts.middle.Goals as goal

pub returns-clause-value : goal.returns-clause-value
returns-clause-value c = middle_read c.args.iv c.lo-lo.result c.hi-hi.result c.lo-lo.ensures.within c.lo-lo.ensures.value c.hi-hi.ensures.value
