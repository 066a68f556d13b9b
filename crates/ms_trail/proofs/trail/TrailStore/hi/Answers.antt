use Rattle.ms_trail.proofs.Written.{reads}
use Rattle.ms_trail.proofs.trail.TrailStore.hi.Goals as goal

pub returns-clause-value : goal.returns-clause-value
returns-clause-value c = (reads c.args.self.now c.args.v c.domain.result _ c.domain.ensures).hi_read

pub returns-clause-proper : goal.returns-clause-proper
returns-clause-proper c = (reads c.args.self.now c.args.v c.domain.result _ c.domain.ensures).proper

pub returns-clause-within : goal.returns-clause-within
returns-clause-within c = (reads c.args.self.now c.args.v c.domain.result _ c.domain.ensures).within
