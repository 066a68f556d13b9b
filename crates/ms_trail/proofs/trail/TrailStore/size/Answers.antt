use Rattle.ms_trail.proofs.Written.{reads}
use Rattle.ms_trail.proofs.trail.TrailStore.size.Goals as goal

pub returns : goal.returns
returns c = (reads c.args.self.now c.args.v c.domain.result _ c.domain.ensures).size
