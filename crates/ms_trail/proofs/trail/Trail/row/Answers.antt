use Rattle.std.proofs.Common.{sym}
use Rattle.ms_trail.specs.Trailed.{no_slot}
use Rattle.ms_trail.proofs.trail.Trail.row.Goals as goal

pub returns-clause-value : goal.returns-clause-value
returns-clause-value c = rw (← c.self.view_is) (sym (c.row.ensures.value no_slot))
