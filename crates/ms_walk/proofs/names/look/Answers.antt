use Rattle.ms_walk.specs.Around.{outside_of}
use Rattle.ms_walk.proofs.names.look.Goals as goal

pub returns : goal.returns
returns g c w f frames ws = rw (c.in_ok-x.ensures w f) at (c.visit.ensures (outside_of (g.O.Surroundings.around c.args.outside.now) w f) frames c.args.here.now ws)
