use Rattle.ms_walk.specs.Around.{outside_of}
use Rattle.ms_walk.proofs.Bodies.{shows}
use Rattle.ms_walk.proofs.Entered.{into_name}
use Rattle.ms_walk.proofs.walk.go_into.Goals as goal

pub returns-in-Name : goal.returns-in-Name
returns-in-Name g c w f ws = shows (outside_of (g.O.Surroundings.around c.args.outside.now) w f) _ _ _ _ _ _ _ (into_name (outside_of (g.O.Surroundings.around c.args.outside.now) w f) c.args.here.now _ _ _ _ _ _ c.in-Name.is) (c.look.ensures w f c.args.frames.now ws)
