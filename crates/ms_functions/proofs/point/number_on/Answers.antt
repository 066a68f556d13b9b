use Rattle.ms_functions.proofs.Points.{number_on_point}
use Rattle.ms_functions.proofs.point.number_on.Goals as goal

pub returns-in-Ok : goal.returns-in-Ok
returns-in-Ok c = rw (c.number_there.ensures, c.in-Ok.ensures) (number_on_point c.hull_laws.ensures.single c.args.point.now c.args.tree.now)
