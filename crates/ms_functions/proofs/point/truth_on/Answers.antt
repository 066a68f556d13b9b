use Rattle.ms_functions.proofs.Points.{truth_on_point}
use Rattle.ms_functions.proofs.point.truth_on.Goals as goal

pub returns-in-Ok : goal.returns-in-Ok
returns-in-Ok c = rw (c.truth_there.ensures, c.in-Ok.ensures) (truth_on_point c.hull_laws.ensures.single c.args.point.now c.args.tree.now)
