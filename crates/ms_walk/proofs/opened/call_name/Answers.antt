use Rattle.ms_walk.proofs.opened.call_name.Goals as goal

pub returns-in-Local : goal.returns-in-Local
returns-in-Local g c = rw c.in-Local.is (c.visit.ensures _ _ _ _)
