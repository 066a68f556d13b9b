use Rattle.ms_walk.proofs.walk.placed.Goals as goal

pub returns : goal.returns
returns g c = (c.place.new.left, c.place.ensures)
