use Rattle.ms_frames.proofs.makings.generate.Goals as goal

pub returns : goal.returns
returns c out here n ws = rw (c.in_ok-making.ensures, c.new.ensures, c.empty.ensures, c.kind_of_type.ensures) at (c.nested.ensures out here n ws)
