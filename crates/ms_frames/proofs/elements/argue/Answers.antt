use Rattle.ms_frames.proofs.elements.argue.Goals as goal

pub returns : goal.returns
returns c out here n ws = rw c.in_ok-push.ensures.ok at (c.gather.ensures out here n ws)
