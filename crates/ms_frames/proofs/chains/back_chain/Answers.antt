use Rattle.ms_frames.specs.Frames.{back_chain}
use Rattle.ms_frames.proofs.chains.back_chain.Goals as goal

pub returns-in-Pairs : goal.returns-in-Pairs
unfolding back_chain
returns-in-Pairs c out here ws = rw c.in-Pairs.is (c.paired.ensures out here _ ws)

pub returns-in-Right : goal.returns-in-Right
unfolding back_chain
returns-in-Right c out here ws = rw c.in-Right.is (c.pair.ensures out here ws)

pub returns-in-Operand : goal.returns-in-Operand
unfolding back_chain
returns-in-Operand c out here ws = rw c.in-Operand.is (c.junction.ensures out here ws)

pub returns-in-Behind : goal.returns-in-Behind
unfolding back_chain
returns-in-Behind c out here ws = rw c.in-Behind.is (c.concatenated.ensures out here ws)

pub returns-in-Whole : goal.returns-in-Whole
unfolding back_chain
returns-in-Whole c out here ws = rw c.in-Whole.is (c.unwound.ensures out here ws)
