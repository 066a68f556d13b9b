use Rattle.ms_frames.specs.Frames.{back_chain}
use Rattle.ms_frames.proofs.Moved.{shows, links_as}
use Rattle.ms_frames.proofs.chains.linked.Goals as goal

pub returns-in-Left : goal.returns-in-Left
unfolding back_chain
returns-in-Left c out here ws = shows out _ _ _ _ _ _ _ (links_as out _ here c.args.links _ _ _ _ _ _ c.in-Left.is (c.grouping.ensures out here.calls)) (c.paired.ensures out here _ ws)

pub returns-in-Right : goal.returns-in-Right
unfolding back_chain
returns-in-Right c out here ws = shows out _ _ _ _ _ _ _ (links_as out _ here c.args.links _ _ _ _ _ _ c.in-Right.is (c.grouping.ensures out here.calls)) (rw c.new.ensures at (c.concatenated.ensures out here ws))

pub returns-in-Conjunction : goal.returns-in-Conjunction
unfolding back_chain
returns-in-Conjunction c out here ws = shows out _ _ _ _ _ _ _ (links_as out _ here c.args.links _ _ _ _ _ _ c.in-Conjunction.is (c.grouping.ensures out here.calls)) (c.connect.ensures out here _ ws)

pub returns-in-Disjunction : goal.returns-in-Disjunction
unfolding back_chain
returns-in-Disjunction c out here ws = shows out _ _ _ _ _ _ _ (links_as out _ here c.args.links _ _ _ _ _ _ c.in-Disjunction.is (c.grouping.ensures out here.calls)) (c.connect-in-Disjunction.ensures out here _ ws)
