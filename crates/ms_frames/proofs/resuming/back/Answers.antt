use Rattle.std.proofs.Common.{refl}
use Rattle.ms_frames.specs.Frames.{back}
use Rattle.ms_frames.proofs.resuming.back.Goals as goal

pub returns-in-Convert : goal.returns-in-Convert
unfolding back
returns-in-Convert c out ws = rw c.in-Convert.is (c.converted.ensures out _ _ _ ws)

pub returns-in_ok-y-in-Prefix : goal.returns-in_ok-y-in-Prefix
unfolding back
returns-in_ok-y-in-Prefix c out ws = rw c.in-Prefix.is (rw c.in_ok-y-in-Prefix.ensures at (c.visit.ensures out c.args.frames.now c.args.here.now ws))

pub returns-in-Node : goal.returns-in-Node
unfolding back
returns-in-Node c out ws = rw c.in-Node.is (c.visit-in-Node.ensures out _ _ ws)

pub returns-in-Chain : goal.returns-in-Chain
unfolding back
returns-in-Chain c out ws = rw c.in-Chain.is (c.back_chain.ensures out _ ws)

pub returns-in-Access : goal.returns-in-Access
unfolding back
returns-in-Access c out ws = rw c.in-Access.is (c.back_access.ensures out _ ws)

pub returns-in-Argument : goal.returns-in-Argument
unfolding back
returns-in-Argument c out ws = rw c.in-Argument.is (c.argue.ensures out _ _ ws)

pub returns-in-Element : goal.returns-in-Element
unfolding back
returns-in-Element c out ws = rw c.in-Element.is (c.gain.ensures out _ _ _ ws)

pub returns-in-Choice : goal.returns-in-Choice
unfolding back
returns-in-Choice c out ws = rw c.in-Choice.is (c.back_choice.ensures out _ _ ws)

pub returns-in-Bound : goal.returns-in-Bound
unfolding back
returns-in-Bound c out ws = rw c.in-Bound.is (c.bound.ensures out _ ws)

pub returns-in-Unbound : goal.returns-in-Unbound
unfolding back
returns-in-Unbound c out ws = rw (c.in-Unbound.is, c.leave.ensures) refl

pub returns-in-Return : goal.returns-in-Return
unfolding back
returns-in-Return c out ws = rw c.in-Return.is (c.visit-in-Return.ensures out _ c.in-Return.old ws)

pub returns-in-Made : goal.returns-in-Made
unfolding back
returns-in-Made c out ws = rw c.in-Made.is (c.back_making.ensures out _ c.args.place _ ws)
