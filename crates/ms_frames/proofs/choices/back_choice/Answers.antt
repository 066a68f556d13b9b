use Rattle.std.proofs.Common.{refl}
use Rattle.ms_frames.specs.Frames.{back_choice}
use Rattle.ms_frames.proofs.choices.back_choice.Goals as goal

pub returns-in-Condition : goal.returns-in-Condition
unfolding back_choice
returns-in-Condition c out here n ws = rw c.in-Condition.is (c.conditioned.ensures out here c.args.place n ws)

pub returns-in-Branch : goal.returns-in-Branch
unfolding back_choice
returns-in-Branch c out here n ws = rw c.in-Branch.is (c.branched.ensures out here c.args.place n ws)

pub returns-in_ok-choose-in-Other : goal.returns-in_ok-choose-in-Other
unfolding back_choice
returns-in_ok-choose-in-Other c out here n ws = rw (c.in-Other.is, c.in_ok-choose-in-Other.ensures, c.into_inner.ensures) refl
