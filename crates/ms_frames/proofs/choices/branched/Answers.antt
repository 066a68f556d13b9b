use Rattle.ms_frames.proofs.Moved.{shows, branch_pushed}
use Rattle.ms_frames.proofs.choices.branched.Goals as goal

pub returns : goal.returns
returns c out here place n ws = shows out _ _ _ _ _ _ _ (branch_pushed out _ _ here _ _ c.args.arms c.args.last place _ _ (rw c.in_ok-condition.ensures at c.in_ok-push.ensures.ok)) (c.choose_arm.ensures out here n ws)
