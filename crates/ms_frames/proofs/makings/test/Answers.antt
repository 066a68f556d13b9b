use Rattle.ms_frames.proofs.Moved.{untested, tests}
use Rattle.ms_frames.proofs.makings.test.Goals as goal

pub returns-in_ok-push-in-None : goal.returns-in_ok-push-in-None
returns-in_ok-push-in-None c out here n ws = rw c.plan-plan.ensures (untested out _ _ here c.args.making _ _ (rw c.plan-plan.ensures at c.in-None.is) c.in_ok-push-in-None.ensures.ok)

pub returns-in_ok-push-in-Some : goal.returns-in_ok-push-in-Some
returns-in_ok-push-in-Some c out here n ws = tests out _ _ here c.args.making c.in-Some.condition _ _ (rw c.plan-plan.ensures at c.in-Some.is) c.in_ok-push-in-Some.ensures.ok
