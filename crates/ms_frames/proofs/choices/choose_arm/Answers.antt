use Rattle.ms_frames.proofs.Moved.{chosen_more}
use Rattle.ms_frames.proofs.choices.choose_arm.Goals as goal

pub returns-in_ok-push-in-Some : goal.returns-in_ok-push-in-Some
returns-in_ok-push-in-Some c out here n ws = chosen_more out _ _ here _ c.in-Some.arm c.in-Some.rest c.args.last _ _ c.in-Some.ensures.cases.0 c.in_ok-push-in-Some.ensures.ok
