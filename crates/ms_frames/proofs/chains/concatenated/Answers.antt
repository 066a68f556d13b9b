use Rattle.ms_frames.proofs.Moved.{concatenated_more}
use Rattle.ms_frames.proofs.chains.concatenated.Goals as goal

pub returns-in_ok-push-in-Some-2 : goal.returns-in_ok-push-in-Some-2
returns-in_ok-push-in-Some-2 c out here ws = concatenated_more out _ _ here _ _ _ _ c.in-Some.rest _ _ _ _ c.in-Some.ensures.cases.0 c.in_ok-push-in-Some.ensures.ok c.in_ok-push-in-Some-2.ensures.ok
