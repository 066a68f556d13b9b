use Rattle.ms_frames.proofs.Moved.{gathered_more}
use Rattle.ms_frames.proofs.elements.gather.Goals as goal

pub returns-in_ok-push-in-Some : goal.returns-in_ok-push-in-Some
returns-in_ok-push-in-Some c out here n ws = gathered_more out _ _ here _ _ _ _ c.in-Some.first c.in-Some.rest _ _ c.in-Some.ensures.cases.0 c.in_ok-push-in-Some.ensures.ok
