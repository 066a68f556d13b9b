use Rattle.ms_frames.proofs.Moved.{accessed_more}
use Rattle.ms_frames.proofs.accesses.accessed.Goals as goal

pub returns-in_ok-push-in-Some : goal.returns-in_ok-push-in-Some
returns-in_ok-push-in-Some c out here n ws = accessed_more out _ _ here _ c.in-Some.subscript c.in-Some.rest _ _ _ _ _ c.in-Some.ensures.cases.0 c.in_ok-push-in-Some.ensures.ok
