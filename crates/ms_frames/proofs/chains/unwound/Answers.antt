use Rattle.ms_frames.proofs.Moved.{shows, unwound_more}
use Rattle.ms_frames.proofs.chains.unwound.Goals as goal

pub returns : goal.returns
returns c out here ws = shows out _ _ _ _ _ _ _ (unwound_more out _ _ here _ c.in-Some.last _ _ _ _ _ _ c.in-Some.ensures c.in_ok-z-in-Some.ensures c.in_ok-push-in-Some.ensures.ok) (c.visit.ensures out _ here ws)
