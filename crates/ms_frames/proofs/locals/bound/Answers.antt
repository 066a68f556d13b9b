use Rattle.ms_frames.proofs.Moved.{shows, bound_pushed}
use Rattle.ms_frames.proofs.locals.bound.Goals as goal

pub returns : goal.returns
returns c out n ws = shows out _ _ _ _ _ _ _ (bound_pushed out _ _ c.args.here.now _ c.args.body _ _ _ _ c.in_ok-push.ensures.ok c.in_ok-push-2.ensures.ok) (c.bind.ensures out _ n ws)
