use Rattle.ms_frames.proofs.Moved.{shows, none_filled, filled_more}
use Rattle.ms_frames.proofs.elements.fill.Goals as goal

pub returns-in-None : goal.returns-in-None
returns-in-None c out here ws = shows out _ _ _ _ _ _ _ (none_filled out here c.args.end c.args.cells _ _ _ _ c.in-None.ensures.cases) (rw (c.into_inner.ensures, c.into_inner-in-None.ensures) at (c.ended.ensures out c.args.frames.now here ws))

pub returns-in_ok-push-in-Some : goal.returns-in_ok-push-in-Some
returns-in_ok-push-in-Some c out here ws = filled_more out _ _ here c.args.end _ _ c.in-Some.first c.in-Some.rest _ _ c.in-Some.ensures.cases.0 c.in_ok-push-in-Some.ensures.ok
