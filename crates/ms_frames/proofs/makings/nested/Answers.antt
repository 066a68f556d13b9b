use Rattle.ms_frames.proofs.Moved.{shows, none_nested, nested_more}
use Rattle.ms_frames.proofs.makings.nested.Goals as goal

pub returns-in-None : goal.returns-in-None
returns-in-None c out here n ws = shows out _ _ _ _ _ _ _ (none_nested out _ c.args.making.plan _ _ _ _ _ _ c.in-None.ensures.cases) (c.test.ensures out here n ws)

pub returns-in_ok-push-in-Some : goal.returns-in_ok-push-in-Some
returns-in_ok-push-in-Some c out here n ws = nested_more out _ _ here c.args.making _ c.in-Some.generator c.in-Some.rest _ _ c.in-Some.ensures.cases.0 c.in_ok-push-in-Some.ensures.ok
