use Rattle.ms_frames.proofs.Moved.{shows, indexed_pushed, last_indexed}
use Rattle.ms_frames.proofs.accesses.indexed.Goals as goal

pub returns-in-None : goal.returns-in-None
returns-in-None c out here ws = shows out _ _ _ _ _ _ _ (last_indexed out _ here _ c.args.x c.args.i c.args.j _ c.args.subscripts.now _ _ c.in_ok-z.ensures c.in-None.ensures.cases) (c.visit.ensures out _ here ws)

pub returns-in_ok-push-in-Some : goal.returns-in_ok-push-in-Some
returns-in_ok-push-in-Some c out here ws = shows out _ _ _ _ _ _ _ (indexed_pushed out _ _ here _ c.args.x c.args.i c.args.j _ c.args.subscripts _ _ c.in_ok-z.ensures c.in_ok-push-in-Some.ensures.ok) (c.visit-in-Some.ensures out _ here ws)
