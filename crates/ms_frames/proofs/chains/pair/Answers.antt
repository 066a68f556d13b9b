use Rattle.ms_frames.proofs.Moved.{shows, last_pair, pair_pushed}
use Rattle.ms_frames.proofs.chains.pair.Goals as goal

pub returns-in-None : goal.returns-in-None
returns-in-None c out here ws = shows out _ _ _ _ _ _ _ (last_pair out _ here _ _ _ _ _ _ c.args.links _ _ c.in_ok-z.ensures c.in-None.ensures.cases) (c.visit.ensures out _ here ws)

pub returns-in_ok-push-in-Some : goal.returns-in_ok-push-in-Some
returns-in_ok-push-in-Some c out here ws = shows out _ _ _ _ _ _ _ (pair_pushed out _ _ here _ _ _ _ _ _ c.args.links _ _ c.in_ok-z.ensures c.in_ok-push-in-Some.ensures.ok) (c.visit-in-Some.ensures out _ here ws)
