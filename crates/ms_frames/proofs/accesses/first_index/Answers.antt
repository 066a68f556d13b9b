use Rattle.ms_frames.proofs.Moved.{shows, one_index, two_indices}
use Rattle.ms_frames.proofs.accesses.first_index.Goals as goal

pub returns-in-None : goal.returns-in-None
returns-in-None c out here ws = shows out _ _ _ _ _ _ _ (one_index out _ here _ _ _ _ c.args.subscript c.args.subscripts _ _ c.in-None.is) (c.indexed.ensures out here ws)

pub returns-in_ok-push-in-Some : goal.returns-in_ok-push-in-Some
returns-in_ok-push-in-Some c out here ws = two_indices out _ _ here _ _ _ _ c.args.subscript c.args.subscripts _ _ _ _ c.in-Some.is c.get-second.ensures (rw c.in_ok-x-in-Some.ensures at c.in_ok-push-in-Some.ensures.ok)
