use Rattle.ms_frames.proofs.Moved.{shows, by_known, by_search, by_variable}
use Rattle.ms_frames.proofs.choices.conditioned.Goals as goal

pub returns-in-Known : goal.returns-in-Known
returns-in-Known c out here place n ws = shows out _ _ _ _ _ _ _ (by_known out _ here c.args.arm c.args.arms c.args.last place _ _ _ _ c.in-Known.is c.truth.ensures) (c.taken.ensures out here n ws)

pub returns-in-Search : goal.returns-in-Search
returns-in-Search c out here place n ws = shows out _ _ _ _ _ _ _ (by_search out _ here c.args.arm c.args.arms c.args.last place _ _ _ _ c.in-Search.is c.truth-in-Search.ensures) (c.taken-in-Search.ensures out here n ws)

pub returns-in_ok-push-in-Variable : goal.returns-in_ok-push-in-Variable
returns-in_ok-push-in-Variable c out here place n ws = by_variable out _ _ here c.args.arm c.args.arms c.args.last place _ _ _ c.in-Variable.is c.in_ok-push-in-Variable.ensures.ok
