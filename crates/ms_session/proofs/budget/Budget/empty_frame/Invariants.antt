use Rattle.std.proofs.Common.{◌≡◌, drop}
use Rattle.ms_session.specs.Frames.{empty_from}
use Rattle.ms_session.proofs.budget.Budget.empty_frame.Given as goal

abbrev pub invariant-loop-i : goal.invariant-loop-i
invariant-loop-i l = empty_from l.i (drop l.i l.frame-items) ≡ empty_from 0 l.frame-items
