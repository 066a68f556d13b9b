use Rattle.std.proofs.Common.{◌≡◌, ◌++◌, take, drop, map}
use Rattle.ms_session.specs.Frames.{spent_frame}
use Rattle.ms_session.proofs.budget.spend_all.Given as goal

abbrev pub invariant-loop-frame : goal.invariant-loop-frame
invariant-loop-frame l = l.frames ≡ map spent_frame (take l.frame-index l.fn.frames) ++ drop l.frame-index l.fn.frames
