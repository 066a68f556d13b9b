use Rattle.std.proofs.Common.{rules}
use Rattle.std.proofs.lemmas.List.Edits.{map_over_more}
use Rattle.ms_session.specs.Frames.{spent_frame}
use Rattle.ms_session.proofs.budget.spend_all.Goals as goal

pub loop-frame-preserved : goal.loop-frame-preserved
loop-frame-preserved c = search (rules, map_over_more spent_frame)
