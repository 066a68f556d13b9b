use Rattle.std.proofs.Common.{◌∙◌}
use Rattle.ms_top.proofs.Absent.{no_notes}
use Rattle.ms_top.proofs.form.has_no_notes.Goals as goal

pub returns : goal.returns
returns c = c.is_empty.ensures ∙ no_notes c.args.notes.now
