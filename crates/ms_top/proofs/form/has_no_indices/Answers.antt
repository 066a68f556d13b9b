use Rattle.std.proofs.Common.{◌∙◌}
use Rattle.ms_top.proofs.Absent.{no_indices}
use Rattle.ms_top.proofs.form.has_no_indices.Goals as goal

pub returns : goal.returns
returns c = c.is_empty.ensures ∙ no_indices c.args.indices.now
