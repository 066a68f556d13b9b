use Rattle.std.proofs.Common.{◌∙◌}
use Rattle.ms_arrays.proofs.Lists.{all_are}
use Rattle.ms_arrays.proofs.truths.all_known.Goals as goal

pub returns-in-Truths : goal.returns-in-Truths
returns-in-Truths c = rw c.in-Truths.is (rw c.as_slice.ensures at c.all_true.ensures ∙ all_are c.in-Truths.truths)
