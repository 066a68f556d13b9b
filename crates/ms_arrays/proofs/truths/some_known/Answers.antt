use Rattle.std.proofs.Common.{◌∙◌, length}
use Rattle.ms_arrays.proofs.Lists.{any_is, any_of_none}
use Rattle.ms_arrays.proofs.truths.some_known.Goals as goal

pub returns-in-Numbers : goal.returns-in-Numbers
returns-in-Numbers c = rw c.in-Numbers.is (any_of_none (length c.in-Numbers.field-0))

pub returns-in-Truths : goal.returns-in-Truths
returns-in-Truths c = rw c.in-Truths.is (rw c.as_slice.ensures at c.some_true.ensures ∙ any_is c.in-Truths.truths)
