use Rattle.ms_syntax.specs.Tree.{index_view}
use Rattle.ms_names.proofs.kinds.shape_of_indices.Goals as goal

pub returns-in-Some : goal.returns-in-Some
returns-in-Some c = rw c.in-Some.ensures.cases.0 (c.shape_with.ensures (index_view c.in-Some.field-0-0.now))
