use Rattle.ms_order.proofs.Needed.{one_declaration_order}
use Rattle.ms_order.proofs.laws.one_order.Goals as goal

pub returns : goal.returns
returns c = one_declaration_order c.one_postorder.ensures
