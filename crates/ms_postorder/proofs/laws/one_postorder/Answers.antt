use Rattle.ms_postorder.proofs.Orders.{one_order}
use Rattle.ms_postorder.proofs.laws.one_postorder.Goals as goal

pub returns : goal.returns
returns c = one_order
