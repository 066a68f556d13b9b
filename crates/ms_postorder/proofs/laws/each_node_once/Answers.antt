use Rattle.ms_postorder.proofs.Orders.{each_once}
use Rattle.ms_postorder.proofs.laws.each_node_once.Goals as goal

pub returns : goal.returns
returns c = each_once
