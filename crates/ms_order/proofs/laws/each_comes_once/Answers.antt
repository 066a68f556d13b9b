use Rattle.ms_order.proofs.Needed.{each_declaration_once}
use Rattle.ms_order.proofs.laws.each_comes_once.Goals as goal

pub returns : goal.returns
returns c = each_declaration_once c.each_node_once.ensures
