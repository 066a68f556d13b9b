use Rattle.ms_order.proofs.Needed.{read_declarations_first}
use Rattle.ms_order.proofs.laws.read_come_first.Goals as goal

pub returns : goal.returns
returns c = read_declarations_first c.targets_first.ensures
