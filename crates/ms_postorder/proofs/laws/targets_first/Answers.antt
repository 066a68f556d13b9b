use Rattle.ms_postorder.proofs.Orders.{targets_before}
use Rattle.ms_postorder.proofs.laws.targets_first.Goals as goal

pub returns : goal.returns
returns c = targets_before
