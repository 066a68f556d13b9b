use Rattle.ms_session.proofs.Nexts.{nodes_keep_valid, next_keeps_valid}
use Rattle.ms_session.proofs.laws.validity_laws.Goals as goal

pub returns-clause-node : goal.returns-clause-node
returns-clause-node c = nodes_keep_valid

pub returns-clause-next : goal.returns-clause-next
returns-clause-next c = next_keeps_valid
