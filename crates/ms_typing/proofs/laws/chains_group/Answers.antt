use Rattle.ms_typing.proofs.Chains.{chains_group}
use Rattle.ms_typing.proofs.laws.chains_group.Goals as goal

pub returns : goal.returns
returns c = record { pairs = chains_group }
