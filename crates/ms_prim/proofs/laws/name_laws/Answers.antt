use Rattle.ms_prim.proofs.SharedNames.{values_same, enclosures_same, settled_same}
use Rattle.ms_prim.proofs.laws.name_laws.Goals as goal

pub returns-clause-values : goal.returns-clause-values
returns-clause-values c = values_same

pub returns-clause-enclosures : goal.returns-clause-enclosures
returns-clause-enclosures c = enclosures_same

pub returns-clause-settled : goal.returns-clause-settled
returns-clause-settled c = settled_same
