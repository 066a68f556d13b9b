use Rattle.ms_prim.proofs.SharedSettled.{refuted_fails, settled_meets}
use Rattle.ms_prim.proofs.laws.settled_laws.Goals as goal

pub returns-clause-refuted : goal.returns-clause-refuted
returns-clause-refuted c = refuted_fails c.hull_laws.ensures.well_formed c.node_laws.ensures.smaller c.node_laws.ensures.single

pub returns-clause-single : goal.returns-clause-single
returns-clause-single c = settled_meets c.node_laws.ensures.single
