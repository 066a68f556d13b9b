use Rattle.ms_prim.proofs.SharedCuts.{narrows_cut, fails_cut, narrows_same, narrows_then, fails_then, narrowed_proper, narrowed_fit}
use Rattle.ms_prim.proofs.laws.cut_laws.Goals as goal

pub returns-clause-cuts : goal.returns-clause-cuts
returns-clause-cuts c = narrows_cut

pub returns-clause-emptied : goal.returns-clause-emptied
returns-clause-emptied c = fails_cut

pub returns-clause-same : goal.returns-clause-same
returns-clause-same c = narrows_same

pub returns-clause-follow : goal.returns-clause-follow
returns-clause-follow c = narrows_then

pub returns-clause-failures : goal.returns-clause-failures
returns-clause-failures c = fails_then

pub returns-clause-proper : goal.returns-clause-proper
returns-clause-proper c = narrowed_proper

pub returns-clause-fit : goal.returns-clause-fit
returns-clause-fit c = narrowed_fit c.hull_laws.ensures.well_formed
