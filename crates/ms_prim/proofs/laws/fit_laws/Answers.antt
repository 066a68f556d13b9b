use Rattle.ms_prim.proofs.SharedSorts.{fit_sorted, smaller_fit}
use Rattle.ms_prim.proofs.laws.fit_laws.Goals as goal

pub returns-clause-sorted : goal.returns-clause-sorted
returns-clause-sorted c = fit_sorted

pub returns-clause-smaller : goal.returns-clause-smaller
returns-clause-smaller c = smaller_fit c.hull_laws.ensures.well_formed
