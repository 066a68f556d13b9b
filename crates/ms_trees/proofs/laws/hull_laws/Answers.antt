use Rattle.ms_trees.proofs.Smaller.{reach_on_smaller}
use Rattle.ms_trees.proofs.Exact.{reach_on_point}
use Rattle.ms_trees.proofs.Refutes.{smaller_fits, refuted_unmet}
use Rattle.ms_trees.proofs.laws.hull_laws.Goals as goal

pub returns-clause-smaller : goal.returns-clause-smaller
returns-clause-smaller c = reach_on_smaller

pub returns-clause-single : goal.returns-clause-single
returns-clause-single c = reach_on_point

pub returns-clause-well_formed : goal.returns-clause-well_formed
returns-clause-well_formed c = smaller_fits

pub returns-clause-refuted : goal.returns-clause-refuted
returns-clause-refuted c = refuted_unmet
