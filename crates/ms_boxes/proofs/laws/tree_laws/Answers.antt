use Rattle.ms_boxes.proofs.SharedFitting.{fit_on_box, refuted_none}
use Rattle.ms_boxes.proofs.laws.tree_laws.Goals as goal

pub returns-clause-fit : goal.returns-clause-fit
returns-clause-fit c = fit_on_box c.hull_laws.ensures.well_formed

pub returns-clause-refuted : goal.returns-clause-refuted
returns-clause-refuted c = refuted_none c.hull_laws.ensures.refuted
