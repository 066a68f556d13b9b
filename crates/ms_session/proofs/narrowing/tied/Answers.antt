use Rattle.ms_num.specs.Sets.{spans_of}
use Rattle.ms_boxes.specs.Boxes.{box_of}
use Rattle.ms_session.proofs.Narrowings.{tied_by}
use Rattle.ms_session.proofs.narrowing.tied.Goals as goal

pub returns : goal.returns
returns c = tied_by c.hull_laws.ensures.smaller c.hull_laws.ensures.single c.hull_laws.ensures.well_formed (spans_of (box_of c.args.sets.now)) c.args.part.now c.args.tree.now c.in-Some.variable c.args.relation c.in_ok-hull.hull c.requires.fit c.requires.number c.in-Some.ensures c.in_ok-hull.ensures
