use Rattle.ms_boxes.specs.Boxes.{box_of}
use Rattle.ms_session.proofs.Narrowings.{declared_fit, declared_hull}
use Rattle.ms_session.proofs.plain_node.hull_on.Goals as goal

pub hull-requires : goal.hull-requires
hull-requires c = declared_fit (box_of c.args.sets.now) c.args.tree.now c.requires.proper c.requires.fit

pub returns : goal.returns
returns c = declared_hull (box_of c.args.sets.now) c.args.tree.now c.hull.result c.requires.proper c.hull.ensures
