use Rattle.std.proofs.Common.{subst, sym}
use Rattle.ms_trees.specs.WellFormed.{IsTruth}
use Rattle.ms_session_tests.specs.Samples.{square}
use Rattle.ms_session_tests.proofs.Sampled.{square_read}
use Rattle.ms_session_tests.proofs.tests.all_hold.Goals as goal

pub holds-requires : goal.holds-requires
holds-requires c = square_read c.hull_laws.ensures.well_formed c.from.result c.from-2.result c.args.x c.args.y c.from.ensures c.from-2.ensures c.requires.x c.requires.y c.constraint-item.result (subst (IsTruth square) (sym c.constraint-item.is) (c.requires.fit c.loop-constraint.constraint-index c.constraint-item.result c.loop-constraint-test.true))
