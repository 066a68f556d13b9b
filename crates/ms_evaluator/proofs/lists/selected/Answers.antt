use Rattle.std.proofs.Common.{◌-◌, arith}
use Rattle.ms_trees.specs.Access.{reaches}
use Rattle.ms_evaluator.proofs.Turns.{selected_turn}
use Rattle.ms_evaluator.proofs.lists.selected.Goals as goal

pub loop-place-preserved : goal.loop-place-preserved
loop-place-preserved c = record {
  within = omega (arith, c.loop-place.invariant.within);
  so_far = selected_turn (reaches c.args.access.now) c.args.parts.now c.loop-place.place (c.loop-place.place - 1) c.index-parts-place.result c.loop-place.so_far c.gathered-so_far.result c.reaches.result (omega (arith, c.loop-place-test.true)) (omega (arith, c.loop-place-test.true, c.loop-place.invariant.within)) c.index-parts-place.is c.reaches.ensures c.loop-place.invariant.so_far c.gathered-so_far.ensures;
}
