use Rattle.ms_evaluator.proofs.Turns.{certain_possible}
use Rattle.ms_evaluator.proofs.lists.count.Goals as goal

pub counted-requires : goal.counted-requires
counted-requires c = rw (c.certain.ensures, c.possible.ensures) (certain_possible c.args.y.interval c.args.parts.now)
