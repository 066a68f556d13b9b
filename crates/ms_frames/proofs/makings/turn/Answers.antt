use Rattle.std.proofs.Common.{refl}
use Rattle.ms_frames.proofs.Moved.{shows, turns_held}
use Rattle.ms_frames.proofs.makings.turn.Goals as goal

pub returns : goal.returns
returns c out ws = shows out _ _ _ _ _ _ _ (turns_held out c.args.here.now c.args.making _ c.args.turn _ _ _ _ _ _ _ _ _ c.in-Some.ensures c.in_ok-tick-in-Some.ensures refl c.in_ok-begin-in-Some.ensures c.in_ok-push-in-Some.ensures.ok c.in_ok-next-in-Some.ensures) (c.deeper.ensures out _ _ ws)
