use Rattle.ms_walk.specs.Around.{outside_of}
use Rattle.ms_walk.proofs.walk.step.Goals as goal

pub returns-in-Enter : goal.returns-in-Enter
returns-in-Enter g c = rw c.in-Enter.is (c.go_into.ensures g.W.Words.word_of g.W.Words.after (g.W.Words.state c.args.words.now))

pub returns-in-Look : goal.returns-in-Look
returns-in-Look g c = rw c.in-Look.is (c.look.ensures g.W.Words.word_of g.W.Words.after c.args.frames.now (g.W.Words.state c.args.words.now))

pub returns-in-Turn : goal.returns-in-Turn
returns-in-Turn g c = rw c.in-Turn.is (rw c.into_inner.ensures at (c.turn.ensures (outside_of (g.O.Surroundings.around c.args.outside.now) g.W.Words.word_of g.W.Words.after) (g.W.Words.state c.args.words.now)))
