use Rattle.std.proofs.Common.{◌≡◌}
use Rattle.ms_placing.specs.Placing.{Places}
use Rattle.ms_walk.specs.Around.{outside_of}
use Rattle.ms_frames.specs.Frames.{goes}
use Rattle.ms_walk.proofs.walk.place.Given as goal

abbrev pub invariant-walk : goal.invariant-walk
invariant-walk g l =
    Places (outside_of (g.O.Surroundings.around l.outside) g.W.Words.word_of g.W.Words.after) l.fn.names l.e l.fn.left (g.W.Words.state l.fn.words)
    ≡ goes (outside_of (g.O.Surroundings.around l.outside) g.W.Words.word_of g.W.Words.after) l.frames l.here l.task l.left (g.W.Words.state l.words)
