use Rattle.ms_io.proofs.Known.{HasTaken}
use Rattle.ms_io.proofs.std_sink.write_whole.Given as goal

abbrev pub invariant-loop : goal.invariant-loop
invariant-loop g l = HasTaken (g.W.Write.contents l.initial.writer) (g.W.Write.contents l.writer) l.fn.piece l.rest
