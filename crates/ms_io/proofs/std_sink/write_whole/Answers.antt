use Rattle.ms_io.proofs.Known.{HasTaken-more, HasTaken-kept, HasTaken-prefix, take-drop_rest}
use Rattle.ms_io.proofs.std_sink.write_whole.Goals as goal
use Rattle.ms_io.proofs.std_sink.write_whole.Goals.{in-Ok, in-Err}

pub returns-in-Ok-eq0-clause-err : goal.returns-in-Ok-eq0-clause-err
returns-in-Ok-eq0-clause-err g c =
    HasTaken-prefix _ _ _ _ (HasTaken-more _ _ _ _ _ _ c.loop.invariant (rw c.in-Ok-eq0.is at c.write.ensures.bytes))

pub returns-in-Err-2-clause-err : goal.returns-in-Err-2-clause-err
returns-in-Err-2-clause-err g c = HasTaken-prefix _ _ _ _ (HasTaken-kept _ _ _ _ _ c.loop.invariant c.in-Err-2.ensures.bytes)

pub loop-preserved : goal.loop-preserved
loop-preserved g c =
    elim c.match-write.branch [
      | in-Ok w ↦ rw (w.rest-is, take-drop_rest) (HasTaken-more _ _ _ _ _ _ c.loop.invariant w.in-Ok.ensures.bytes)
      | in-Err w ↦ rw w.rest-is (HasTaken-kept _ _ _ _ _ c.loop.invariant w.in-Err.ensures.bytes)
    ]

pub returns-clause-err : goal.returns-clause-err
returns-clause-err g c = HasTaken-prefix _ _ _ _ c.loop.invariant
