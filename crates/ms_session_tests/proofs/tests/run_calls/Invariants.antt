use Rattle.ms_session.specs.Laws.{AllHaveRoom}
use Rattle.ms_session.specs.Stored.{state_of}
use Rattle.ms_session_tests.specs.Samples.{line, Admits}
use Rattle.ms_session_tests.proofs.tests.run_calls.Given as goal

abbrev pub invariant-loop-call : goal.invariant-loop-call
invariant-loop-call g l = record {
  room : AllHaveRoom l.budget (state_of l.session);
  admits : Admits line (state_of l.session);
}
