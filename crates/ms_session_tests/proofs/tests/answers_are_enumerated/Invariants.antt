use Rattle.ms_session.specs.Laws.{AllHaveRoom}
use Rattle.ms_session.specs.Stored.{state_of}
use Rattle.ms_session_tests.proofs.tests.answers_are_enumerated.Given as goal

abbrev pub invariant-loop-x : goal.invariant-loop-x
invariant-loop-x g l = AllHaveRoom l.budget (state_of l.session)

abbrev pub invariant-loop-y : goal.invariant-loop-y
invariant-loop-y g l = AllHaveRoom l.budget (state_of l.session)
