use Rattle.ms_session.specs.Laws.{AllHaveRoom}
use Rattle.ms_session.specs.Stored.{state_of}
use Rattle.ms_session_tests.proofs.tests.the_lower_half_is_tried_first.Given as goal

abbrev pub invariant-loop-answer : goal.invariant-loop-answer
invariant-loop-answer g l = AllHaveRoom l.budget (state_of l.session)
