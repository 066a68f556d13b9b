use Rattle.ms_session.proofs.Nexts.{next_is_by_solutions}
use Rattle.ms_session.proofs.laws.solution_law.Goals as goal

pub returns : goal.returns
returns c = next_is_by_solutions
