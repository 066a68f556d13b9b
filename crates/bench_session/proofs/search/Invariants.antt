use Rattle.std.proofs.Common.{◌≡◌, false}
use Rattle.ms_session.specs.Laws.{AllHaveRoom}
use Rattle.ms_session.specs.Stored.{state_of}
use Rattle.bench_session.proofs.search.Given as goal

abbrev pub invariant-loop-found : goal.invariant-loop-found
invariant-loop-found l = record {
  usable : (state_of l.session).failed ≡ false;
  room : AllHaveRoom l.budget (state_of l.session);
}
