use Rattle.std.proofs.Common.{◌≡◌, ◌<◌, ◌^◌, List, false}
use Rattle.ms_boxes.specs.Boxes.{box_of}
use Rattle.ms_session.specs.declared.budget.Frame.{Frame}
use Rattle.ms_session.specs.Frames.{outer_left}
use Rattle.ms_session.specs.Laws.{AllHaveRoom}
use Rattle.ms_session.specs.Stored.{state_of}
use Rattle.bench_session.proofs.open.Given as goal

abbrev pub invariant-loop-constraint : goal.invariant-loop-constraint
invariant-loop-constraint l = record {
  sets : (state_of l.session).sets ≡ box_of l.sets;
  usable : (state_of l.session).failed ≡ false;
  room : (frames : List Frame) → outer_left frames < 2 ^ 64 → AllHaveRoom frames (state_of l.session);
}
