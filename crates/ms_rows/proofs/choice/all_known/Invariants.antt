use Rattle.std.proofs.Common.{◌≡◌, ◌+◌, ◌≤◌, length}
use Rattle.ms_typing.specs.Least as least
use Rattle.ms_rows.proofs.choice.all_known.Given as goal

abbrev pub invariant-loop-turn : goal.invariant-loop-turn
invariant-loop-turn l = record {
  same : least.all_known (least.conditions l.types) ≡ least.all_known (least.conditions l.rest);
  short : length l.rest + l._turn ≤ length l.types;
}
