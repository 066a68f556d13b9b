use Rattle.std.proofs.Common.{◌≡◌, ◌+◌, ◌≤◌, length}
use Rattle.ms_typing.specs.Least as least
use Rattle.ms_rows.proofs.choice.join_branches.Given as goal

abbrev pub invariant-loop-turn : goal.invariant-loop-turn
invariant-loop-turn l = record {
  same : least.join_all l.fn.start (least.branches l.types) ≡ least.join_all l.all (least.branches l.rest);
  short : length l.rest + l._turn ≤ length l.types;
}
