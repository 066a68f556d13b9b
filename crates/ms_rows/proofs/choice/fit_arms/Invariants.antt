use Rattle.std.proofs.Common.{◌≡◌, ◌+◌, ◌≤◌, length, map}
use Rattle.ms_typing.specs.Least as least
use Rattle.ms_typing.specs.Row.{arms}
use Rattle.ms_rows.specs.Choice as spec
use Rattle.ms_rows.proofs.choice.fit_arms.Given as goal

abbrev pub invariant-loop-turn : goal.invariant-loop-turn
invariant-loop-turn l = record {
  same : least.convert_all l.types (arms (map (spec.condition_asked l.conditions) (least.conditions l.types)) l.asked)
      ≡ least.convert_all l.rest (arms (map (spec.condition_asked l.conditions) (least.conditions l.rest)) l.asked);
  short : length l.rest + l._turn ≤ length l.types;
}
