use Rattle.std.proofs.Common.{◌≡◌, map, take}
use Rattle.ms_rules.specs.Shown as s
use Rattle.ms_functions.proofs.texts.numbers_shown.Given as goal

abbrev pub invariant-loop-number : goal.invariant-loop-number
invariant-loop-number l = l.texts.items ≡ map s.number_shown (take l.number-index l.numbers)
