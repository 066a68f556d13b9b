use Rattle.std.proofs.Common.{◌≡◌, map, take}
use Rattle.ms_rules.specs.Cells as c
use Rattle.ms_rules.proofs.cells.bit_numbers.Given as goal

abbrev pub invariant-loop-truth : goal.invariant-loop-truth
invariant-loop-truth l = l.numbers ≡ map c.bit_number (take l.truth-index l.truths)
