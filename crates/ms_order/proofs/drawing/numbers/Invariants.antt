use Rattle.std.proofs.Common.{◌≡◌, ◌++◌, drop}
use Rattle.ms_order.specs.Drawing.{numbers}
use Rattle.ms_order.proofs.drawing.numbers.Given as goal

abbrev pub invariant-loop-word : goal.invariant-loop-word
invariant-loop-word l = l.found.items ++ numbers l.names (drop l.word-index l.words) ≡ numbers l.names l.words
