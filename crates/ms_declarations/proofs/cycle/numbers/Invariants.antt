use Rattle.std.proofs.Common.{◌≡◌, ◌++◌, drop}
use Rattle.ms_syntax.specs.Tree.{names_view}
use Rattle.ms_declarations.specs.Drawing.{numbers}
use Rattle.ms_declarations.proofs.cycle.numbers.Given as goal

abbrev pub invariant-loop-word : goal.invariant-loop-word
invariant-loop-word l = l.found.items ++ numbers (names_view l.names) (drop l.word-index l.words) ≡ numbers (names_view l.names) l.words
