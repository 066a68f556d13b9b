use Rattle.std.proofs.Common.{◌≡◌, replicate, None}
use Rattle.ms_rules.proofs.cells.no_texts.Given as goal

abbrev pub invariant-loop : goal.invariant-loop
invariant-loop l = l.texts ≡ replicate l.counter None
