use Rattle.std.proofs.Common.{◌≡◌, map, take}
use Rattle.ms_rules.specs.Shown as s
use Rattle.ms_functions.proofs.texts.texts_shown.Given as goal

abbrev pub invariant-loop-text : goal.invariant-loop-text
invariant-loop-text l = l.texts.items ≡ map s.text_shown (take l.text-index l.all)
