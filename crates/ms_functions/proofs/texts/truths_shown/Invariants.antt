use Rattle.std.proofs.Common.{◌≡◌, map, take}
use Rattle.ms_show.specs.Texts.{truth_text_of}
use Rattle.ms_functions.proofs.texts.truths_shown.Given as goal

abbrev pub invariant-loop-truth : goal.invariant-loop-truth
invariant-loop-truth l = l.texts.items ≡ map truth_text_of (take l.truth-index l.truths)
