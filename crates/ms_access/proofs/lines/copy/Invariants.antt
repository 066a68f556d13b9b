use Rattle.std.proofs.Common.{◌≡◌, take}
use Rattle.ms_access.proofs.lines.copy.Given as goal

abbrev pub invariant-loop-element : goal.invariant-loop-element
invariant-loop-element g l = l.copied ≡ take l.element-index l.elements
