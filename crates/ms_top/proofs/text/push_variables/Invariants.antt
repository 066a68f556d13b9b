use Rattle.std.proofs.Common.{◌≡◌, ◌++◌, take}
use Rattle.ms_top.specs.Text.{variable_lines}
use Rattle.ms_top.proofs.text.push_variables.Given as goal

abbrev pub invariant-loop-i : goal.invariant-loop-i
invariant-loop-i l = l.text.items ≡ l.fn.text.items ++ variable_lines (take l.i l.declarations) l.point
