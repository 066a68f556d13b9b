use Rattle.std.proofs.Common.{◌≡◌, ◌+◌, ◌-◌, ◌≤◌, ◌<◌, List, length, take, drop}
use Rattle.ms_syntax.specs.Form.{Form}
use Rattle.ms_syntax.specs.Cut.{Cuts, spanned, place_behind}
use Rattle.ms_syntax.proofs.SharedCuts.{sizes}
use Rattle.ms_lexer.proofs.lexer.cut.Given as goal

abbrev pub invariant-loop-start : goal.invariant-loop-start
invariant-loop-start l = record {
  forms : List Form;
  cut : Cuts l.bytes forms (drop l.start l.bytes);
  found : l.found.items ≡ spanned l.file l.bytes 0 forms;
  behind : l.start ≡ sizes forms;
  place : l.place ≡ place_behind l.file (take l.start l.bytes);
  line : l.place.line ≤ 1 + l.start;
  col : (0 < l.place.col) × (l.place.col ≤ 1 + l.start);
  within : l.start ≤ length l.bytes;
}

abbrev pub decreases-loop-start : goal.decreases-loop-start
decreases-loop-start l = length l.bytes - l.start
