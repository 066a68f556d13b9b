use Rattle.std.proofs.Common.{◌≡◌, ◌+◌, ◌≤◌, ◌<◌, take}
use Rattle.std.specs.Prelude.{fold}
use Rattle.ms_syntax.specs.Cut.{next_place}
use Rattle.ms_lexer.proofs.place.place_after.Given as goal

abbrev pub invariant-loop-b : goal.invariant-loop-b
invariant-loop-b l = record {
  so_far : l.place ≡ fold next_place l.fn.place (take l.b-index l.bytes);
  line : l.place.line ≤ l.fn.place.line + l.b-index;
  col : l.place.col ≤ l.fn.place.col + l.b-index;
  begun : 0 < l.place.col;
}
