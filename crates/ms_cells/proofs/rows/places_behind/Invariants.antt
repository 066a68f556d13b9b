use Rattle.std.proofs.Common.{◌≡◌, ◌+◌, ◌<◌, ◌^◌, ◌++◌, take, drop, sum}
use Rattle.ms_cells.specs.Rows.{places_from}
use Rattle.ms_cells.proofs.rows.places_behind.Given as goal

abbrev pub invariant-loop-len : goal.invariant-loop-len
invariant-loop-len l = record {
  made : l.places.items ++ places_from l.end (drop l.len-index l.lengths) ≡ places_from l.start l.lengths;
  total : l.end + sum (drop l.len-index l.lengths) ≡ l.start + sum l.lengths;
  few : l.end < 2 ^ 32;
}
