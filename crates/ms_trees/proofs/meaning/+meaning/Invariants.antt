use Rattle.std.proofs.Common.{◌≡◌, ℕ, ◌+◌, ◌<◌, ◌≤◌, true, Some, None, map, length, drop, get_or, pos}
use Rattle.ms_num.specs.Numbers.{add_at, int_eq}
use Rattle.ms_num.specs.Span.{point}
use Rattle.std.specs.List.{list_any, list_all}
use Rattle.ms_trees.specs.Value.{Meaning, value, folded, extreme, all_defined, how_many, compare, int_ne, all_true, any_true, first_differs, are_distinct, is_row}
use Rattle.ms_trees.specs.Enclosure.{enclosure, points}
use Rattle.ms_trees.specs.Kept.{part}
use Rattle.ms_trees.specs.Extreme.{extreme_at}
use Rattle.ms_trees.proofs.Onward.{onward}
use Rattle.ms_trees.specs.WellFormed.{are_numbers, are_truths, sums_fit, checked}
use Rattle.ms_trees.proofs.meaning.+meaning.Given as goal

abbrev pub invariant-sum_at-loop-part : goal.invariant-sum_at-loop-part
invariant-sum_at-loop-part l = record {
  fit : are_numbers (map (checked (points l.point)) (drop l.part-index l.parts)) ≡ true;
  narrow : sums_fit (Some (point l.total)) (map (enclosure (points l.point)) (drop l.part-index l.parts)) ≡ true;
  rest : folded add_at (Some l.total) (map (value l.point) (drop l.part-index l.parts)) ≡ folded add_at (Some (pos 0)) (map (value l.point) l.parts);
}

abbrev pub invariant-extreme_at-loop-part : goal.invariant-extreme_at-loop-part
invariant-extreme_at-loop-part l = record {
  fit : are_numbers (map (checked (points l.point)) (drop l.part-index l.parts)) ≡ true;
  rest : onward (extreme_at l.which) l.best (map (value l.point) (drop l.part-index l.parts)) ≡ extreme (extreme_at l.which) (map (value l.point) l.parts);
}

abbrev pub invariant-count_at-loop-part : goal.invariant-count_at-loop-part
invariant-count_at-loop-part l = record {
  fit : are_numbers (map (checked (points l.point)) (drop l.part-index l.parts)) ≡ true;
  below : l.count ≤ l.part-index;
  defined : all_defined (map (value l.point) (drop l.part-index l.parts)) ≡ all_defined (map (value l.point) l.parts);
  rest : l.count + how_many (λ (m : Meaning). compare int_eq m.number (Some l.fn.n)) (map (value l.point) (drop l.part-index l.parts)) ≡ how_many (λ (m : Meaning). compare int_eq m.number (Some l.fn.n)) (map (value l.point) l.parts);
}

abbrev pub invariant-all_hold-loop-part : goal.invariant-all_hold-loop-part
invariant-all_hold-loop-part l = record {
  fit : are_truths (map (checked (points l.point)) (drop l.part-index l.parts)) ≡ true;
  rest : all_true (map (value l.point) (drop l.part-index l.parts)) ≡ all_true (map (value l.point) l.parts);
}

abbrev pub invariant-some_holds-loop-part : goal.invariant-some_holds-loop-part
invariant-some_holds-loop-part l = record {
  fit : are_truths (map (checked (points l.point)) (drop l.part-index l.parts)) ≡ true;
  rest : any_true (map (value l.point) (drop l.part-index l.parts)) ≡ any_true (map (value l.point) l.parts);
}

abbrev pub invariant-first_numbers-loop-place : goal.invariant-first_numbers-loop-place
invariant-first_numbers-loop-place l = record {
  fit : are_numbers (map (checked (points l.point)) (drop l.place l.parts)) ≡ true;
  size : length l.kept ≡ 64;
  kept : (k : ℕ) → k < l.place → get_or l.kept k None ≡ (value l.point (part l.parts k)).number;
}

abbrev pub invariant-all_differ-loop-place : goal.invariant-all_differ-loop-place
invariant-all_differ-loop-place l = record {
  fit : are_numbers (map (checked (points l.point)) (drop l.place l.parts)) ≡ true;
  rest : are_distinct (map (value l.point) (drop l.place l.parts)) ≡ are_distinct (map (value l.point) l.parts);
}

abbrev pub invariant-differs_from_later-loop-later : goal.invariant-differs_from_later-loop-later
invariant-differs_from_later-loop-later l = record {
  fit : are_numbers (map (checked (points l.point)) (drop l.later l.parts)) ≡ true;
  rest : list_all (λ (m : Meaning). compare int_ne l.x m.number) (map (value l.point) (drop l.later l.parts)) ≡ first_differs (map (value l.point) (drop l.place l.parts));
}

abbrev pub invariant-is_some_row-loop-row : goal.invariant-is_some_row-loop-row
invariant-is_some_row-loop-row l = list_any (is_row (map (value l.point) l.parts)) (drop l.row-index l.rows) ≡ list_any (is_row (map (value l.point) l.parts)) l.rows

abbrev pub invariant-are_numbers-loop-place : goal.invariant-are_numbers-loop-place
invariant-are_numbers-loop-place l = record {
  fit : are_numbers (map (checked (points l.point)) (drop l.place l.parts)) ≡ true;
  rest : is_row (map (value l.point) (drop l.place l.parts)) (drop l.place l.row) ≡ is_row (map (value l.point) l.parts) l.row;
}
