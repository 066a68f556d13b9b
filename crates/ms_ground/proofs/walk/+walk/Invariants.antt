use Rattle.std.proofs.Common.{◌≡◌, ℕ, ◌+◌, ◌<◌, ◌≤◌, true, false, not, ◌&&◌, ◌||◌, Some, None, map, length, drop, get_or}
use Rattle.std.specs.Prelude.{pos, is_some}
use Rattle.std.specs.List.{list_any, list_all}
use Rattle.ms_num.specs.Span.{add_span, point, join_some}
use Rattle.ms_trees.specs.Value.{how_many}
use Rattle.ms_trees.specs.Enclosure.{enclosure, folded_intervals, any_may_be_undefined, all_may_be_true, any_may_be_false, any_may_be_true, all_may_be_false, all_some, extreme_enclosure, joined, reached_undefined, compare_intervals, same_single, meets, has_room, room_from, held, some_meet, some_several, may_be_row, numeric_enclosure}
use Rattle.ms_trees.specs.Kept.{part}
use Rattle.ms_trees.specs.Access.{reaches}
use Rattle.ms_trees.specs.Extreme.{extreme_span}
use Rattle.ms_trees.proofs.Onward.{onward_on}
use Rattle.ms_trees.specs.WellFormed.{are_numbers, are_truths, sums_fit, checked}
use Rattle.ms_trees.specs.declared.tree.Enclosure.{Enclosure}
use Rattle.ms_ground.specs.Known.{known, numbers_of}
use Rattle.ms_ground.specs.Room.{first_meets}
use Rattle.ms_ground.proofs.Sums.{sum_onward}
use Rattle.ms_ground.proofs.walk.+walk.Given as goal

abbrev pub invariant-sum_on-loop-part : goal.invariant-sum_on-loop-part
invariant-sum_on-loop-part g l = record {
  rest : sum_onward (g.B.Intervals.spans l.sets) l.total (drop l.part-index l.parts) ≡ sum_onward (g.B.Intervals.spans l.sets) (numeric_enclosure (Some (point (pos 0))) false) l.parts;
  plain : l.total ≡ numeric_enclosure l.total.interval l.total.may_be_undefined;
}

abbrev pub invariant-extreme_on-loop-part : goal.invariant-extreme_on-loop-part
invariant-extreme_on-loop-part g l = record {
  known : are_numbers (map (checked (g.B.Intervals.spans l.sets)) (drop l.part-index l.parts)) ≡ are_numbers (map (checked (g.B.Intervals.spans l.sets)) l.parts);
  rest : onward_on (extreme_span l.which) l.best (map (enclosure (g.B.Intervals.spans l.sets)) (drop l.part-index l.parts)) ≡ extreme_enclosure (extreme_span l.which) (map (enclosure (g.B.Intervals.spans l.sets)) l.parts);
}

abbrev pub invariant-selected_on-loop-place : goal.invariant-selected_on-loop-place
invariant-selected_on-loop-place g l = record {
  known : are_numbers (map (checked (g.B.Intervals.spans l.sets)) (drop l.place l.parts)) ≡ are_numbers (map (checked (g.B.Intervals.spans l.sets)) l.parts);
  interval : join_some l.so_far.interval (joined (reaches l.access) l.place (map (enclosure (g.B.Intervals.spans l.sets)) (drop l.place l.parts))) ≡ joined (reaches l.access) 0 (map (enclosure (g.B.Intervals.spans l.sets)) l.parts);
  may_be_undefined : (l.so_far.may_be_undefined || reached_undefined (reaches l.access) l.place (map (enclosure (g.B.Intervals.spans l.sets)) (drop l.place l.parts))) ≡ (l.fn.none || reached_undefined (reaches l.access) 0 (map (enclosure (g.B.Intervals.spans l.sets)) l.parts));
}

abbrev pub invariant-count_on-loop-part : goal.invariant-count_on-loop-part
invariant-count_on-loop-part g l = record {
  known : are_numbers (map (checked (g.B.Intervals.spans l.sets)) (drop l.part-index l.parts)) ≡ are_numbers (map (checked (g.B.Intervals.spans l.sets)) l.parts);
  defined : (l.defined && all_some (map (enclosure (g.B.Intervals.spans l.sets)) (drop l.part-index l.parts))) ≡ (is_some l.fn.y.interval && all_some (map (enclosure (g.B.Intervals.spans l.sets)) l.parts));
  may_be_undefined : (l.may_be_undefined || any_may_be_undefined (map (enclosure (g.B.Intervals.spans l.sets)) (drop l.part-index l.parts))) ≡ (l.fn.y.may_be_undefined || any_may_be_undefined (map (enclosure (g.B.Intervals.spans l.sets)) l.parts));
  ordered : l.certain ≤ l.possible;
  few : l.possible ≤ l.part-index;
  certain : l.certain + how_many (λ (x : Enclosure). compare_intervals same_single x.interval l.fn.y.interval) (map (enclosure (g.B.Intervals.spans l.sets)) (drop l.part-index l.parts)) ≡ how_many (λ (x : Enclosure). compare_intervals same_single x.interval l.fn.y.interval) (map (enclosure (g.B.Intervals.spans l.sets)) l.parts);
  possible : l.possible + how_many (λ (x : Enclosure). compare_intervals meets x.interval l.fn.y.interval) (map (enclosure (g.B.Intervals.spans l.sets)) (drop l.part-index l.parts)) ≡ how_many (λ (x : Enclosure). compare_intervals meets x.interval l.fn.y.interval) (map (enclosure (g.B.Intervals.spans l.sets)) l.parts);
}

abbrev pub invariant-all_on-loop-part : goal.invariant-all_on-loop-part
invariant-all_on-loop-part g l = record {
  known : are_truths (map (checked (g.B.Intervals.spans l.sets)) (drop l.part-index l.parts)) ≡ are_truths (map (checked (g.B.Intervals.spans l.sets)) l.parts);
  may_be_true : (l.all.may_be_true && all_may_be_true (map (enclosure (g.B.Intervals.spans l.sets)) (drop l.part-index l.parts))) ≡ all_may_be_true (map (enclosure (g.B.Intervals.spans l.sets)) l.parts);
  may_be_false : (l.all.may_be_false || any_may_be_false (map (enclosure (g.B.Intervals.spans l.sets)) (drop l.part-index l.parts))) ≡ any_may_be_false (map (enclosure (g.B.Intervals.spans l.sets)) l.parts);
}

abbrev pub invariant-any_on-loop-part : goal.invariant-any_on-loop-part
invariant-any_on-loop-part g l = record {
  known : are_truths (map (checked (g.B.Intervals.spans l.sets)) (drop l.part-index l.parts)) ≡ are_truths (map (checked (g.B.Intervals.spans l.sets)) l.parts);
  may_be_true : (l.any.may_be_true || any_may_be_true (map (enclosure (g.B.Intervals.spans l.sets)) (drop l.part-index l.parts))) ≡ any_may_be_true (map (enclosure (g.B.Intervals.spans l.sets)) l.parts);
  may_be_false : (l.any.may_be_false && all_may_be_false (map (enclosure (g.B.Intervals.spans l.sets)) (drop l.part-index l.parts))) ≡ all_may_be_false (map (enclosure (g.B.Intervals.spans l.sets)) l.parts);
}

abbrev pub invariant-first_enclosures-loop-place : goal.invariant-first_enclosures-loop-place
invariant-first_enclosures-loop-place g l = record {
  known : are_numbers (map (checked (g.B.Intervals.spans l.sets)) (drop l.place l.parts)) ≡ are_numbers (map (checked (g.B.Intervals.spans l.sets)) l.parts);
  size : length l.kept ≡ 64;
  kept : (k : ℕ) → k < l.place → k < 64 → get_or l.kept k (numeric_enclosure None false) ≡ numbers_of (g.B.Intervals.spans l.sets) (part l.parts k);
}

abbrev pub invariant-all_have_room-loop-place : goal.invariant-all_have_room-loop-place
invariant-all_have_room-loop-place g l = (all_some (map (enclosure (g.B.Intervals.spans l.sets)) (drop l.place l.parts)) && list_all (λ (x : Enclosure). room_from (map (enclosure (g.B.Intervals.spans l.sets)) l.parts) x.interval) (map (enclosure (g.B.Intervals.spans l.sets)) (drop l.place l.parts)))
    ≡ (all_some (map (enclosure (g.B.Intervals.spans l.sets)) l.parts) && list_all (λ (x : Enclosure). room_from (map (enclosure (g.B.Intervals.spans l.sets)) l.parts) x.interval) (map (enclosure (g.B.Intervals.spans l.sets)) l.parts))

abbrev pub invariant-has_room_from-loop-place : goal.invariant-has_room_from-loop-place
invariant-has_room_from-loop-place g l = list_all (λ (x : Enclosure). not (compare_intervals (λ s t. not (has_room s.lo t.hi (map (enclosure (g.B.Intervals.spans l.sets)) l.parts))) (Some l.start) x.interval)) (map (enclosure (g.B.Intervals.spans l.sets)) (drop l.place l.parts)) ≡ room_from (map (enclosure (g.B.Intervals.spans l.sets)) l.parts) (Some l.start)

abbrev pub invariant-has_room_on-loop-place : goal.invariant-has_room_on-loop-place
invariant-has_room_on-loop-place g l = record {
  few : l.held ≤ l.place;
  rest : l.held + held l.range.lo l.range.hi (map (enclosure (g.B.Intervals.spans l.sets)) (drop l.place l.parts)) ≡ held l.range.lo l.range.hi (map (enclosure (g.B.Intervals.spans l.sets)) l.parts);
}

abbrev pub invariant-some_meet_on-loop-place : goal.invariant-some_meet_on-loop-place
invariant-some_meet_on-loop-place g l = (any_may_be_undefined (map (enclosure (g.B.Intervals.spans l.sets)) (drop l.place l.parts)) || some_meet (map (enclosure (g.B.Intervals.spans l.sets)) (drop l.place l.parts))) ≡ (any_may_be_undefined (map (enclosure (g.B.Intervals.spans l.sets)) l.parts) || some_meet (map (enclosure (g.B.Intervals.spans l.sets)) l.parts))

abbrev pub invariant-first_meets_on-loop-later : goal.invariant-first_meets_on-loop-later
invariant-first_meets_on-loop-later g l = list_any (λ (x : Enclosure). compare_intervals meets l.x.0 x.interval) (map (enclosure (g.B.Intervals.spans l.sets)) (drop l.later l.parts)) ≡ first_meets (map (enclosure (g.B.Intervals.spans l.sets)) (drop l.place l.parts))

abbrev pub invariant-some_row_on-loop-row : goal.invariant-some_row_on-loop-row
invariant-some_row_on-loop-row g l = list_any (may_be_row (map (enclosure (g.B.Intervals.spans l.sets)) l.parts)) (drop l.row-index l.rows) ≡ list_any (may_be_row (map (enclosure (g.B.Intervals.spans l.sets)) l.parts)) l.rows

abbrev pub invariant-admit_row-loop-place : goal.invariant-admit_row-loop-place
invariant-admit_row-loop-place g l = may_be_row (map (enclosure (g.B.Intervals.spans l.sets)) (drop l.place l.parts)) (drop l.place l.row) ≡ may_be_row (map (enclosure (g.B.Intervals.spans l.sets)) l.parts) l.row

abbrev pub invariant-some_unsure_on-loop-place : goal.invariant-some_unsure_on-loop-place
invariant-some_unsure_on-loop-place g l = (any_may_be_undefined (map (enclosure (g.B.Intervals.spans l.sets)) (drop l.place l.parts)) || some_several (map (enclosure (g.B.Intervals.spans l.sets)) (drop l.place l.parts))) ≡ (any_may_be_undefined (map (enclosure (g.B.Intervals.spans l.sets)) l.parts) || some_several (map (enclosure (g.B.Intervals.spans l.sets)) l.parts))
