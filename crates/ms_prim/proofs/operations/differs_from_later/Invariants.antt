use Rattle.std.proofs.Common.{◌≡◌, ◌≤◌, ◌+◌, ◌*◌, ◌^◌, ◌++◌, drop, take, map, length, pos, ◌+ℤ◌, ◌≤ℤ◌, Some, false, get_or}
use Rattle.std.specs.List.{list_all}
use Rattle.ms_trees.specs.Value.{Meaning, compare, int_ne, first_differs}
use Rattle.ms_prim.specs.Results.{all_meant}
use Rattle.ms_prim.proofs.operations.differs_from_later.Given as goal

abbrev pub invariant-loop-later : goal.invariant-loop-later
invariant-loop-later l = list_all (λ (m : Meaning). compare int_ne (Some l.x) m.number) (all_meant l.point (drop l.later l.parts)) ≡ first_differs (all_meant l.point (drop l.place l.parts))
