use Rattle.std.proofs.Common.{◌≡◌, ◌-◌, ◌^◌, min, map, take, sum}
use Rattle.ms_trees.specs.Size.{size_of}
use Rattle.ms_trees.proofs.nodes.+size.Given as goal

abbrev pub invariant-size_all-loop-part : goal.invariant-size_all-loop-part
invariant-size_all-loop-part l = l.total ≡ min (sum (map size_of (take l.part-index l.parts))) (2 ^ 64 - 1)
