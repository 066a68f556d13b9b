use Rattle.std.proofs.Common.{◌≡◌, ◌++◌, take, codes}
use Rattle.std.specs.List.{flat_map}
use Rattle.ms_show.proofs.parts.push_joined.Given as goal

abbrev pub invariant-loop-part : goal.invariant-loop-part
invariant-loop-part l = l.text.items ≡ l.initial.text.items ++ flat_map (λ part. codes ", " ++ part) (take l.part-index l.rest)
