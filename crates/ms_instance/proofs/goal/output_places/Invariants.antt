use Rattle.std.proofs.Common.{◌≡◌, ◌++◌, drop}
use Rattle.ms_instance.specs.Reading.{output_places}
use Rattle.ms_instance.proofs.goal.output_places.Given as goal

abbrev pub invariant-loop-place : goal.invariant-loop-place
invariant-loop-place l = output_places 0 l.items ≡ l.places.items ++ output_places l.place (drop l.place l.items)
