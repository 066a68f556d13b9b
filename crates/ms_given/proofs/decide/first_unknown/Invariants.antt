use Rattle.std.proofs.Common.{◌≡◌, drop}
use Rattle.ms_names.specs.Worlds.{world_view}
use Rattle.ms_given.specs.Givings.{unknown}
use Rattle.ms_given.specs.Views.{givings_of}
use Rattle.ms_given.proofs.decide.first_unknown.Given as goal

abbrev pub invariant-loop-giving : goal.invariant-loop-giving
invariant-loop-giving l = unknown (world_view l.world) (givings_of l.givens) ≡ unknown (world_view l.world) (givings_of (drop l.giving-index l.givens))
