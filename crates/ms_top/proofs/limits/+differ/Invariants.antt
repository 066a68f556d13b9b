use Rattle.std.proofs.Common.{length}
use Rattle.ms_top.proofs.limits.+differ.Given as goal

abbrev pub decreases-differ : goal.decreases-differ
decreases-differ l = length l.declarations.now
