use Rattle.std.proofs.Common.{◌≡◌, take, map}
use Rattle.ms_top.specs.Solution.{domain_of}
use Rattle.ms_top.proofs.trees.domains.Given as goal

abbrev pub invariant-loop-declaration : goal.invariant-loop-declaration
invariant-loop-declaration l = l.domains.items ≡ map domain_of (take l.declaration-index l.model.declarations)
