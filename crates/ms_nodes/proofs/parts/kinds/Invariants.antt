use Rattle.std.proofs.Common.{◌≡◌, ◌++◌, drop}
use Rattle.ms_nodes.specs.Parts.{kinds_of}
use Rattle.ms_nodes.proofs.parts.kinds.Given as goal

abbrev pub invariant-loop-part : goal.invariant-loop-part
invariant-loop-part l = kinds_of l.parts ≡ l.types.items ++ kinds_of (drop l.part-index l.parts)
