use Rattle.std.proofs.Common.{◌≡◌, ◌++◌, drop}
use Rattle.ms_nodes.specs.Parts.{kinds_of}
use Rattle.ms_nodes.proofs.parts.push_kinds.Given as goal

abbrev pub invariant-loop-part : goal.invariant-loop-part
invariant-loop-part l = l.fn.types.items ++ kinds_of l.parts ≡ l.types.items ++ kinds_of (drop l.part-index l.parts)
