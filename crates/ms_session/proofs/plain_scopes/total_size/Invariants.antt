use Rattle.std.proofs.Common.{◌≡◌, take}
use Rattle.ms_session.specs.Scopes.{live_nodes}
use Rattle.ms_session.proofs.plain_scopes.total_size.Given as goal

abbrev pub invariant-loop-tree : goal.invariant-loop-tree
invariant-loop-tree l = l.total ≡ live_nodes (take l.tree-index l.trees)
