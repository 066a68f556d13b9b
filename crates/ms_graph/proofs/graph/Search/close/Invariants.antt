use Rattle.std.proofs.Common.{◌≡◌, ℕ, ◌≤◌, length}
use Rattle.ms_graph.specs.Search.{AreDone}
use Rattle.ms_graph.proofs.graph.Search.close.Given as goal

abbrev pub invariant-loop-place : goal.invariant-loop-place
invariant-loop-place l = record {
  nodes : AreDone l.initial.self.path.items l.start l.place l.is_cyclic l.initial.self.marks.items l.self.marks.items l.initial.self.cyclic.items l.self.cyclic.items;
  followed : l.self.followed ≡ l.initial.self.followed;
  path : l.self.path ≡ l.initial.self.path;
  groups : l.self.groups ≡ l.initial.self.groups;
  walk : l.self.walk ≡ l.initial.self.walk;
}
