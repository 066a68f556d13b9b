use Rattle.std.proofs.Common.{◌≡◌, ◌++◌, take, drop, map}
use Rattle.ms_cells.specs.Cells.{forgotten}
use Rattle.ms_cells.proofs.cells.forget.Given as goal

abbrev pub invariant-loop-entry : goal.invariant-loop-entry
invariant-loop-entry g l = l.entry-items ≡ map (λ e. forgotten l.count e) (take l.entry-index l.initial.entry-items) ++ drop l.entry-index l.initial.entry-items
