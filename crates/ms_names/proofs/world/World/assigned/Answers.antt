use Rattle.std.proofs.Common.{rules}
use Rattle.ms_names.specs.Globals.{globals_view}
use Rattle.ms_names.proofs.Giving.{value_by}
use Rattle.ms_names.proofs.world.World.assigned.Goals as goal

pub returns-then-is_library-clause-value : goal.returns-then-is_library-clause-value
returns-then-is_library-clause-value c = let e = value_by (globals_view c.args.self.now.library) c.args.name.now in search rules

pub returns-else-is_library-clause-value : goal.returns-else-is_library-clause-value
returns-else-is_library-clause-value c = let e = value_by (globals_view c.args.self.now.model) c.args.name.now in search rules
