use Rattle.std.proofs.Common.{sym}
use Rattle.ms_syntax.specs.Tree.{names_view}
use Rattle.ms_declarations.proofs.Numbers.{place_none}
use Rattle.ms_declarations.proofs.names.NameList.declare.Goals as goal

pub add-requires : goal.add-requires
add-requires c = place_none (names_view c.args.self.now) c.args.name.now (sym c.in_default.ensures)
