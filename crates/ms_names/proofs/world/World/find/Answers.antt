use Rattle.std.proofs.Common.{rules}
use Rattle.ms_names.specs.Scopes.{names_of}
use Rattle.ms_names.specs.Worlds.{world_view}
use Rattle.ms_names.proofs.Standing.{look_by, refer_by}
use Rattle.ms_names.proofs.world.World.find.Goals as goal

pub returns-in-Found-clause-meaning : goal.returns-in-Found-clause-meaning
returns-in-Found-clause-meaning c =
    let e = look_by (world_view c.args.self.now) c.args.place 0 (names_of c.args.scope.now) c.args.name.now in search rules

pub returns-in-Found-clause-reference : goal.returns-in-Found-clause-reference
returns-in-Found-clause-reference c =
    let e = refer_by (world_view c.args.self.now) c.args.place (names_of c.args.scope.now) c.args.name.now in search rules

pub returns-in-Passed-clause-meaning : goal.returns-in-Passed-clause-meaning
returns-in-Passed-clause-meaning c =
    let e = look_by (world_view c.args.self.now) c.args.place 0 (names_of c.args.scope.now) c.args.name.now in search rules

pub returns-in-Passed-clause-reference : goal.returns-in-Passed-clause-reference
returns-in-Passed-clause-reference c =
    let e = refer_by (world_view c.args.self.now) c.args.place (names_of c.args.scope.now) c.args.name.now in search rules
