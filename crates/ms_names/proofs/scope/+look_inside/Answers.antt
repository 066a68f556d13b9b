use Rattle.std.proofs.Common.{rules}
use Rattle.ms_syntax.specs.Tree.{decls_view, gens_view, params_view}
use Rattle.ms_names.specs.Scopes.{names_of}
use Rattle.ms_names.specs.declared.scope.Scope.{the_lemmas}
use Rattle.ms_names.proofs.Looking.{past_generators, past_locals, past_parameters}
use Rattle.ms_names.proofs.scope.+look_inside.Goals as goal

pub returns-in-Found : goal.returns-in-Found
returns-in-Found t c =
    let step = past_locals c.args.first (decls_view c.in-Locals.locals.now) (names_of c.in-Locals.outer.now) c.args.name.now in search (rules, the_lemmas)

pub returns-in-Passed : goal.returns-in-Passed
returns-in-Passed t c =
    let step = past_locals c.args.first (decls_view c.in-Locals.locals.now) (names_of c.in-Locals.outer.now) c.args.name.now in search (rules, the_lemmas)

pub returns-in-Found-2 : goal.returns-in-Found-2
returns-in-Found-2 t c =
    let step = past_generators c.args.first (gens_view c.in-Generators.generators.now) (names_of c.in-Generators.outer.now) c.args.name.now in search (rules, the_lemmas)

pub returns-in-Passed-2 : goal.returns-in-Passed-2
returns-in-Passed-2 t c =
    let step = past_generators c.args.first (gens_view c.in-Generators.generators.now) (names_of c.in-Generators.outer.now) c.args.name.now in search (rules, the_lemmas)

pub returns-in-Found-3 : goal.returns-in-Found-3
returns-in-Found-3 t c =
    let step = past_parameters c.args.first (params_view c.in-Parameters.parameters.now) (names_of c.in-Parameters.outer.now) c.args.name.now in search (rules, the_lemmas)

pub returns-in-Passed-3 : goal.returns-in-Passed-3
returns-in-Passed-3 t c =
    let step = past_parameters c.args.first (params_view c.in-Parameters.parameters.now) (names_of c.in-Parameters.outer.now) c.args.name.now in search (rules, the_lemmas)
