use Rattle.std.proofs.Common.{◌≡◌, None, Some, map, sym, ap, subst, ◌∙◌}
use Rattle.ms_syntax.specs.Tree.{item_view, names_view}
use Rattle.ms_declarations.specs.Declaring.{declarations, first_clash, names_of}
use Rattle.ms_declarations.proofs.Firsts.{refused, repeated_library, repeated_model, told_stop}
use Rattle.ms_declarations.proofs.fault.name_fault.Goals as goal

pub returns-in-Ok-declared_names : goal.returns-in-Ok-declared_names
returns-in-Ok-declared_names c = λ files.
    c.cycle_fault.ensures files (repeated_model (map item_view c.args.model.now) (map item_view c.args.library.now) None c.in-Ok.ensures.0 c.in-Ok-declared_names.ensures.0)

pub returns-in-Ok : goal.returns-in-Ok
returns-in-Ok c = λ files.
    refused (map item_view c.args.model.now) (map item_view c.args.library.now) c.in-Err-declared_names.stop c.refuse.result files c.refuse.ensures
    (λ p q e. repeated_model (map item_view c.args.model.now) (map item_view c.args.library.now) (Some (p, q)) c.in-Ok.ensures.0
    (told_stop (first_clash (declarations (map item_view c.args.model.now))) (λ ns. names_view ns ≡ names_of (map item_view c.args.model.now)) c.in-Err-declared_names.stop c.in-Err-declared_names.ensures p q e))

pub returns : goal.returns
returns c = λ files.
    refused (map item_view c.args.model.now) (map item_view c.args.library.now) c.in-Err.stop c.refuse-in-Err.result files c.refuse-in-Err.ensures
    (λ p q e. repeated_library (map item_view c.args.model.now) (map item_view c.args.library.now) p q
    (told_stop (first_clash (declarations (map item_view c.args.library.now))) (λ ns. names_view ns ≡ names_of (map item_view c.args.library.now)) c.in-Err.stop c.in-Err.ensures p q e))
