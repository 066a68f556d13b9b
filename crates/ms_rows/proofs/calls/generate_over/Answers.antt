use Rattle.std.proofs.Common.{true, false, rules, ◌≡◌}
use Rattle.ms_rows.specs.Forms.{meaning_of}
use Rattle.ms_typing.specs.Conversion.{is_element}
use Rattle.ms_rows.proofs.Given.{generated}
use Rattle.ms_rows.proofs.calls.generate_over.Goals as goal

pub returns-then-fit_with_last : goal.returns-then-fit_with_last
returns-then-fit_with_last c =
    let e : is_element c.args.element ≡ true = search rules in
    generated (meaning_of c.args.meaning.now) c.args.asked.now c.args.types.now c.args.element c.in-Some.called c.shaped.result c.shaped-in-Some.result true
    e c.shaped.ensures c.in-Some.ensures c.shaped-in-Some.ensures c.if-fit_with_last.ensures

pub returns-else-fit_with_last : goal.returns-else-fit_with_last
returns-else-fit_with_last c =
    let e : is_element c.args.element ≡ true = search rules in
    generated (meaning_of c.args.meaning.now) c.args.asked.now c.args.types.now c.args.element c.in-Some.called c.shaped.result c.shaped-in-Some.result false
    e c.shaped.ensures c.in-Some.ensures c.shaped-in-Some.ensures c.if-fit_with_last.ensures
