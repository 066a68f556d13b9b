use Rattle.std.proofs.Common.{◌≡◌, true, map, sym, subst, ◌∙◌}
use Rattle.ms_syntax.specs.Tree.{item_view}
use Rattle.ms_declarations.specs.Include.{has_solve}
use Rattle.ms_declarations.specs.Drawing.{TellsCycle}
use Rattle.ms_declarations.specs.First.{IsDeclared, cycle_of_library, cycle_of_model, no_solve, none}
use Rattle.ms_declarations.proofs.fault.cycle_fault.Goals as goal

pub returns-then-not-has_solve : goal.returns-then-not-has_solve
returns-then-not-has_solve c = λ files names. no_solve files names (sym c.has_solve.ensures ∙ c.if-not-has_solve.true)

pub returns-in-Some : goal.returns-in-Some
returns-in-Some c = λ files names.
    let solved : has_solve (map item_view c.args.model.now) ≡ true = sym c.has_solve.ensures ∙ c.if-not-has_solve.false in
    let ready : IsDeclared (map item_view c.args.model.now) (map item_view c.args.library.now) = record { files = files; names = names; solved = solved } in
    cycle_of_library ready (subst (TellsCycle (map item_view c.args.library.now)) c.in-Some.is c.in_ok-place.ensures)

pub returns-in-Some-2 : goal.returns-in-Some-2
returns-in-Some-2 c = λ files names.
    let solved : has_solve (map item_view c.args.model.now) ≡ true = sym c.has_solve.ensures ∙ c.if-not-has_solve.false in
    let ready : IsDeclared (map item_view c.args.model.now) (map item_view c.args.library.now) = record { files = files; names = names; solved = solved } in
    cycle_of_model ready (subst (TellsCycle (map item_view c.args.library.now)) c.in_default.is c.in_ok-place.ensures)
    (subst (TellsCycle (map item_view c.args.model.now)) c.in-Some-2.is c.in_ok-place-2.ensures)

pub returns-in-None : goal.returns-in-None
returns-in-None c = λ files names.
    let solved : has_solve (map item_view c.args.model.now) ≡ true = sym c.has_solve.ensures ∙ c.if-not-has_solve.false in
    let ready : IsDeclared (map item_view c.args.model.now) (map item_view c.args.library.now) = record { files = files; names = names; solved = solved } in
    none ready (subst (TellsCycle (map item_view c.args.library.now)) c.in_default.is c.in_ok-place.ensures)
    (subst (TellsCycle (map item_view c.args.model.now)) c.in-None.is c.in_ok-place-2.ensures)
