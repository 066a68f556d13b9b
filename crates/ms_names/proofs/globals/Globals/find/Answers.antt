use Rattle.std.proofs.Common.{rules, ◌∙◌, sym, ap, Some}
use Rattle.std.proofs.lemmas.Option.{slice_get-get_or}
use Rattle.ms_names.specs.Globals.{globals_view}
use Rattle.ms_names.proofs.Numbering.{declared_number, declared_within, number_missing}
use Rattle.ms_names.proofs.globals.Globals.find.Goals as goal

pub index-requires : goal.index-requires
index-requires c =
    let h = sym (c.self.invariant c.args.name.now) ∙ sym c.in-Some.ensures.value in
    let l = declared_within c.self.inside.list.items c.args.name.now c.in-Some.number.now h in search rules

pub returns-in-None-clause-meaning : goal.returns-in-None-clause-meaning
returns-in-None-clause-meaning c =
    let h = sym (c.self.invariant c.args.name.now) ∙ sym c.in-None.ensures.value in
    rw (← c.self.view_is) (sym (number_missing (globals_view c.self.inside.list.items) c.args.name.now h))

pub returns-in-Some-clause-meaning : goal.returns-in-Some-clause-meaning
returns-in-Some-clause-meaning c =
    let h = sym (c.self.invariant c.args.name.now) ∙ sym c.in-Some.ensures.value in
    let l = declared_within c.self.inside.list.items c.args.name.now c.in-Some.number.now h in
    let at = slice_get-get_or c.self.inside.list.items c.in-Some.number.now c.index.result.now l ∙ ap Some (sym c.index.ensures) in
    rw (← c.self.view_is) (declared_number c.self.inside.list.items c.args.name.now c.in-Some.number.now c.index.result.now h at)
