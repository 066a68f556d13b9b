use Rattle.std.proofs.Common.{◌≡◌, ◌<◌, length, get_or, Some, None, sym, ap, subst, ◌∙◌}
use Rattle.ms_syntax.specs.Tree.{names_view}
use Rattle.ms_declarations.proofs.Numbers.{number_none, number_place}
use Rattle.ms_declarations.proofs.names.NameList.place.Goals as goal

pub index-requires : goal.index-requires
index-requires c =
    let found = number_place c.args.self.now c.args.name.now c.in-Some.number (sym c.in-Some.ensures) in
    subst (λ n. c.in-Some.number < n) (ap length (sym c.self.view_is) ∙ sym c.self.inside.names.ok.0) found.0

pub returns-in-Some : goal.returns-in-Some
returns-in-Some c =
    let found = number_place c.args.self.now c.args.name.now c.in-Some.number (sym c.in-Some.ensures) in
    let read = c.index.ensures ∙ ap (λ bs. get_or bs c.in-Some.number c.index.result.now) c.self.view_is in
    sym (found.1 c.index.result.now ∙ ap (λ b. Some b.place) (sym read))

pub returns-in-None : goal.returns-in-None
returns-in-None c = sym (number_none (names_view c.args.self.now) c.args.name.now (sym c.in-None.ensures))
