use Rattle.std.proofs.Common.{◌≡◌, ◌∷◌, ◌++◌, [], Some, None, cond, length, sym, ap, subst, ◌∙◌}
use Rattle.std.specs.Str.{bytes_eq}
use Rattle.std.specs.HashMap.{get}
use Rattle.ms_syntax.specs.Tree.{names_view}
use Rattle.ms_syntax.specs.declared.tree.Binder.{Binder}
use Rattle.ms_declarations.specs.Numbering.{number_of}
use Rattle.ms_declarations.proofs.Numbers.{added_number}
use Rattle.ms_declarations.proofs.names.NameList.add.Goals as goal

pub invariant_of-self-in-Ok : goal.invariant_of-self-in-Ok
invariant_of-self-in-Ok c = λ w.
    let names = c.self.inside.names.items in
    let binder : Binder = record { place = c.args.place; name = c.in_ok-copy.field-0 } in
    let none : number_of (names_view names) c.in_ok-copy.field-0 ≡ None =
    ap (λ u. number_of (names_view names) u) c.in_ok-copy.ensures ∙ ap (λ bs. number_of (names_view bs) c.args.name.now) c.self.view_is ∙ c.requires in
    let more = added_number names binder c.len-number.result (c.len-number.ensures ∙ c.self.inside.names.ok.0) none w in
    let first = c.in-Ok.ensures.updates.0 w in
    let old = c.self.invariant w in
    let key : c.in_ok-key.key ≡ c.in_ok-copy.field-0 = c.in_ok-key.ensures ∙ sym c.in_ok-copy.ensures in
    let items = ap (λ bs. number_of (names_view bs) w) c.in_ok-push.ensures.items in
    first
    ∙ ap (λ u. cond (bytes_eq u w) (Some c.len-number.result) (get bytes_eq c.self.inside.numbers w)) key
    ∙ ap (λ o. cond (bytes_eq c.in_ok-copy.field-0 w) (Some c.len-number.result) o) old
    ∙ sym (items ∙ more)
