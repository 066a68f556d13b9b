use Rattle.std.proofs.Common.{◌≡◌, Some, None, cond, length, sym, ap, ◌∙◌}
use Rattle.std.specs.Str.{bytes_eq}
use Rattle.std.specs.HashMap.{get}
use Rattle.ms_order.specs.Order.{number_in}
use Rattle.ms_order.proofs.Words.{number_push}
use Rattle.ms_order.proofs.names.NameList.add_new.Goals as goal

pub invariant_of-self-in-Ok : goal.invariant_of-self-in-Ok
invariant_of-self-in-Ok c = λ w.
    let names = c.self.inside.names.items in
    let none : number_in names c.in_ok-copy.field-0 ≡ None =
    ap (number_in names) c.in_ok-copy.ensures ∙ ap (λ ns. number_in ns c.args.name.now) c.self.view_is ∙ c.requires in
    let key : c.in_ok-key.key ≡ c.in_ok-copy.field-0 = c.in_ok-key.ensures ∙ sym c.in_ok-copy.ensures in
    let number : c.len-number.result ≡ length names = c.len-number.ensures ∙ c.self.inside.names.ok.0 in
    c.in-Ok.ensures.updates.0 w
    ∙ ap (λ u. cond (bytes_eq u w) (Some c.len-number.result) (get bytes_eq c.self.inside.numbers w)) key
    ∙ ap (λ n. cond (bytes_eq c.in_ok-copy.field-0 w) (Some n) (get bytes_eq c.self.inside.numbers w)) number
    ∙ ap (λ o. cond (bytes_eq c.in_ok-copy.field-0 w) (Some (length names)) o) (c.self.invariant w)
    ∙ sym (number_push names c.in_ok-copy.field-0 none w)
    ∙ ap (λ ns. number_in ns w) (sym c.in_ok-push.ensures.items)
