use Rattle.std.proofs.Common.{sym, ap, ◌∙◌}
use Rattle.std.specs.Prelude.{is_some}
use Rattle.ms_order.specs.Order.{number_in}
use Rattle.ms_order.proofs.Words.{number_again}
use Rattle.ms_order.proofs.names.NameList.add_again.Goals as goal

pub invariant_of-self-2 : goal.invariant_of-self-2
invariant_of-self-2 c = λ w.
    let names = c.self.inside.names.items in
    c.self.invariant w
    ∙ sym (number_again names c.in_ok-copy.field-0
    (ap (λ u. is_some (number_in names u)) c.in_ok-copy.ensures ∙ ap (λ ns. is_some (number_in ns c.args.name.now)) c.self.view_is ∙ c.requires) w)
    ∙ ap (λ ns. number_in ns w) (sym c.in_ok-push.ensures.items)
