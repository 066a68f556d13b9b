use Rattle.std.proofs.Common.{◌≡◌, ◌++◌, sym, ap, ◌∙◌, append-nil}
use Rattle.ms_prim.proofs.SharedPushed.{variable_names, number_names}
use Rattle.ms_prim.proofs.naming.push_part.Goals as goal

pub returns-in_ok-push : goal.returns-in_ok-push
returns-in_ok-push c = rw c.in-V.is (c.in_ok-push.ensures.items ∙ ap (λ x. c.args.list.now.items ++ x) (sym (variable_names c.in-V.v)))

pub returns-in_default : goal.returns-in_default
returns-in_default c = rw c.in_default.is (sym (append-nil c.args.list.now.items) ∙ ap (λ x. c.args.list.now.items ++ x) (sym (number_names c.in_default.field-0)))
