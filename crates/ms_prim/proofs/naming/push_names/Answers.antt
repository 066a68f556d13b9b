use Rattle.std.proofs.Common.{◌≡◌, ◌++◌, ap, ◌∙◌}
use Rattle.ms_prim.proofs.SharedPushed.{of_sum}
use Rattle.ms_prim.proofs.naming.push_names.Goals as goal

pub returns-in_ok-push_sum-in-Sum : goal.returns-in_ok-push_sum-in-Sum
returns-in_ok-push_sum-in-Sum c =
    let s = c.in-Sum in
    let e = rw c.as_slice.ensures at c.in_ok-push_sum-in-Sum.ensures in
    rw s.is (e ∙ ap (λ l. c.args.list.now.items ++ l) (of_sum s.terms _ s.v))
