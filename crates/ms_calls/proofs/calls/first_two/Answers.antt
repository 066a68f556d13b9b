use Rattle.std.proofs.Common.{◌∙◌, sym, ap}
use Rattle.ms_calls.specs.Arguments.{two_from}
use Rattle.ms_calls.proofs.Arguments.{first_two as of_all}
use Rattle.ms_calls.proofs.calls.first_two.Goals as goal

pub returns : goal.returns
returns c = sym (ap (λ rest. two_from rest c.all.found) c.in_default.ensures.0) ∙ sym c.all.invariant ∙ of_all c.args.arguments
