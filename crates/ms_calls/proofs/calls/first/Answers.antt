use Rattle.std.proofs.Common.{◌∙◌, sym, ap}
use Rattle.ms_calls.specs.Arguments.{first_from}
use Rattle.ms_calls.proofs.Arguments.{first_of as of_all}
use Rattle.ms_calls.proofs.calls.first.Goals as goal

pub returns : goal.returns
returns c = sym (ap (λ rest. first_from rest c.all.first) c.in_default.ensures.0) ∙ sym c.all.invariant ∙ of_all c.args.arguments
