use Rattle.std.proofs.Common.{◌∙◌, sym, ap}
use Rattle.ms_calls.specs.Arguments.{three_from}
use Rattle.ms_calls.proofs.Arguments.{first_three as of_all}
use Rattle.ms_calls.proofs.calls.first_three.Goals as goal

pub returns : goal.returns
returns c = sym (ap (λ rest. three_from rest c.all.found) c.in_default.ensures.0) ∙ sym c.all.invariant ∙ of_all c.args.arguments
