use Rattle.std.proofs.Common.{◌∙◌, ap, ◌∷◌, []}
use Rattle.std.specs.Prelude.{ℤ, pos}
use Rattle.ms_num.specs.Span.{Span}
use Rattle.ms_session_tests.proofs.Sampled.{opened_admits, high_read}
use Rattle.ms_session_tests.proofs.tests.open_line.Goals as goal

upto : ℤ → Span
upto high = record { lo = pos 1; hi = high }

pub returns-clause-admits : goal.returns-clause-admits
unfolding upto
returns-clause-admits c = opened_admits c.hull_laws.ensures.well_formed c.args.high c.requires.low c.requires.high c.in_ok-from_iv.field-0 c.declared_order.result [] c.open.result (c.in_ok-from_iv.ensures ∙ ap (λ v. v ∷ []) (c.new.ensures ∙ ap upto (high_read c.args.high c.requires.low c.requires.high))) c.open.ensures.opening
