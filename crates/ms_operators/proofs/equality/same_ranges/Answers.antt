use Rattle.std.proofs.Common.{◌≡◌, ◌∙◌, refl, ◌&&◌}
use Rattle.ms_num.specs.Numbers.{int_eq}
use Rattle.ms_num.specs.Span.{Span}
use Rattle.ms_num.specs.contracts.iv.IvPartialEq.TheImpl as the_impl
use Rattle.ms_operators.proofs.SameRanges.{by_order, point_by_point}
use Rattle.ms_operators.proofs.equality.same_ranges.Goals as goal

same_ends : (s t : Span) → the_impl.eq-value.it s t ≡ (int_eq s.lo t.lo && int_eq s.hi t.hi)
same_ends s t = rw (by_order s.lo t.lo, by_order s.hi t.hi) refl

pub returns : goal.returns
returns c = c.eq.ensures ∙ point_by_point the_impl.eq-value.it same_ends c.args.xs.now c.args.ys.now
