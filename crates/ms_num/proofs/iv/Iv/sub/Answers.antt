use Rattle.std.proofs.Common.{arith}
use Rattle.std.specs.Prelude.{◌-ℤ◌}
use Rattle.std.proofs.lemmas.Int.{ints}
use Rattle.ms_num.specs.Numbers.{sub_at}
use Rattle.ms_num.specs.Span.{IsLeast, IsResult, sub_span}
use Rattle.ms_num.proofs.SharedSpans.{read_51, if_narrow_some}
use Rattle.ms_num.proofs.SharedImages.{sub_least}
use Rattle.ms_num.proofs.iv.Iv.sub.Goals as goal

pub returns-clause-value : goal.returns-clause-value
returns-clause-value c =
    let a = c.self.inside in
    let b = c.other.inside in
    let i = c.self.invariant in
    let j = c.other.invariant in
    rw (← c.self.view_is, ← c.other.view_is)
    (rw (read_51 a.lo (omega (arith, ints)) (omega (arith, ints)), read_51 a.hi (omega (arith, ints)) (omega (arith, ints)), read_51 b.lo (omega (arith, ints)) (omega (arith, ints)), read_51 b.hi (omega (arith, ints)) (omega (arith, ints)), read_51 (a.lo -ℤ b.hi) (omega (arith, ints)) (omega (arith, ints)), read_51 (a.hi -ℤ b.lo) (omega (arith, ints)) (omega (arith, ints))) at c.narrow.ensures)

pub returns-clause-least : goal.returns-clause-least
returns-clause-least c =
    let a = c.args.self in
    let b = c.args.other in
    if_narrow_some (IsLeast (IsResult sub_at a b)) c.narrow.result (sub_span a b) (returns-clause-value c)
    (sub_least a b (rw (← c.self.view_is) c.self.invariant.ordered) (rw (← c.other.view_is) c.other.invariant.ordered))
