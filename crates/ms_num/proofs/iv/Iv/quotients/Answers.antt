use Rattle.std.proofs.Common.{◌≡◌, Some, ap, true, w64, to_z, of_z}
use Rattle.std.specs.Prelude.{ℤ, int_div}
use Rattle.ms_num.specs.Span.{is_within}
use Rattle.ms_num.proofs.SharedSpans.{lo_within, hi_within}
use Rattle.ms_num.proofs.SharedQuotients.{read_quot, quot_within}
use Rattle.ms_num.proofs.iv.Iv.quotients.Goals as goal

within : (x y : ℤ) → is_within x ≡ true → is_within y ≡ true → is_within (to_z w64 (of_z w64 (int_div (to_z w64 (of_z w64 x)) (to_z w64 (of_z w64 y))))) ≡ true
within x y p q = rw (read_quot x y p q) (quot_within x y p)

pub around-requires-clause-p_in : goal.around-requires-clause-p_in
around-requires-clause-p_in c = within c.self.inside.lo c.by.inside.lo (lo_within _ c.self.invariant) (lo_within _ c.by.invariant)

pub around-requires-clause-q_in : goal.around-requires-clause-q_in
around-requires-clause-q_in c = within c.self.inside.lo c.by.inside.hi (lo_within _ c.self.invariant) (hi_within _ c.by.invariant)

pub around-requires-clause-r_in : goal.around-requires-clause-r_in
around-requires-clause-r_in c = within c.self.inside.hi c.by.inside.lo (hi_within _ c.self.invariant) (lo_within _ c.by.invariant)

pub around-requires-clause-s_in : goal.around-requires-clause-s_in
around-requires-clause-s_in c = within c.self.inside.hi c.by.inside.hi (hi_within _ c.self.invariant) (hi_within _ c.by.invariant)

pub returns-clause-value : goal.returns-clause-value
returns-clause-value c =
    let sl = lo_within _ c.self.invariant in
    let sh = hi_within _ c.self.invariant in
    let bl = lo_within _ c.by.invariant in
    let bh = hi_within _ c.by.invariant in
    rw (c.in_ok-by.was, ← c.self.view_is, ← c.by.view_is)
    (ap (λ s. Some s) (rw (read_quot c.self.inside.lo c.by.inside.lo sl bl, read_quot c.self.inside.lo c.by.inside.hi sl bh, read_quot c.self.inside.hi c.by.inside.lo sh bl, read_quot c.self.inside.hi c.by.inside.hi sh bh) at c.around.ensures))
