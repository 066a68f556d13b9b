use Rattle.std.proofs.Common.{◌≡◌, refl, true, sym, w64}
use Rattle.std.specs.Prelude.{ℤ, pos, int_rem}
use Rattle.std.proofs.lemmas.Int.{to_z-of_z}
use Rattle.ms_num.specs.Span.{IsWithin, is_within}
use Rattle.ms_num.proofs.SharedSpans.{read_within}
use Rattle.ms_num.proofs.SharedRemainders.{rem_within, mod_at_is}
use Rattle.ms_trees.proofs.Bools.{and_true, of_le}
use Rattle.ms_prim.proofs.numbers.remainder.Goals as goal

within_test : (x : ℤ) → IsWithin x → is_within x ≡ true
within_test x h = and_true _ _ (of_le _ _ h.low) (of_le _ _ h.high)

pub returns-else-y-eq0 : goal.returns-else-y-eq0
returns-else-y-eq0 c =
    let x = c.args.x in
    let y = c.args.y in
    let not_zero : (y ≡ pos 0) → ⊥ = λ e. c.if-y-eq0.false (rw e refl) in
    rw (to_z-of_z w64 x c.ranges.x, to_z-of_z w64 y c.ranges.y, read_within (int_rem x y) (rem_within x y (within_test x c.requires))) (sym (mod_at_is x y not_zero))
