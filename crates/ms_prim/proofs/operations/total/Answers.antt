use Rattle.std.proofs.Common.{◌≡◌, ◌+ℤ◌, pos, to_z, SFits, rules, arith, ◌+◌}
use Rattle.std.specs.Int.{w128}
use Rattle.std.specs.Prelude.{ℤ}
use Rattle.std.proofs.lemmas.Int.{to_z-of_z}
use Rattle.ms_prim.specs.declared.pieces.Term.{Term}
use Rattle.ms_prim.proofs.Reading.{next_total, fits_total}
use Rattle.ms_prim.proofs.operations.total.Goals as goal

pub loop-term-preserved : goal.loop-term-preserved
loop-term-preserved c =
    let l = c.loop-term in
    let e = c.term_value-sum.ensures in
    let p = c.term_value-sum.result in
    let s = to_z w128 l.sum-bits in
    let d : Term = record { factor = pos 0; var = 0 } in
    let f : SFits w128 p = search rules in
    let n = next_total c.args.point.now c.args.terms.now l.term-index d s p c.loop-term-test.true e.value e.low e.high l.invariant.rest l.invariant.low l.invariant.high in
    let few = c.requires.few in
    let below = c.loop-term-test.true in
    let g : SFits w128 (s +ℤ p) = fits_total (s +ℤ p) (l.term-index + 1) (omega (arith, few, below)) n.low n.high in
    record { rest = rw (to_z-of_z w128 p f, to_z-of_z w128 (s +ℤ p) g) n.rest; low = rw (to_z-of_z w128 p f, to_z-of_z w128 (s +ℤ p) g) n.low; high = rw (to_z-of_z w128 p f, to_z-of_z w128 (s +ℤ p) g) n.high }
