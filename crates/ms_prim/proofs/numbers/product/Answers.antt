use Rattle.std.proofs.Common.{◌≡◌, refl, sym, ap, ◌∙◌, w64, SFits, rules}
use Rattle.std.specs.Int.{w128}
use Rattle.std.specs.Prelude.{◌*ℤ◌}
use Rattle.std.proofs.lemmas.Int.{to_z-of_z}
use Rattle.ms_prim.proofs.Bounds.{product_low, product_high}
use Rattle.ms_prim.proofs.numbers.product.Goals as goal

pub returns-clause-low : goal.returns-clause-low
returns-clause-low c =
    let x = c.args.x in
    let y = c.args.y in
    let r : SFits w128 c.multiplied.result = search rules in
    let e : c.multiplied.result ≡ x *ℤ y = rw (to_z-of_z w64 x c.ranges.x, to_z-of_z w64 y c.ranges.y) at c.multiplied.ensures in
    rw (to_z-of_z w128 c.multiplied.result r, e) (product_low c.interval_law.ensures.products x y c.requires.left c.requires.right)

pub returns-clause-high : goal.returns-clause-high
returns-clause-high c =
    let x = c.args.x in
    let y = c.args.y in
    let r : SFits w128 c.multiplied.result = search rules in
    let e : c.multiplied.result ≡ x *ℤ y = rw (to_z-of_z w64 x c.ranges.x, to_z-of_z w64 y c.ranges.y) at c.multiplied.ensures in
    rw (to_z-of_z w128 c.multiplied.result r, e) (product_high c.interval_law.ensures.products x y c.requires.left c.requires.right)
