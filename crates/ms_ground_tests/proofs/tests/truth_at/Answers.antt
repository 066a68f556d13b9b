use Rattle.std.proofs.Common.{◌≡◌, ◌∙◌, sym, rules, w64, SFits}
use Rattle.std.proofs.lemmas.Int.{to_z-of_z}
use Rattle.ms_ground_tests.proofs.tests.truth_at.Goals as goal

pub holds-requires : goal.holds-requires
holds-requires c =
    let x : SFits w64 c.from.result = search rules in
    let y : SFits w64 c.from-2.result = search rules in
    let b : SFits w64 c.from-3.result = search rules in
    rw (to_z-of_z w64 c.from.result x, to_z-of_z w64 c.from-2.result y, to_z-of_z w64 c.from-3.result b, c.from.ensures, c.from-2.ensures, c.from-3.ensures)
    (sym (rw (c.single.ensures, c.single-2.ensures, c.single-3.ensures) at c.is_well_formed.ensures) ∙ c.if-is_well_formed.true)
