use Rattle.std.proofs.Common.{rules, SFits, w64, ◌∙◌, ap, sym}
use Rattle.std.proofs.lemmas.Int.{to_z-of_z}
use Rattle.ms_num.specs.Sets.{Set}
use Rattle.ms_trail.proofs.trail.Trail.holds.Goals as goal

pub has-requires : goal.has-requires
has-requires c = rw (c.lists.ensures, c.row.ensures.value) c.requires.read.proper

pub returns : goal.returns
returns c =
    let n : SFits w64 c.args.n = search rules in
    rw (c.lists.ensures, c.row.ensures.value, to_z-of_z w64 c.args.n n) at c.has.ensures ∙ ap (λ (s : Set). s.has c.args.n) (sym c.requires.read.set)
