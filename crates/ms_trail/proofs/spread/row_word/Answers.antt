use Rattle.std.proofs.Common.{rules, SFits, w64, ◌∙◌}
use Rattle.std.proofs.lemmas.Int.{to_z-of_z}
use Rattle.ms_trail.proofs.Filling.{word_whole, word_counted}
use Rattle.ms_trail.proofs.spread.row_word.Goals as goal

pub returns-in-Some : goal.returns-in-Some
returns-in-Some c =
    let base : SFits w64 c.row_base.result = search rules in
    let lo : SFits w64 c.args.domain.lo = search rules in
    word_counted c.args.lists.now c.args.row.now c.args.domain c.args.i c.word_from.result _ (to_z-of_z w64 c.row_base.result base ∙ rw (to_z-of_z w64 c.args.domain.lo lo) at c.row_base.ensures) c.word_from.ensures

pub returns-in-None : goal.returns-in-None
returns-in-None c = word_whole c.args.lists.now c.args.row.now c.args.domain c.args.i c.requires.free c.in-None.ensures
