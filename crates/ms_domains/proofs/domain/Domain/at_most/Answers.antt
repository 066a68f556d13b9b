use Rattle.std.proofs.Common.{[], rules, SFits, w64, ◌∙◌}
use Rattle.std.specs.Prelude.{int_le}
use Rattle.std.proofs.lemmas.Int.{to_z-of_z}
use Rattle.ms_domains.proofs.Rows.{window_set, row_set, window_part, row_part, whole_upper}
use Rattle.ms_domains.proofs.domain.Domain.at_most.Goals as goal

pub up_to-requires-clause-set : goal.up_to-requires-clause-set
up_to-requires-clause-set c = window_set [] c.args.row.now c.args.self c.in-Window.base c.in-Window.bits c.requires.proper c.in-Window.is

pub up_to-requires-in-Row-clause-set : goal.up_to-requires-in-Row-clause-set
up_to-requires-in-Row-clause-set c = row_set [] c.args.row.now c.args.self c.in-Row.base c.in-Row.at c.in-Row.bits c.requires.few c.requires.proper c.in-Row.is

pub returns-in-Window-clause-proper : goal.returns-in-Window-clause-proper
returns-in-Window-clause-proper c =
    let n : SFits w64 c.args.n = search rules in
    (window_part c.args.row.now (λ n z. int_le z n) _ c.args.n c.args.self c.up_to.result c.in-Window.base c.in-Window.bits (to_z-of_z w64 c.args.n n) c.requires.proper c.in-Window.is c.up_to.ensures).0

pub returns-in-Window-clause-cut : goal.returns-in-Window-clause-cut
returns-in-Window-clause-cut c =
    let n : SFits w64 c.args.n = search rules in
    (window_part c.args.row.now (λ n z. int_le z n) _ c.args.n c.args.self c.up_to.result c.in-Window.base c.in-Window.bits (to_z-of_z w64 c.args.n n) c.requires.proper c.in-Window.is c.up_to.ensures).1

pub returns-in-Row-clause-proper : goal.returns-in-Row-clause-proper
returns-in-Row-clause-proper c =
    let n : SFits w64 c.args.n = search rules in
    (row_part c.args.row.now (λ n z. int_le z n) _ c.args.n c.args.self c.up_to-in-Row.result c.in-Row.base c.in-Row.at c.in-Row.bits (to_z-of_z w64 c.args.n n) c.requires.proper c.in-Row.is c.up_to-in-Row.ensures).0

pub returns-in-Row-clause-cut : goal.returns-in-Row-clause-cut
returns-in-Row-clause-cut c =
    let n : SFits w64 c.args.n = search rules in
    (row_part c.args.row.now (λ n z. int_le z n) _ c.args.n c.args.self c.up_to-in-Row.result c.in-Row.base c.in-Row.at c.in-Row.bits (to_z-of_z w64 c.args.n n) c.requires.proper c.in-Row.is c.up_to-in-Row.ensures).1

pub returns-in-Whole-clause-proper : goal.returns-in-Whole-clause-proper
returns-in-Whole-clause-proper c =
    let n : SFits w64 c.args.n = search rules in
    let lo : SFits w64 c.args.self.lo = search rules in
    (whole_upper c.args.row.now c.args.self c.between.result c.args.n c.requires.proper c.in-Whole.is c.requires.low c.requires.high (c.between.ensures.lo ∙ to_z-of_z w64 c.args.self.lo lo) (c.between.ensures.hi ∙ to_z-of_z w64 c.args.n n) c.between.ensures.whole (rw (to_z-of_z w64 c.args.self.lo lo, to_z-of_z w64 c.args.n n) at c.between.ensures.size)).0

pub returns-in-Whole-clause-cut : goal.returns-in-Whole-clause-cut
returns-in-Whole-clause-cut c =
    let n : SFits w64 c.args.n = search rules in
    let lo : SFits w64 c.args.self.lo = search rules in
    (whole_upper c.args.row.now c.args.self c.between.result c.args.n c.requires.proper c.in-Whole.is c.requires.low c.requires.high (c.between.ensures.lo ∙ to_z-of_z w64 c.args.self.lo lo) (c.between.ensures.hi ∙ to_z-of_z w64 c.args.n n) c.between.ensures.whole (rw (to_z-of_z w64 c.args.self.lo lo, to_z-of_z w64 c.args.n n) at c.between.ensures.size)).1
