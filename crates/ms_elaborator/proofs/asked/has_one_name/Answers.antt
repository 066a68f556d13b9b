use Rattle.std.proofs.Common.{rules}
use Rattle.ms_syntax.specs.declared.tree.Expr.{the_lemmas}
use Rattle.ms_elaborator.proofs.Counts.{no_more, one_name}
use Rattle.ms_elaborator.proofs.asked.has_one_name.Goals as goal

pub returns-in-None-split_first : goal.returns-in-None-split_first
returns-in-None-split_first c =
    let e = no_more c.in-Some.others.now c.in-None-split_first.ensures.cases in
    rw c.in-Some.ensures.cases.0 (rw e (search (rules, the_lemmas, one_name)))
