use Rattle.std.proofs.Common.{rules}
use Rattle.ms_syntax.specs.declared.tree.Base.TheFolds.{the_lemmas}
use Rattle.ms_declarations.proofs.twice.+twice.Goals as goal

pub check-check_links-requires : goal.check-check_links-requires
check-check_links-requires t c = rw c.deref-in-Equivalence-2.ensures.value (search (rules, the_lemmas))

pub check-check_links-requires-in-Implication : goal.check-check_links-requires-in-Implication
check-check_links-requires-in-Implication t c = rw c.deref-in-Implication-2.ensures.value (search (rules, the_lemmas))

pub check-check_links-requires-in-Disjunction : goal.check-check_links-requires-in-Disjunction
check-check_links-requires-in-Disjunction t c = rw c.deref-in-Disjunction-2.ensures.value (search (rules, the_lemmas))

pub check-check_links-requires-in-Conjunction : goal.check-check_links-requires-in-Conjunction
check-check_links-requires-in-Conjunction t c = rw c.deref-in-Conjunction-2.ensures.value (search (rules, the_lemmas))

pub check-check_links-requires-in-Sum : goal.check-check_links-requires-in-Sum
check-check_links-requires-in-Sum t c = rw c.deref-in-Sum-2.ensures.value (search (rules, the_lemmas))

pub check-check_links-requires-in-Product : goal.check-check_links-requires-in-Product
check-check_links-requires-in-Product t c = rw c.deref-in-Product-2.ensures.value (search (rules, the_lemmas))

pub check-check_links-requires-in-Concatenation : goal.check-check_links-requires-in-Concatenation
check-check_links-requires-in-Concatenation t c = rw c.deref-in-Concatenation-2.ensures.value (search (rules, the_lemmas))

pub check-check_subscripts-requires : goal.check-check_subscripts-requires
check-check_subscripts-requires t c = rw c.deref-in-Access-2.ensures.value (search (rules, the_lemmas))
