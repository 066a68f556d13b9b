use Rattle.ms_kept.proofs.Nodes as k
use Rattle.ms_kept.proofs.laws.truth_laws.Goals as goal

pub returns-clause-denial : goal.returns-clause-denial
returns-clause-denial c = k.denial

pub returns-clause-equivalence : goal.returns-clause-equivalence
returns-clause-equivalence c = k.equivalence

pub returns-clause-implication : goal.returns-clause-implication
returns-clause-implication c = k.implication

pub returns-clause-exclusive : goal.returns-clause-exclusive
returns-clause-exclusive c = k.exclusive

pub returns-clause-choice : goal.returns-clause-choice
returns-clause-choice c = k.choice_of_truths

pub returns-clause-equal : goal.returns-clause-equal
returns-clause-equal c = k.equal

pub returns-clause-unequal : goal.returns-clause-unequal
returns-clause-unequal c = k.unequal

pub returns-clause-less : goal.returns-clause-less
returns-clause-less c = k.less

pub returns-clause-at_most : goal.returns-clause-at_most
returns-clause-at_most c = k.at_most

pub returns-clause-member : goal.returns-clause-member
returns-clause-member c = k.member
