use Rattle.ms_rules_laws.proofs.Nodes as t
use Rattle.ms_rules_laws.proofs.laws.nodes_keep.Goals as goal

pub returns-clause-sum : goal.returns-clause-sum
returns-clause-sum c = t.sum

pub returns-clause-difference : goal.returns-clause-difference
returns-clause-difference c = t.difference

pub returns-clause-product : goal.returns-clause-product
returns-clause-product c = t.product

pub returns-clause-quotient : goal.returns-clause-quotient
returns-clause-quotient c = t.quotient

pub returns-clause-remainder : goal.returns-clause-remainder
returns-clause-remainder c = t.remainder

pub returns-clause-negation : goal.returns-clause-negation
returns-clause-negation c = t.negation

pub returns-clause-magnitude : goal.returns-clause-magnitude
returns-clause-magnitude c = t.magnitude

pub returns-clause-total : goal.returns-clause-total
returns-clause-total c = t.total

pub returns-clause-count : goal.returns-clause-count
returns-clause-count c = t.count

pub returns-clause-bit : goal.returns-clause-bit
returns-clause-bit c = t.bit

pub returns-clause-choice : goal.returns-clause-choice
returns-clause-choice c = t.choice

pub returns-clause-choice_of_truths : goal.returns-clause-choice_of_truths
returns-clause-choice_of_truths c = t.choice_of_truths

pub returns-clause-all : goal.returns-clause-all
returns-clause-all c = t.all

pub returns-clause-some : goal.returns-clause-some
returns-clause-some c = t.some

pub returns-clause-denial : goal.returns-clause-denial
returns-clause-denial c = t.denial

pub returns-clause-equivalence : goal.returns-clause-equivalence
returns-clause-equivalence c = t.equivalence

pub returns-clause-implication : goal.returns-clause-implication
returns-clause-implication c = t.implication

pub returns-clause-exclusive : goal.returns-clause-exclusive
returns-clause-exclusive c = t.exclusive

pub returns-clause-equal : goal.returns-clause-equal
returns-clause-equal c = t.equal

pub returns-clause-unequal : goal.returns-clause-unequal
returns-clause-unequal c = t.unequal

pub returns-clause-less : goal.returns-clause-less
returns-clause-less c = t.less

pub returns-clause-at_most : goal.returns-clause-at_most
returns-clause-at_most c = t.at_most

pub returns-clause-distinct : goal.returns-clause-distinct
returns-clause-distinct c = t.distinct

pub returns-clause-extreme : goal.returns-clause-extreme
returns-clause-extreme c = λ which sets xs h. t.extreme sets which xs h

pub returns-clause-element : goal.returns-clause-element
returns-clause-element c = λ low sets xs y h k. t.element sets low xs y h k

pub returns-clause-element_of_grid : goal.returns-clause-element_of_grid
returns-clause-element_of_grid c = λ low left width sets xs x y h k m. t.element_of_grid sets low left width xs x y h k m

pub returns-clause-member : goal.returns-clause-member
returns-clause-member c = λ rs sets x h. t.member sets rs x h

pub returns-clause-rowed : goal.returns-clause-rowed
returns-clause-rowed c = λ rows sets xs h. t.rowed sets rows xs h
