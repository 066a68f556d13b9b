use Rattle.ms_kept.proofs.Nodes as k
use Rattle.ms_kept.proofs.laws.number_laws.Goals as goal

pub returns-clause-sum : goal.returns-clause-sum
returns-clause-sum c = k.sum

pub returns-clause-difference : goal.returns-clause-difference
returns-clause-difference c = k.difference

pub returns-clause-product : goal.returns-clause-product
returns-clause-product c = k.product

pub returns-clause-quotient : goal.returns-clause-quotient
returns-clause-quotient c = k.quotient

pub returns-clause-remainder : goal.returns-clause-remainder
returns-clause-remainder c = k.remainder

pub returns-clause-negation : goal.returns-clause-negation
returns-clause-negation c = k.negation

pub returns-clause-magnitude : goal.returns-clause-magnitude
returns-clause-magnitude c = k.magnitude

pub returns-clause-bit : goal.returns-clause-bit
returns-clause-bit c = k.bits

pub returns-clause-choice : goal.returns-clause-choice
returns-clause-choice c = k.choice
