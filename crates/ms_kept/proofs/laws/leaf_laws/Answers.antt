use Rattle.std.proofs.Common.{refl}
use Rattle.ms_kept.proofs.Nodes as k
use Rattle.ms_kept.proofs.laws.leaf_laws.Goals as goal

pub returns-clause-tree : goal.returns-clause-tree
returns-clause-tree c = λ sets t. refl

pub returns-clause-number : goal.returns-clause-number
returns-clause-number c = k.numbers

pub returns-clause-truth : goal.returns-clause-truth
returns-clause-truth c = k.truths

pub returns-clause-variable : goal.returns-clause-variable
returns-clause-variable c = k.variables

pub returns-clause-bit_variable : goal.returns-clause-bit_variable
returns-clause-bit_variable c = k.bit_variables
