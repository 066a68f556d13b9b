use Rattle.ms_rules_laws.proofs.Nodes as t
use Rattle.ms_rules_laws.proofs.laws.trees_are_fit.Goals as goal

pub returns-clause-variables : goal.returns-clause-variables
returns-clause-variables c = t.variable

pub returns-clause-bit_variables : goal.returns-clause-bit_variables
returns-clause-bit_variables c = t.bit_variable

pub returns-clause-numbers : goal.returns-clause-numbers
returns-clause-numbers c = t.number_leaf

pub returns-clause-truths : goal.returns-clause-truths
returns-clause-truths c = t.truth_leaf

pub returns-clause-integers : goal.returns-clause-integers
returns-clause-integers c = t.integer_tree

pub returns-clause-booleans : goal.returns-clause-booleans
returns-clause-booleans c = t.boolean_tree
