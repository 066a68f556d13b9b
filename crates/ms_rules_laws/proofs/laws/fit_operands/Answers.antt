use Rattle.ms_rules_laws.proofs.Elements.{condition_read, constraints_are_trees, integer_read}
use Rattle.ms_rules_laws.proofs.Limits.{nesting_is_own}
use Rattle.ms_rules_laws.proofs.laws.fit_operands.Goals as goal

pub returns-clause-constraints : goal.returns-clause-constraints
returns-clause-constraints c = constraints_are_trees

pub returns-clause-nesting : goal.returns-clause-nesting
returns-clause-nesting c = nesting_is_own

pub returns-clause-integers : goal.returns-clause-integers
returns-clause-integers c = integer_read

pub returns-clause-conditions : goal.returns-clause-conditions
returns-clause-conditions c = condition_read
