use Rattle.ms_rules.specs.Cells.{numbers_of}
use Rattle.ms_rules_laws.proofs.Accesses as a
use Rattle.ms_rules_laws.proofs.Elements as e
use Rattle.ms_rules_laws.proofs.Functions as f
use Rattle.ms_rules_laws.proofs.Known as k
use Rattle.ms_rules_laws.proofs.Operators as o
use Rattle.ms_rules_laws.proofs.laws.rules_keep.Goals as goal

pub returns-clause-numbers : goal.returns-clause-numbers
returns-clause-numbers c = k.known

pub returns-clause-sets : goal.returns-clause-sets
returns-clause-sets c = λ sets cs h. k.ranges_of (numbers_of cs) (e.numbers_read sets cs h)

pub returns-clause-members : goal.returns-clause-members
returns-clause-members c = k.numbers_of_set

pub returns-clause-no_elements : goal.returns-clause-no_elements
returns-clause-no_elements c = e.none_fit

pub returns-clause-elements : goal.returns-clause-elements
returns-clause-elements c = e.one_more

pub returns-clause-operators : goal.returns-clause-operators
returns-clause-operators c = o.join

pub returns-clause-signs : goal.returns-clause-signs
returns-clause-signs c = o.signed

pub returns-clause-choices : goal.returns-clause-choices
returns-clause-choices c = o.choice

pub returns-clause-more_operands : goal.returns-clause-more_operands
returns-clause-more_operands c = o.with_operand

pub returns-clause-chains : goal.returns-clause-chains
returns-clause-chains c = o.over_operands

pub returns-clause-accesses : goal.returns-clause-accesses
returns-clause-accesses c = a.access

pub returns-clause-calls : goal.returns-clause-calls
returns-clause-calls c = f.call

pub returns-clause-conversions : goal.returns-clause-conversions
returns-clause-conversions c = e.convert
