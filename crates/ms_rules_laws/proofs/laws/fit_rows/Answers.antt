use Rattle.ms_rules_laws.proofs.Rows as r
use Rattle.ms_rules_laws.proofs.laws.fit_rows.Goals as goal

pub returns-clause-number : goal.returns-clause-number
returns-clause-number c = r.number

pub returns-clause-outside : goal.returns-clause-outside
returns-clause-outside c = r.outside

pub returns-clause-variable : goal.returns-clause-variable
returns-clause-variable c = r.variable

pub returns-clause-unknown : goal.returns-clause-unknown
returns-clause-unknown c = r.unknown

pub returns-clause-sort : goal.returns-clause-sort
returns-clause-sort c = r.sort

pub returns-clause-meaning : goal.returns-clause-meaning
returns-clause-meaning c = r.meaning

pub returns-clause-array : goal.returns-clause-array
returns-clause-array c = r.array

pub returns-clause-element : goal.returns-clause-element
returns-clause-element c = r.element
