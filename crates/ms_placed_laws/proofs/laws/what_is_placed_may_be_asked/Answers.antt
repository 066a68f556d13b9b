use Rattle.ms_placed_laws.proofs.Whole as w
use Rattle.ms_placed_laws.proofs.laws.what_is_placed_may_be_asked.Goals as goal

pub returns-clause-parts : goal.returns-clause-parts
returns-clause-parts c = w.placing_goes_well

pub returns-clause-calls : goal.returns-clause-calls
returns-clause-calls c = w.calling_goes_well

pub returns-clause-whole : goal.returns-clause-whole
returns-clause-whole c = w.placed_may_be_asked

pub returns-clause-integers : goal.returns-clause-integers
returns-clause-integers c = w.integers_nest

pub returns-clause-conditions : goal.returns-clause-conditions
returns-clause-conditions c = w.conditions_nest
