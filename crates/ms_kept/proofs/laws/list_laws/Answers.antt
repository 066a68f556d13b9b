use Rattle.ms_kept.proofs.Listed as k
use Rattle.ms_kept.proofs.laws.list_laws.Goals as goal

pub returns-clause-total : goal.returns-clause-total
returns-clause-total c = k.total

pub returns-clause-extreme : goal.returns-clause-extreme
returns-clause-extreme c = k.extreme

pub returns-clause-count : goal.returns-clause-count
returns-clause-count c = k.count

pub returns-clause-element : goal.returns-clause-element
returns-clause-element c = k.element

pub returns-clause-element_of_grid : goal.returns-clause-element_of_grid
returns-clause-element_of_grid c = k.element_of_grid

pub returns-clause-all : goal.returns-clause-all
returns-clause-all c = k.all

pub returns-clause-some : goal.returns-clause-some
returns-clause-some c = k.some

pub returns-clause-distinct : goal.returns-clause-distinct
returns-clause-distinct c = k.distinct

pub returns-clause-rowed : goal.returns-clause-rowed
returns-clause-rowed c = k.rowed
