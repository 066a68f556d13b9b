use Rattle.ms_trees.proofs.Smaller.{node_less, sorted_on_smaller}
use Rattle.ms_trees.proofs.Exact.{node_exact, sorted_on_point}
use Rattle.ms_trees.proofs.laws.node_laws.Goals as goal

pub returns-clause-step : goal.returns-clause-step
returns-clause-step c = node_less

pub returns-clause-exact : goal.returns-clause-exact
returns-clause-exact c = node_exact

pub returns-clause-smaller : goal.returns-clause-smaller
returns-clause-smaller c = sorted_on_smaller

pub returns-clause-single : goal.returns-clause-single
returns-clause-single c = sorted_on_point
