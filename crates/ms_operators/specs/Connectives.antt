-- Chains of `/\` or of `\/` alone.
use Rattle.std.specs.Prelude.{Bool, true, false, List, []}
use Rattle.ms_tree_nodes.specs.Nodes.{all, some}
use Rattle.ms_values.specs.declared.operand.Placed.{Placed}
use Rattle.ms_rules.specs.Operators.{Operands, both_true, either_true}
use Rattle.ms_operators.specs.declared.junction.Connective.{Connective}
use Rattle.ms_operators.specs.declared.junction.Connective.TheVariants.{Conjunction, Disjunction}

abbrev pub truth_by : Connective → Bool → Bool → Bool
truth_by Conjunction = both_true
truth_by Disjunction = either_true

abbrev pub node_by : Connective → List Placed → Placed
node_by Conjunction = all
node_by Disjunction = some

-- the truth value of no operand
abbrev pub neutral : Connective → Bool
neutral Conjunction = true
neutral Disjunction = false

-- no operand yet
abbrev pub no_operands : Connective → Operands
no_operands f = record { known = true; truth = neutral f; parts = [] }
