-- Evaluation steps, and what is tested at a node.
use Rattle.std.specs.Prelude.{ℕ, zero, suc, nat_le, List, Option, Some, None, if◌then◌else◌}
use Rattle.ms_base.specs.declared.run.Count.TheVariants as count
use Rattle.ms_base.specs.declared.limits.TheConstants.{ELEMENT_LIMIT, TREE_NESTING_LIMIT}
use Rattle.ms_syntax.specs.declared.token.Place.{Place}
use Rattle.ms_values.specs.declared.operand.Operand.{Operand}
use Rattle.ms_rules.specs.Operands.{elements_of, nesting_of}
use Rattle.ms_placing.specs.declared.fault.PlaceFault.{PlaceFault}
use Rattle.ms_placing.specs.declared.fault.PlaceFault.TheVariants as f

-- an operand with the place of its node, or the first fault, with the evaluation steps and the state of the random words
-- that are left
pub data Out : Type 0 where
  ok : Place → Operand → ℕ → List ℕ → Out
  bad : PlaceFault → ℕ → List ℕ → Out

-- from the steps and the words that are left
abbrev pub Step : Type 0
Step = ℕ → List ℕ → Out

-- what is done with the operand of a node with this place
abbrev pub Rest : Type 0
Rest = Place → Operand → Step

-- one evaluation step
abbrev pub tick : Place → Step → Step
tick p k zero ws = bad (f.Big count.Steps p) zero ws
tick p k (suc n) ws = k n ws

abbrev pub fail : PlaceFault → Step
fail fault n ws = bad fault n ws

-- a tree goes on where it nests no deeper than the limit
abbrev pub shallow : Place → ℕ → Step → Step
shallow p nesting k n ws = if nat_le nesting TREE_NESTING_LIMIT then k n ws else bad (f.Big count.Nesting p) n ws

-- an operand within the limits goes on
abbrev pub limited : Place → Operand → Rest → Step
limited p x k n ws =
    if nat_le (elements_of x) ELEMENT_LIMIT then shallow p (nesting_of x) (k p x) n ws else bad (f.Big count.Elements p) n ws

abbrev pub settle : Place → Option Operand → Rest → Step
settle p None k n ws = bad (f.Wide p) n ws
settle p (Some x) k n ws = limited p x k n ws

-- a node is visited: a step, and then its operand, unless it leaves the limits
abbrev pub visit : Place → Option Operand → Rest → Step
visit p x k = tick p (settle p x k)
