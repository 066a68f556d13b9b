-- What stands outside an expression that is placed.
use Rattle.std.specs.Prelude.{ℕ, ℤ, List, Option}
use Rattle.ms_code.specs.declared.code.Code.{Code}
use Rattle.ms_code.specs.declared.code.Reference.{Reference}
use Rattle.ms_values.specs.declared.operand.Operand.{Operand}

pub record Outside : Type 0 where
  -- what a name is placed to; a local is counted from the latest that was declared outside the expression
  pub value : Reference → Operand
  -- the body of a function
  pub body : Reference → Option Code
  -- the incumbent: the number of each variable, in the order of the variables
  pub point : Option (List ℤ)
  -- the random word that a state gives, and the state after it
  pub word_of : List ℕ → ℕ
  pub after : List ℕ → List ℕ
