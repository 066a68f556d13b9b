-- What stands outside an expression, but for the random words.
use Rattle.std.specs.Prelude.{ℕ, ℤ, List, Option}
use Rattle.ms_code.specs.declared.code.Code.{Code}
use Rattle.ms_code.specs.declared.code.Reference.{Reference}
use Rattle.ms_values.specs.declared.operand.Operand.{Operand}
use Rattle.ms_placing.specs.Outside.{Outside}

pub record Around : Type 0 where
  pub value : Reference → Operand
  pub body : Reference → Option Code
  pub point : Option (List ℤ)

-- with the random words
abbrev pub outside_of : Around → (List ℕ → ℕ) → (List ℕ → List ℕ) → Outside
outside_of a word_of after = record { value = a.value; body = a.body; point = a.point; word_of = word_of; after = after }
