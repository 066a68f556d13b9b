-- What stands outside an expression of the model.
use Rattle.std.specs.Prelude.{ℕ, ℤ, List, slice_get, Option, Some, None}
use Rattle.ms_code.specs.declared.code.Code.{Code}
use Rattle.ms_code.specs.declared.code.Reference.{Reference}
use Rattle.ms_code.specs.declared.code.Reference.TheVariants as n
use Rattle.ms_code.specs.declared.item.Function.{Function}
use Rattle.ms_code.specs.declared.item.Item.{Item}
use Rattle.ms_code.specs.declared.item.Item.TheVariants as i
use Rattle.ms_values.specs.declared.operand.Operand.{Operand}
use Rattle.ms_rules.specs.Calls.{nothing}
use Rattle.ms_walk.specs.Around.{Around}

abbrev pub value_or_nothing : Option Operand → Operand
value_or_nothing (Some x) = x
value_or_nothing None = nothing

abbrev pub value_at : List Operand → ℕ → Operand
value_at xs k = value_or_nothing (slice_get xs k)

abbrev pub body_of : Item → Option Code
body_of (i.Function f) = Some f.body
body_of other = None

abbrev pub body_or_none : Option Item → Option Code
body_or_none (Some it) = body_of it
body_or_none None = None

abbrev pub body_at : List Item → ℕ → Option Code
body_at is k = body_or_none (slice_get is k)

abbrev pub value_in : List Operand → Reference → Operand
value_in xs (n.Model k) = value_at xs k
value_in xs other = nothing

abbrev pub body_in : List Item → Reference → Option Code
body_in is (n.Model k) = body_at is k
body_in is other = None

abbrev pub around : List Operand → List Item → Around
around xs is = record { value = value_in xs; body = body_in is; point = None }
