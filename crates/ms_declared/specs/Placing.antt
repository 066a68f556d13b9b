-- One placing: an expression with the names of the model around it, from all the steps, and with no random words.
use Rattle.std.specs.Prelude.{[]}
use Rattle.ms_syntax.specs.declared.token.Place.{Place}
use Rattle.ms_draws.specs.List.{first_word, later_words}
use Rattle.ms_code.specs.declared.code.Code.{Code}
use Rattle.ms_values.specs.declared.operand.Operand.{Operand}
use Rattle.ms_placing.specs.Placing.{placed_from}
use Rattle.ms_placing.specs.Steps.{Out, ok, bad}
use Rattle.ms_placing.specs.declared.fault.PlaceFault.{PlaceFault}
use Rattle.ms_placing.specs.declared.fault.PlaceFault.TheVariants as f
use Rattle.ms_walk.specs.Around.{Around, outside_of}
use Rattle.ms_declared.specs.Made.{Made, made, faulty}
use Rattle.ms_declared.specs.declared.fault.ValueFault.{ValueFault}
use Rattle.ms_declared.specs.declared.fault.ValueFault.TheVariants as v

abbrev pub fault_of : PlaceFault → ValueFault
fault_of (f.Wide p) = v.Wide p
fault_of (f.Big count p) = v.Big count p
fault_of f.Memory = v.Memory

abbrev pub came : Out → Made (Place × Operand)
came (ok p x n ws) = made (p, x)
came (bad fault n ws) = faulty (fault_of fault)

-- what an expression comes to, with the place of its node
unfoldable pub placed_in : Around → Code → Made (Place × Operand)
placed_in a e = came (placed_from (outside_of a first_word later_words) [] e [])
