-- Output items: every variable is known, by a point.
use Rattle.std.specs.Prelude.{ℤ, List, [], slice_get, Option, Some, None}
use Rattle.ms_draws.specs.List.{first_word, later_words}
use Rattle.ms_code.specs.declared.code.Code.{Code}
use Rattle.ms_code.specs.declared.code.Reference.{Reference}
use Rattle.ms_code.specs.declared.code.Reference.TheVariants as r
use Rattle.ms_placing.specs.Placing.{placed_from}
use Rattle.ms_placing.specs.Steps.{Out}
use Rattle.ms_values.specs.declared.operand.Operand.{Operand}
use Rattle.ms_walk.specs.Around.{Around, outside_of}
use Rattle.ms_instance.specs.Names.{known_body_of, value_or_nothing}
use Rattle.ms_instance.specs.Points.{known_values}
use Rattle.ms_instance.specs.Views.{read_in, text_of}
use Rattle.ms_instance.specs.declared.instance.Instance.{Instance}

abbrev pub known_in : List Operand → Reference → Operand
known_in values (r.Local k) = value_or_nothing None
known_in values (r.Model k) = value_or_nothing (slice_get values k)
known_in values (r.Library k) = value_or_nothing None
known_in values (r.BuiltIn b) = value_or_nothing None

-- the values of the names, and the bodies of functions where every value is known; there is no incumbent
abbrev pub around_known : Instance → List Operand → Around
around_known i values = record { value = known_in values; body = read_in known_body_of (text_of i); point = None }

-- what an output item comes to where these are the values of the names; it draws no random words
abbrev pub output_by : Instance → List Operand → Code → Out
output_by i values e = placed_from (outside_of (around_known i values) first_word later_words) [] e []

-- on a point
abbrev pub output_at : Instance → List ℤ → Code → Out
output_at i point e = output_by i (known_values i point) e
