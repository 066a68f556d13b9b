-- What the conditions of an `if` are to be.
use Rattle.std.specs.Prelude.{true, not}
use Rattle.ms_typing.specs.declared.types.ExprType.{ExprType}
use Rattle.ms_typing.specs.Conversion.{known_of, truths}
use Rattle.ms_typing.specs.Meaning.{is_search}
use Rattle.ms_typing.specs.Row.{search_condition}
use Rattle.ms_rows.specs.declared.choice.Conditions as code
use Rattle.ms_rows.specs.declared.choice.Conditions.TheVariants as c

abbrev pub condition_asked : code.Conditions → ExprType → ExprType
condition_asked c.Known = λ t. truths true
condition_asked c.Own = λ t. truths (known_of t)
condition_asked c.Search = λ t. search_condition (not (is_search t))
