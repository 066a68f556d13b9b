-- An expression over an instance: what stands around it, and what it is placed to.
use Rattle.std.specs.Prelude.{ℕ, ℤ, List, Option}
use Rattle.ms_syntax.specs.Tree.{Ex}
use Rattle.ms_placing.specs.Placing.{placed_from}
use Rattle.ms_placing.specs.Steps.{Out}
use Rattle.ms_types.specs.Texts.{names_among}
use Rattle.ms_walk.specs.Around.{Around, outside_of}
use Rattle.ms_instance.specs.Names.{body_of}
use Rattle.ms_instance.specs.Views.{read_in, spans_of, text_of, value_in}
use Rattle.ms_instance.specs.declared.instance.Instance.{Instance}
use Rattle.ms_env.specs.Entries.{operands_in}
use Rattle.ms_env.specs.Envs.{code_in}
use Rattle.ms_env.specs.declared.env.Entry.{Entry}

-- the names of the model and the bodies of functions, with the incumbent
abbrev pub around_of : Instance → Option (List ℤ) → Around
around_of i point = record { value = value_in i; body = read_in body_of (text_of i); point = point }

-- an expression among these names, from all the steps of one placing, by the state of the random words
abbrev pub grounded : Instance → List Entry → Option (List ℤ) → (List ℕ → ℕ) → (List ℕ → List ℕ) → Ex → List ℕ → Out
grounded i es point word_of after e ws =
    placed_from (outside_of (around_of i point) word_of after) (operands_in (spans_of i) es) (code_in (names_among (text_of i)) es e) ws
