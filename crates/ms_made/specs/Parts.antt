-- The parts of an instance, or its first fault.
use Rattle.std.specs.Prelude.{◌≡◌, ℕ, List, length, Option}
use Rattle.ms_num.specs.Span.{Span}
use Rattle.ms_trees.specs.declared.tree.Ground.{Ground}
use Rattle.ms_types.specs.Texts.{model_of, names_among}
use Rattle.ms_types.specs.declared.typed.Typed.{Typed}
use Rattle.ms_values.specs.declared.operand.Operand.{Operand}
use Rattle.ms_given.specs.Givings.{Pair}
use Rattle.ms_given.specs.Sources.{Sources, sources, sources_in, unknown_name, given_twice, without_value}
use Rattle.ms_given.specs.declared.source.Source.{Source}
use Rattle.ms_declared.specs.Variables.{Declared}
use Rattle.ms_made.specs.Making.{Making, and_next, done, failed}
use Rattle.ms_made.specs.Coming.{come_all, start}
use Rattle.ms_made.specs.Constraining.{constrained}
use Rattle.ms_made.specs.Standing.{sets_from, values_from}
use Rattle.ms_made.specs.declared.fault.InstanceFault.TheVariants as f

pub record Parts : Type 0 where
  pub sets : List (List Span)
  pub constraints : List Ground
  -- of each name that the items declare, in their order
  pub values : List Operand

-- where the declarations came to these
abbrev pub parts_of : Typed → List Pair → List (Option Declared) → Making Parts
parts_of typed pairs ds =
    and_next (constrained typed pairs ds (values_from 0 ds)) (λ cs. done (record { sets = sets_from ds; constraints = cs.trees; values = values_from 0 ds }))

-- where the values stand there
abbrev pub parts_by : Typed → List Pair → List ℕ → List (Option Source) → Making Parts
parts_by typed pairs order ss =
    and_next (come_all typed pairs ss order (start (length (names_among typed).model))) (λ now. parts_of typed pairs now.declareds)

abbrev pub by_sources : Typed → List Pair → List ℕ → Sources → Making Parts
by_sources typed pairs order (unknown_name w file) = failed (f.Unknown w file)
by_sources typed pairs order (given_twice w file) = failed (f.Twice w file)
by_sources typed pairs order (without_value w) = failed (f.Missing w)
by_sources typed pairs order (sources ss) = parts_by typed pairs order ss

-- of a model with these values of data, where its declarations come in this order
unfoldable pub parts_made : Typed → List Pair → List ℕ → Making Parts
parts_made typed pairs order = by_sources typed pairs order (sources_in (names_among typed) (model_of typed).0 pairs)
