use Rattle.std.proofs.Common.{◌≡◌, ◌++◌, List, drop}
use Rattle.std.specs.Prelude.{ℤ, option_map}
use Rattle.ms_rules.specs.Tables.{all_numbers}
use Rattle.ms_arrays.proofs.tables.all_numbers.Given as goal

abbrev pub invariant-loop-number : goal.invariant-loop-number
invariant-loop-number l = option_map (λ (zs : List ℤ). l.found.items ++ zs) (all_numbers (drop l.number-index l.numbers)) ≡ all_numbers l.numbers
