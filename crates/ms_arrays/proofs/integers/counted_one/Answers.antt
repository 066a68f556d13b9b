use Rattle.std.proofs.Common.{ℕ, ◌∙◌, Some, sym, ap}
use Rattle.std.specs.Prelude.{pos}
use Rattle.ms_rules.specs.Operands.{known_number}
use Rattle.ms_arrays.proofs.Lists.{counted_all, counted_none}
use Rattle.ms_arrays.proofs.integers.counted_one.Goals as goal

pub returns-then-all_defined : goal.returns-then-all_defined
returns-then-all_defined c =
    c.number_of_count.ensures ∙ ap (λ (k : ℕ). known_number (Some (pos k))) c.how_many.ensures
    ∙ ap known_number (sym (counted_all c.args.numbers.now c.args.y (sym c.all_defined.ensures ∙ c.if-all_defined.true)))

pub returns-else-all_defined : goal.returns-else-all_defined
returns-else-all_defined c =
    c.known_number.ensures ∙ ap known_number (sym (counted_none c.args.numbers.now c.args.y (sym c.all_defined.ensures ∙ c.if-all_defined.false)))
