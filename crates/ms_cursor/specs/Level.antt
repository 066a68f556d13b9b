-- The levels of operators by their numbers.
use Rattle.std.specs.Prelude.{ℕ, suc, Bool, ◌==◌, ◌||◌}
use Rattle.ms_syntax.specs.Tree.{of_range, of_membership, of_comparison}
use Rattle.ms_cursor.specs.declared.level.Level.{Level}
use Rattle.ms_cursor.specs.declared.level.Level.TheVariants as lv

-- how many levels bind tighter
abbrev pub tighter : Level → ℕ
tighter lv.Concatenation = 0
tighter lv.Product = 1
tighter lv.Sum = 2
tighter lv.Range = 3
tighter lv.Membership = 4
tighter lv.Comparison = 5
tighter lv.Conjunction = 6
tighter lv.Disjunction = 7
tighter lv.Implication = 8
tighter lv.Equivalence = 9

-- how many there are up to it
abbrev pub height : Level → ℕ
height level = suc (tighter level)

-- what the operands of its operators bind at most, as trees number it: a name, an access and a sign come before
abbrev pub operands_of : Level → ℕ
operands_of level = suc (height level)

-- whether operators with such operands do not group
abbrev pub is_single : ℕ → Bool
is_single n = n == of_range || n == of_membership || n == of_comparison
