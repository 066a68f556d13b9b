-- What built-in names make of their arguments. Searches make nothing; those of a wrong number of arguments read what
-- there is not as undefined.
use Rattle.std.specs.Prelude.{ℕ, ◌+◌, ◌-◌, ◌%◌, ◌^◌, ℤ, pos, ◌+ℤ◌, ◌-ℤ◌, unsigned_abs, int_le, nat_le, Bool, false, ◌&&◌, List, [], ◌∷◌, is_some, Option, Some, None, if◌then◌else◌}
use Rattle.ms_num.specs.Numbers.{abs_at}
use Rattle.ms_built_ins.specs.declared.names.BuiltIn.{BuiltIn}
use Rattle.ms_built_ins.specs.declared.names.BuiltIn.TheVariants as b
use Rattle.ms_trees.specs.Enclosure.{points}
use Rattle.ms_trees.specs.Value.{bit, image, value}
use Rattle.ms_trees.specs.WellFormed.{is_well_formed}
use Rattle.ms_trees.specs.declared.extreme.Extreme.{Extreme}
use Rattle.ms_trees.specs.declared.extreme.Extreme.TheVariants.{Least, Greatest}
use Rattle.ms_tree_nodes.specs.Nodes as n
use Rattle.ms_values.specs.declared.operand.Operand.{Operand}
use Rattle.ms_values.specs.declared.operand.Operand.TheVariants as o
use Rattle.ms_rules.specs.Operands.{is_variable, number_of, truth_of, integer_of, condition_of, known_number}
use Rattle.ms_rules.specs.Operators.{integer}
use Rattle.ms_rules.specs.Arrays as a
use Rattle.ms_rules.specs.Sets.{card}
use Rattle.ms_rules.specs.Shown.{show}
use Rattle.ms_rules.specs.Tables.{table}

-- where there is no value
abbrev pub nothing : Operand
nothing = o.Number None

-- the argument of a place, from 0
abbrev pub first : List Operand → Operand
first [] = nothing
first (x ∷ xs) = x

abbrev pub second : List Operand → Operand
second [] = nothing
second (x ∷ xs) = first xs

abbrev pub third : List Operand → Operand
third [] = nothing
third (x ∷ xs) = second xs

-- ---- of single numbers

abbrev pub magnitude : Operand → Option Operand
magnitude x = if is_variable x then integer (n.magnitude (integer_of x)) else known_number (image abs_at (number_of x))

abbrev pub bool_to_int : Operand → Operand
bool_to_int x = if is_variable x then o.Integer (n.bit (condition_of x)) else o.Number (Some (bit (truth_of x)))

-- of an array, or of two numbers
abbrev pub extreme : Extreme → List Operand → Option Operand
extreme which [] = Some nothing
extreme which (x ∷ []) = a.extreme_of_array which x
extreme which (x ∷ y ∷ zs) = a.extreme_of_two which x y

-- ---- on the incumbent

-- a known value stays, and a tree that may be asked there has its value; without an incumbent none has a value
abbrev pub on_point : List ℤ → Operand → Operand
on_point p (o.Number m) = o.Number m
on_point p (o.Truth b) = o.Truth b
on_point p (o.Set s) = o.Set s
on_point p (o.Text t) = o.Text t
on_point p (o.Integer x) = o.Number (if is_well_formed (points p) x.tree then (value p x.tree).number else None)
on_point p (o.Condition x) = o.Truth (is_well_formed (points p) x.tree && (value p x.tree).truth)
on_point p (o.Array xs) = nothing
on_point p (o.NoArray kind) = nothing

abbrev pub without_point : Operand → Operand
without_point (o.Number m) = o.Number None
without_point (o.Truth b) = o.Truth false
without_point (o.Set s) = nothing
without_point (o.Text t) = nothing
without_point (o.Integer x) = o.Number None
without_point (o.Condition x) = o.Truth false
without_point (o.Array xs) = nothing
without_point (o.NoArray kind) = nothing

abbrev pub on_incumbent : Option (List ℤ) → Operand → Operand
on_incumbent None x = without_point x
on_incumbent (Some p) x = on_point p x

-- ---- draws

-- the number that a word gives from one number to another; none where there is no number, or more than words
abbrev pub drawn_between : ℕ → ℤ → ℤ → Option ℤ
drawn_between word low high =
    if int_le low high && nat_le (unsigned_abs (high -ℤ low)) (2 ^ 32 - 1) then Some (low +ℤ pos (word % (unsigned_abs (high -ℤ low) + 1))) else None

abbrev pub drawn : ℕ → Option ℤ → Option ℤ → Option ℤ
drawn word (Some low) (Some high) = drawn_between word low high
drawn word (Some low) None = None
drawn word None high = None

-- the draw takes the word: there is a number that it gives
abbrev pub takes_word : List Operand → Bool
takes_word xs = is_some (drawn 0 (number_of (first xs)) (number_of (second xs)))

abbrev pub uniform : ℕ → List Operand → Operand
uniform word xs = o.Number (drawn word (number_of (first xs)) (number_of (second xs)))

-- whether a name takes the next word
abbrev pub draws : BuiltIn → List Operand → Bool
draws b.Uniform xs = takes_word xs
draws other xs = false

-- ---- all names

-- with the incumbent and the next word
unfoldable pub call : Option (List ℤ) → ℕ → BuiltIn → List Operand → Option Operand
call point word b.ForAll xs = Some (a.all (first xs))
call point word b.Exists xs = Some (a.some (first xs))
call point word b.Sum xs = a.sum (first xs)
call point word b.Min xs = extreme Least xs
call point word b.Max xs = extreme Greatest xs
call point word b.Abs xs = magnitude (first xs)
call point word b.BoolToInt xs = Some (bool_to_int (first xs))
call point word b.Count xs = a.count (first xs) (second xs)
call point word b.AllDifferent xs = Some (a.distinct (first xs))
call point word b.Table xs = Some (table (first xs) (second xs))
call point word b.Length xs = a.length_of_array (first xs)
call point word b.IndexSet xs = a.index_set (first xs)
call point word b.RowIndexSet xs = a.row_index_set (first xs)
call point word b.ColumnIndexSet xs = a.column_index_set (first xs)
call point word b.Card xs = card (first xs)
call point word b.ArrayLine xs = Some (a.array_line (first xs) (second xs))
call point word b.ArrayGrid xs = Some (a.array_grid (first xs) (second xs) (third xs))
call point word b.Show xs = Some (show (first xs))
call point word b.Fix xs = Some (first xs)
call point word b.Sol xs = Some (on_incumbent point (first xs))
call point word b.HasSol xs = Some (o.Truth (is_some point))
call point word b.Uniform xs = Some (uniform word xs)
call point word b.Next xs = Some nothing
call point word b.Post xs = Some nothing
call point word b.Commit xs = Some nothing
call point word b.Print xs = Some nothing
call point word b.Scope xs = Some nothing
call point word b.Repeat xs = Some nothing
call point word b.Break xs = Some nothing
call point word b.Fail xs = Some nothing
call point word b.Skip xs = Some nothing
call point word b.TimeLimit xs = Some nothing
call point word b.Keep xs = Some nothing
call point word b.ClearFront xs = Some nothing
call point word b.PrintFront xs = Some nothing
