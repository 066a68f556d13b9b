-- Which trees may be asked on a box: those that are well sorted, name its variables alone, and are narrow there.
use Rattle.std.specs.Prelude.{ℕ, List, [], ◌∷◌, Option, Some, None, Bool, true, false, not, ◌&&◌, ◌≡◌, pos, int_le, length, nat_lt}
use Rattle.ms_num.specs.Span.{Span, point, is_narrow, add_span}
use Rattle.ms_trees.specs.Enclosure.{enclosure, enclosure_step, both_intervals, span_at}
use Rattle.ms_trees.specs.declared.tree.Enclosure.{Enclosure}
use Rattle.ms_trees.specs.declared.tree.Ground.{Ground, fold-Ground, para-Ground, map-Ground}
use Rattle.ms_trees.specs.declared.tree.Ground.TheOpen.{Ground-F, Num, Undef, Var, Add, Sub, Mul, Div, Mod, Neg, Abs, Sum, Least, Greatest, ToInt, Elem, Elem2, Count, IteI, True, False, BVar, And, Or, Not, Iff, Imp, Xor, Eq, Ne, Lt, Le, IteB, In, AllDiff, Table}

abbrev pub numeric_layer : {X : Type 0} → Ground-F X → Bool
numeric_layer (Num n) = true
numeric_layer Undef = true
numeric_layer (Var v) = true
numeric_layer (Add x y) = true
numeric_layer (Sub x y) = true
numeric_layer (Mul x y) = true
numeric_layer (Div x y) = true
numeric_layer (Mod x y) = true
numeric_layer (Neg x) = true
numeric_layer (Abs x) = true
numeric_layer (Sum xs) = true
numeric_layer (Least xs) = true
numeric_layer (Greatest xs) = true
numeric_layer (ToInt x) = true
numeric_layer (Elem low xs i) = true
numeric_layer (Elem2 k l w xs i j) = true
numeric_layer (Count xs y) = true
numeric_layer (IteI c x y) = true
numeric_layer True = false
numeric_layer False = false
numeric_layer (BVar v) = false
numeric_layer (And xs) = false
numeric_layer (Or xs) = false
numeric_layer (Not x) = false
numeric_layer (Iff x y) = false
numeric_layer (Imp x y) = false
numeric_layer (Xor x y) = false
numeric_layer (Eq x y) = false
numeric_layer (Ne x y) = false
numeric_layer (Lt x y) = false
numeric_layer (Le x y) = false
numeric_layer (IteB c x y) = false
numeric_layer (In x rs) = false
numeric_layer (AllDiff xs) = false
numeric_layer (Table xs rows) = false

-- the tree is an integer tree
abbrev pub is_numeric : Ground → Bool
is_numeric = fold-Ground Bool numeric_layer

-- what is known of a part
pub record Checked : Type 0 where
  pub fit : Bool
  pub numeric : Bool
  pub enclosure : Enclosure

abbrev pub is_number : Checked → Bool
is_number x = x.fit && x.numeric

abbrev pub is_truth : Checked → Bool
is_truth x = x.fit && not x.numeric

abbrev pub are_numbers : List Checked → Bool
are_numbers [] = true
are_numbers (x ∷ xs) = is_number x && are_numbers xs

abbrev pub are_truths : List Checked → Bool
are_truths [] = true
are_truths (x ∷ xs) = is_truth x && are_truths xs

-- the variable is one of the box, and has a number there
abbrev pub has_variable : List Span → ℕ → Bool
has_variable b v = nat_lt v (length b) && int_le (span_at b v).lo (span_at b v).hi

-- the parts are fit and of the right sort, and a variable is one of the box
abbrev pub sorted_step : List Span → Ground-F Checked → Bool
sorted_step b (Num n) = true
sorted_step b Undef = true
sorted_step b (Var v) = has_variable b v
sorted_step b (Add x y) = is_number x && is_number y
sorted_step b (Sub x y) = is_number x && is_number y
sorted_step b (Mul x y) = is_number x && is_number y
sorted_step b (Div x y) = is_number x && is_number y
sorted_step b (Mod x y) = is_number x && is_number y
sorted_step b (Neg x) = is_number x
sorted_step b (Abs x) = is_number x
sorted_step b (Sum xs) = are_numbers xs
sorted_step b (Least xs) = are_numbers xs
sorted_step b (Greatest xs) = are_numbers xs
sorted_step b (ToInt x) = is_truth x
sorted_step b (Elem low xs i) = are_numbers xs && is_number i
sorted_step b (Elem2 k l w xs i j) = are_numbers xs && is_number i && is_number j
sorted_step b (Count xs y) = are_numbers xs && is_number y
sorted_step b (IteI c x y) = is_truth c && is_number x && is_number y
sorted_step b True = true
sorted_step b False = true
sorted_step b (BVar v) = has_variable b v && int_le (pos 0) (span_at b v).lo && int_le (span_at b v).hi (pos 1)
sorted_step b (And xs) = are_truths xs
sorted_step b (Or xs) = are_truths xs
sorted_step b (Not x) = is_truth x
sorted_step b (Iff x y) = is_truth x && is_truth y
sorted_step b (Imp x y) = is_truth x && is_truth y
sorted_step b (Xor x y) = is_truth x && is_truth y
sorted_step b (Eq x y) = is_number x && is_number y
sorted_step b (Ne x y) = is_number x && is_number y
sorted_step b (Lt x y) = is_number x && is_number y
sorted_step b (Le x y) = is_number x && is_number y
sorted_step b (IteB c x y) = is_truth c && is_truth x && is_truth y
sorted_step b (In x rs) = is_number x
sorted_step b (AllDiff xs) = are_numbers xs
sorted_step b (Table xs rows) = are_numbers xs

abbrev pub fits : Option Span → Bool
fits None = true
fits (Some s) = is_narrow s

-- each sum on the way is narrow
abbrev pub sums_fit : Option Span → List Enclosure → Bool
sums_fit o [] = true
sums_fit o (r ∷ rs) = fits (both_intervals add_span o r.interval) && sums_fit (both_intervals add_span o r.interval) rs

-- the interval of the node is narrow, and those of a sum on the way
abbrev pub narrow_step : List Span → Ground-F Enclosure → Bool
narrow_step b (Sum xs) = sums_fit (Some (point (pos 0))) xs
narrow_step b x = fits (enclosure_step b x).interval

abbrev pub enclosure_of : Checked → Enclosure
enclosure_of x = x.enclosure

-- the parts are fit, and the node is narrow
abbrev pub well_formed_rule : List Span → Ground-F Checked → Bool
well_formed_rule b x = sorted_step b x && narrow_step b (map-Ground Checked Enclosure enclosure_of x)

abbrev pub checked_of : List Span → Ground × Bool → Checked
checked_of b x = record { fit = x.1; numeric = is_numeric x.0; enclosure = enclosure b x.0 }

abbrev pub well_formed_step : List Span → Ground-F (Ground × Bool) → Bool
well_formed_step b x = well_formed_rule b (map-Ground (Ground × Bool) Checked (checked_of b) x)

-- the tree is well formed on the box: its meaning there may be asked for
unfoldable pub is_well_formed : List Span → Ground → Bool
is_well_formed b = para-Ground Bool (well_formed_step b)

-- the tree is well sorted and names variables of the box alone; its limits are not looked at
abbrev pub sorts_step : List Span → Ground-F (Ground × Bool) → Bool
sorts_step b x = sorted_step b (map-Ground (Ground × Bool) Checked (checked_of b) x)

unfoldable pub is_sorted : List Span → Ground → Bool
is_sorted b = para-Ground Bool (sorts_step b)

abbrev pub sort_checked : List Span → Ground → Checked
sort_checked b g = record { fit = is_sorted b g; numeric = is_numeric g; enclosure = enclosure b g }

-- what a rule on the parts of a node is given
abbrev pub checked : List Span → Ground → Checked
checked b g = record { fit = is_well_formed b g; numeric = is_numeric g; enclosure = enclosure b g }

-- a Boolean tree that may be asked
pub record IsTruth (b : List Span) (x : Ground) : Type 0 where
  pub fit : is_well_formed b x ≡ true
  pub boolean : is_numeric x ≡ false
