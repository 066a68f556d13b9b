-- What a tree may mean on the assignments of a box.
use Rattle.std.specs.Prelude.{ℕ, suc, ◌/◌, ◌%◌, List, [], ◌∷◌, Option, Some, None, Bool, true, false, not, ◌&&◌, ◌||◌, ℤ, pos, ◌+ℤ◌, ◌-ℤ◌, int_lt, int_le, nat_lt, slice_index_or, map, length, is_some, option_map, if◌then◌else◌}
use Rattle.std.specs.List.{list_any, list_all}
use Rattle.ms_num.specs.Numbers.{int_eq}
use Rattle.ms_num.specs.Span.{Span, point, has, neg_span, abs_span, add_span, sub_span, mul_span, div_span, mod_span, min_span, max_span, join_some}
use Rattle.ms_trees.specs.Value.{iff, imp, xor, how_many}
use Rattle.ms_trees.specs.declared.tree.Enclosure.{Enclosure}
use Rattle.ms_trees.specs.declared.tree.Hull.{Hull}
use Rattle.ms_trees.specs.declared.tree.Ground.{Ground, fold-Ground}
use Rattle.ms_trees.specs.declared.tree.Ground.TheOpen.{Ground-F, Num, Undef, Var, Add, Sub, Mul, Div, Mod, Neg, Abs, Sum, Least, Greatest, ToInt, Elem, Elem2, Count, IteI, True, False, BVar, And, Or, Not, Iff, Imp, Xor, Eq, Ne, Lt, Le, IteB, In, AllDiff, Table}

-- the box of one assignment
abbrev pub points : List ℤ → List Span
points a = map point a

abbrev pub span_at : List Span → ℕ → Span
span_at b v = slice_index_or b v (point (pos 0))

abbrev pub numeric_enclosure : Option Span → Bool → Enclosure
numeric_enclosure o u = record { interval = o; may_be_undefined = u; may_be_true = false; may_be_false = false }

abbrev pub boolean_enclosure : Bool → Bool → Enclosure
boolean_enclosure y n = record { interval = None; may_be_undefined = false; may_be_true = y; may_be_false = n }

-- ---- operations and comparisons

-- there is no interval where a part has none
abbrev pub both_intervals : (Span → Span → Span) → Option Span → Option Span → Option Span
both_intervals f None b = None
both_intervals f (Some x) None = None
both_intervals f (Some x) (Some y) = Some (f x y)

abbrev pub operation : (Span → Span → Span) → Enclosure → Enclosure → Enclosure
operation f x y = numeric_enclosure (both_intervals f x.interval y.interval) (x.may_be_undefined || y.may_be_undefined)

abbrev pub both_partial : (Span → Span → Option Span) → Option Span → Option Span → Option Span
both_partial f None b = None
both_partial f (Some x) None = None
both_partial f (Some x) (Some y) = f x y

-- a test of an interval, which fails where there is none
abbrev pub test_interval : (Span → Bool) → Option Span → Bool
test_interval f None = false
test_interval f (Some x) = f x

-- the operation is undefined where the second number is 0
abbrev pub division : (Span → Span → Option Span) → Enclosure → Enclosure → Enclosure
division f x y = numeric_enclosure (both_partial f x.interval y.interval) (x.may_be_undefined || y.may_be_undefined || test_interval (λ s. has s (pos 0)) y.interval)

abbrev pub image_enclosure : (Span → Span) → Enclosure → Enclosure
image_enclosure f x = numeric_enclosure (option_map f x.interval) x.may_be_undefined

abbrev pub compare_intervals : (Span → Span → Bool) → Option Span → Option Span → Bool
compare_intervals f None b = false
compare_intervals f (Some x) None = false
compare_intervals f (Some x) (Some y) = f x y

abbrev pub meets : Span → Span → Bool
meets s t = int_le s.lo t.hi && int_le t.lo s.hi

abbrev pub may_be_less : Span → Span → Bool
may_be_less s t = int_lt s.lo t.hi

abbrev pub may_be_at_most : Span → Span → Bool
may_be_at_most s t = int_le s.lo t.hi

abbrev pub may_be_at_least : Span → Span → Bool
may_be_at_least s t = int_le t.lo s.hi

abbrev pub may_be_greater : Span → Span → Bool
may_be_greater s t = int_lt t.lo s.hi

-- both are the same single number
abbrev pub same_single : Span → Span → Bool
same_single s t = int_eq s.lo s.hi && int_eq s.lo t.lo && int_eq t.lo t.hi

abbrev pub may_differ : Span → Span → Bool
may_differ s t = not (same_single s t)

-- a comparison of two parts, which is false where one is undefined
abbrev pub comparison : (Span → Span → Bool) → (Span → Span → Bool) → Enclosure → Enclosure → Enclosure
comparison may may_not x y = boolean_enclosure (compare_intervals may x.interval y.interval) (x.may_be_undefined || y.may_be_undefined || compare_intervals may_not x.interval y.interval)

-- some combination that the parts admit is true, where a, b, c, d are the values for true and true, true and false, false and true, false and false
abbrev pub admits : Bool → Bool → Bool → Bool → Enclosure → Enclosure → Bool
admits a b c d x y = (x.may_be_true && y.may_be_true && a) || (x.may_be_true && y.may_be_false && b) || (x.may_be_false && y.may_be_true && c) || (x.may_be_false && y.may_be_false && d)

-- the values of all combinations that the parts admit
abbrev pub combined : (Bool → Bool → Bool) → Enclosure → Enclosure → Enclosure
combined f x y =
    boolean_enclosure (admits (f true true) (f true false) (f false true) (f false false) x y)
    (admits (not (f true true)) (not (f true false)) (not (f false true)) (not (f false false)) x y)

abbrev pub bits : Bool → Bool → Span
bits y n = record { lo = if n then pos 0 else pos 1; hi = if y then pos 1 else pos 0 }

-- ---- conditionals

-- the interval of a branch, where the condition admits it
abbrev pub admitted : Bool → Option Span → Option Span
admitted c o = if c then o else None

abbrev pub either_number : Enclosure → Enclosure → Enclosure → Enclosure
either_number c x y = numeric_enclosure (join_some (admitted c.may_be_true x.interval) (admitted c.may_be_false y.interval)) (c.may_be_true && x.may_be_undefined || c.may_be_false && y.may_be_undefined)

abbrev pub either_truth : Enclosure → Enclosure → Enclosure → Enclosure
either_truth c x y = boolean_enclosure (c.may_be_true && x.may_be_true || c.may_be_false && y.may_be_true) (c.may_be_true && x.may_be_false || c.may_be_false && y.may_be_false)

-- ---- lists of parts

-- the operation from the left
abbrev pub folded_intervals : (Span → Span → Span) → Option Span → List Enclosure → Option Span
folded_intervals f o [] = o
folded_intervals f o (r ∷ rs) = folded_intervals f (both_intervals f o r.interval) rs

abbrev pub any_may_be_undefined : List Enclosure → Bool
any_may_be_undefined [] = false
any_may_be_undefined (r ∷ rs) = r.may_be_undefined || any_may_be_undefined rs

-- the least or the greatest, by the operation on two intervals; an empty list has none
abbrev pub extreme_enclosure : (Span → Span → Span) → List Enclosure → Enclosure
extreme_enclosure f [] = numeric_enclosure None true
extreme_enclosure f (r ∷ rs) = numeric_enclosure (folded_intervals f r.interval rs) (r.may_be_undefined || any_may_be_undefined rs)

abbrev pub all_may_be_true : List Enclosure → Bool
all_may_be_true [] = true
all_may_be_true (r ∷ rs) = r.may_be_true && all_may_be_true rs

abbrev pub any_may_be_false : List Enclosure → Bool
any_may_be_false [] = false
any_may_be_false (r ∷ rs) = r.may_be_false || any_may_be_false rs

abbrev pub any_may_be_true : List Enclosure → Bool
any_may_be_true [] = false
any_may_be_true (r ∷ rs) = r.may_be_true || any_may_be_true rs

abbrev pub all_may_be_false : List Enclosure → Bool
all_may_be_false [] = true
all_may_be_false (r ∷ rs) = r.may_be_false && all_may_be_false rs

abbrev pub all_some : List Enclosure → Bool
all_some rs = list_all (λ r. is_some r.interval) rs

-- how many are the same single number as the one, and how many may be
abbrev pub counts : List Enclosure → Option Span → Span
counts rs o = record { lo = pos (how_many (λ r. compare_intervals same_single r.interval o) rs); hi = pos (how_many (λ r. compare_intervals meets r.interval o) rs) }

abbrev pub counted_enclosure : List Enclosure → Enclosure → Enclosure
counted_enclosure rs y = numeric_enclosure (if all_some rs && is_some y.interval then Some (counts rs y.interval) else None) (y.may_be_undefined || any_may_be_undefined rs)

-- ---- access by index

-- the index of the place lies in the interval, where the first place has the lowest index
abbrev pub is_reached : ℤ → Option Span → ℕ → Bool
is_reached low o p = test_interval (λ s. has s (low +ℤ pos p)) o

-- the indices of the place lie in the intervals, where the whole rows of w out of n places follow each other
abbrev pub is_reached2 : ℤ → ℤ → ℕ → ℕ → Option Span → Option Span → ℕ → Bool
is_reached2 k l w n o q p = is_reached k o (p / w) && is_reached l q (p % w) && nat_lt (p / w) (n / w)

-- the interval holds a number that is no index of n places
abbrev pub leaves : ℤ → ℕ → Option Span → Bool
leaves low n o = test_interval (λ s. int_lt s.lo low || int_le (low +ℤ pos n) s.hi) o

-- the least interval over those of the reached parts, where the first place is p
abbrev pub joined : (ℕ → Bool) → ℕ → List Enclosure → Option Span
joined at p [] = None
joined at p (r ∷ rs) = if at p then join_some r.interval (joined at (suc p) rs) else joined at (suc p) rs

abbrev pub reached_undefined : (ℕ → Bool) → ℕ → List Enclosure → Bool
reached_undefined at p [] = false
reached_undefined at p (r ∷ rs) = at p && r.may_be_undefined || reached_undefined at (suc p) rs

-- the parts at the reached places, where u says that there may be none
abbrev pub selected_enclosure : (ℕ → Bool) → Bool → List Enclosure → Enclosure
selected_enclosure at u rs = numeric_enclosure (joined at 0 rs) (u || reached_undefined at 0 rs)

-- ---- sets, lists of distinct numbers, tables

-- the interval has a number of the ranges
abbrev pub may_be_in : List Span → Span → Bool
may_be_in rs s = list_any (λ r. meets r s) rs

-- the interval lies within one of the ranges, which neither meet nor touch
abbrev pub is_inside : List Span → Span → Bool
is_inside rs s = list_any (λ r. int_le r.lo s.lo && int_le s.hi r.hi) rs

-- how many of the intervals lie within a range
abbrev pub held : ℤ → ℤ → List Enclosure → ℕ
held lo hi rs = how_many (λ r. test_interval (λ s. int_le lo s.lo && int_le s.hi hi) r.interval) rs

-- a range of integers holds the intervals of at most as many parts as it has numbers
abbrev pub has_room : ℤ → ℤ → List Enclosure → Bool
has_room lo hi rs = int_lt hi lo || int_le (pos (held lo hi rs)) (hi -ℤ lo +ℤ pos 1)

-- each range from the lower end of the interval to the upper end of a part has room
abbrev pub room_from : List Enclosure → Option Span → Bool
room_from rs o = list_all (λ q. not (compare_intervals (λ s t. not (has_room s.lo t.hi rs)) o q.interval)) rs

-- each range from the lower end of a part to the upper end of one has room
abbrev pub have_room : List Enclosure → Bool
have_room rs = list_all (λ r. room_from rs r.interval) rs

-- the intervals of two parts meet
abbrev pub some_meet : List Enclosure → Bool
some_meet [] = false
some_meet (r ∷ rs) = list_any (λ q. compare_intervals meets r.interval q.interval) rs || some_meet rs

abbrev pub distinct : List Enclosure → Enclosure
distinct rs = boolean_enclosure (all_some rs && have_room rs) (any_may_be_undefined rs || some_meet rs)

-- the row has a number of each interval
abbrev pub may_be_row : List Enclosure → List ℤ → Bool
may_be_row [] [] = true
may_be_row [] (z ∷ zs) = false
may_be_row (r ∷ rs) [] = false
may_be_row (r ∷ rs) (z ∷ zs) = test_interval (λ s. has s z) r.interval && may_be_row rs zs

-- a part has two numbers or more
abbrev pub some_several : List Enclosure → Bool
some_several rs = list_any (λ r. test_interval (λ s. int_lt s.lo s.hi) r.interval) rs

abbrev pub rowed : List (List ℤ) → List Enclosure → Enclosure
rowed rows rs = boolean_enclosure (list_any (may_be_row rs) rows) (any_may_be_undefined rs || some_several rs || not (list_any (may_be_row rs) rows))

-- ---- the hull

abbrev pub enclosure_step : List Span → Ground-F Enclosure → Enclosure
enclosure_step b (Num n) = numeric_enclosure (Some (point n)) false
enclosure_step b Undef = numeric_enclosure None true
enclosure_step b (Var v) = numeric_enclosure (Some (span_at b v)) false
enclosure_step b (Add x y) = operation add_span x y
enclosure_step b (Sub x y) = operation sub_span x y
enclosure_step b (Mul x y) = operation mul_span x y
enclosure_step b (Div x y) = division div_span x y
enclosure_step b (Mod x y) = division mod_span x y
enclosure_step b (Neg x) = image_enclosure neg_span x
enclosure_step b (Abs x) = image_enclosure abs_span x
enclosure_step b (Sum xs) = numeric_enclosure (folded_intervals add_span (Some (point (pos 0))) xs) (any_may_be_undefined xs)
enclosure_step b (Least xs) = extreme_enclosure min_span xs
enclosure_step b (Greatest xs) = extreme_enclosure max_span xs
enclosure_step b (ToInt x) = numeric_enclosure (Some (bits x.may_be_true x.may_be_false)) false
enclosure_step b (Elem low xs i) = selected_enclosure (is_reached low i.interval) (i.may_be_undefined || leaves low (length xs) i.interval) xs
enclosure_step b (Elem2 k l w xs i j) =
    selected_enclosure (is_reached2 k l w (length xs) i.interval j.interval) (i.may_be_undefined || j.may_be_undefined || leaves k (length xs / w) i.interval || leaves l w j.interval) xs
enclosure_step b (Count xs y) = counted_enclosure xs y
enclosure_step b (IteI c x y) = either_number c x y
enclosure_step b True = boolean_enclosure true false
enclosure_step b False = boolean_enclosure false true
enclosure_step b (BVar v) = boolean_enclosure (has (span_at b v) (pos 1)) (has (span_at b v) (pos 0))
enclosure_step b (And xs) = boolean_enclosure (all_may_be_true xs) (any_may_be_false xs)
enclosure_step b (Or xs) = boolean_enclosure (any_may_be_true xs) (all_may_be_false xs)
enclosure_step b (Not x) = boolean_enclosure x.may_be_false x.may_be_true
enclosure_step b (Iff x y) = combined iff x y
enclosure_step b (Imp x y) = combined imp x y
enclosure_step b (Xor x y) = combined xor x y
enclosure_step b (Eq x y) = comparison meets may_differ x y
enclosure_step b (Ne x y) = comparison may_differ meets x y
enclosure_step b (Lt x y) = comparison may_be_less may_be_at_least x y
enclosure_step b (Le x y) = comparison may_be_at_most may_be_greater x y
enclosure_step b (IteB c x y) = either_truth c x y
enclosure_step b (In x rs) = boolean_enclosure (test_interval (may_be_in rs) x.interval) (x.may_be_undefined || test_interval (λ s. not (is_inside rs s)) x.interval)
enclosure_step b (AllDiff xs) = distinct xs
enclosure_step b (Table xs rows) = rowed rows xs

-- the interval meaning of a tree on a box
abbrev pub enclosure : List Span → Ground → Enclosure
enclosure b = fold-Ground Enclosure (enclosure_step b)

-- the public form: the ends are 0 where there is no interval
abbrev pub hull_at : Option Span → Enclosure → Hull
hull_at None r = record { lo = pos 0; hi = pos 0; may_be_defined = false; may_be_undefined = r.may_be_undefined; may_be_true = r.may_be_true; may_be_false = r.may_be_false }
hull_at (Some s) r = record { lo = s.lo; hi = s.hi; may_be_defined = true; may_be_undefined = r.may_be_undefined; may_be_true = r.may_be_true; may_be_false = r.may_be_false }

abbrev pub hull_of : Enclosure → Hull
hull_of r = hull_at r.interval r
