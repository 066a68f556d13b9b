-- Nodes over trees that are kept with what they may mean, their size and their nesting.
use Rattle.std.specs.Prelude.{ℕ, ◌+◌, ◌-◌, ◌^◌, min, max, ℤ, pos, Bool, true, false, not, ◌||◌, List, length, map, sum_by, Option, Some, None, option_map}
use Rattle.ms_num.specs.Span.{Span, point, has, add_span, sub_span, mul_span, div_span, mod_span, neg_span, abs_span}
use Rattle.ms_trees.specs.Value.{iff, imp, xor}
use Rattle.ms_trees.specs.Size.{deepest}
use Rattle.ms_trees.specs.Extreme.{extreme_span}
use Rattle.ms_trees.specs.Enclosure as e
use Rattle.ms_trees.specs.declared.extreme.Extreme.{Extreme}
use Rattle.ms_trees.specs.declared.extreme.Extreme.TheVariants.{Least, Greatest}
use Rattle.ms_trees.specs.declared.tree.Enclosure.{Enclosure}
use Rattle.ms_trees.specs.declared.tree.Ground.{Ground}
use Rattle.ms_trees.specs.declared.tree.Ground.TheVariants as g
use Rattle.ms_ground.specs.Known.{within_limits}
use Rattle.ms_evaluator.specs.Lists as l
use Rattle.ms_values.specs.declared.operand.Placed.{Placed}

-- a count that stands still at the end of its type
abbrev pub cap : ℕ → ℕ
cap n = min n (2 ^ 64 - 1)

-- one more than its parts
abbrev pub above : ℕ → ℕ
above n = cap (n + 1)

-- ---- leaves

abbrev pub leaf : Ground → Enclosure → Placed
leaf t r = record { tree = t; enclosure = r; size = 1; nesting = 1 }

-- a known integer, which may have no value
abbrev pub number_leaf : Option ℤ → Placed
number_leaf (Some n) = leaf (g.Num n) (e.numeric_enclosure (Some (point n)) false)
number_leaf None = leaf g.Undef (e.numeric_enclosure None true)

abbrev pub truth_leaf : Bool → Placed
truth_leaf true = leaf g.True (e.boolean_enclosure true false)
truth_leaf false = leaf g.False (e.boolean_enclosure false true)

-- a variable, by the interval of its declared set
abbrev pub variable : ℕ → Span → Placed
variable v s = leaf (g.Var v) (e.numeric_enclosure (Some s) false)

abbrev pub bit_variable : ℕ → Span → Placed
bit_variable v s = leaf (g.BVar v) (e.boolean_enclosure (has s (pos 1)) (has s (pos 0)))

-- ---- a node over trees, with what it may mean

abbrev pub tree_of : Placed → Ground
tree_of x = x.tree

abbrev pub enclosure_of : Placed → Enclosure
enclosure_of x = x.enclosure

abbrev pub size_of : Placed → ℕ
size_of x = x.size

abbrev pub nesting_of : Placed → ℕ
nesting_of x = x.nesting

abbrev pub trees_of : List Placed → List Ground
trees_of = map tree_of

abbrev pub enclosures_of : List Placed → List Enclosure
enclosures_of = map enclosure_of

abbrev pub sizes_of : List Placed → ℕ
sizes_of = sum_by size_of

abbrev pub deepest_of : List Placed → ℕ
deepest_of xs = deepest (map nesting_of xs)

abbrev pub over_one : (Ground → Ground) → Placed → Enclosure → Placed
over_one f x r = record { tree = f x.tree; enclosure = r; size = above x.size; nesting = above x.nesting }

abbrev pub over_two : (Ground → Ground → Ground) → Placed → Placed → Enclosure → Placed
over_two f x y r = record { tree = f x.tree y.tree; enclosure = r; size = above (x.size + y.size); nesting = above (max x.nesting y.nesting) }

abbrev pub over_three : (Ground → Ground → Ground → Ground) → Placed → Placed → Placed → Enclosure → Placed
over_three f c x y r = record {
  tree = f c.tree x.tree y.tree;
  enclosure = r;
  size = above (c.size + x.size + y.size);
  nesting = above (max (max c.nesting x.nesting) y.nesting);
}

abbrev pub over_list : (List Ground → Ground) → List Placed → Enclosure → Placed
over_list f xs r = record { tree = f (trees_of xs); enclosure = r; size = above (sizes_of xs); nesting = above (deepest_of xs) }

-- ---- operations on numbers: none where what they may mean leaves the limits

abbrev pub narrow_one : (Ground → Ground) → (Enclosure → Enclosure) → Placed → Option Placed
narrow_one f r x = option_map (over_one f x) (within_limits (r x.enclosure))

abbrev pub narrow_two : (Ground → Ground → Ground) → (Enclosure → Enclosure → Enclosure) → Placed → Placed → Option Placed
narrow_two f r x y = option_map (over_two f x y) (within_limits (r x.enclosure y.enclosure))

abbrev pub sum : Placed → Placed → Option Placed
sum = narrow_two g.Add (e.operation add_span)

abbrev pub difference : Placed → Placed → Option Placed
difference = narrow_two g.Sub (e.operation sub_span)

abbrev pub product : Placed → Placed → Option Placed
product = narrow_two g.Mul (e.operation mul_span)

abbrev pub quotient : Placed → Placed → Option Placed
quotient = narrow_two g.Div (e.division div_span)

abbrev pub remainder : Placed → Placed → Option Placed
remainder = narrow_two g.Mod (e.division mod_span)

abbrev pub negation : Placed → Option Placed
negation = narrow_one g.Neg (e.image_enclosure neg_span)

abbrev pub magnitude : Placed → Option Placed
magnitude = narrow_one g.Abs (e.image_enclosure abs_span)

-- tested after each addition, from the left
abbrev pub total : List Placed → Option Placed
total xs = option_map (over_list g.Sum xs) (l.total (enclosures_of xs))

abbrev pub extreme_tree : Extreme → List Ground → Ground
extreme_tree Least = g.Least
extreme_tree Greatest = g.Greatest

abbrev pub extreme : Extreme → List Placed → Option Placed
extreme which xs = option_map (over_list (extreme_tree which) xs) (l.extreme (extreme_span which) (enclosures_of xs))

-- how many of the list are the number
abbrev pub count : List Placed → Placed → Option Placed
count xs y = option_map (λ r. record {
  tree = g.Count (trees_of xs) y.tree;
  enclosure = r;
  size = above (sizes_of xs + y.size);
  nesting = above (max (deepest_of xs) y.nesting);
}) (l.count (enclosures_of xs) y.enclosure)

-- the element of an index, where the first has the lowest
abbrev pub element : ℤ → List Placed → Placed → Option Placed
element low xs i = option_map (λ r. record {
  tree = g.Elem low (trees_of xs) i.tree;
  enclosure = r;
  size = above (sizes_of xs + i.size);
  nesting = above (max (deepest_of xs) i.nesting);
}) (l.element low (enclosures_of xs) i.enclosure)

-- the element of a row and a column, in whole rows of the width
abbrev pub element_of_grid : ℤ → ℤ → ℕ → List Placed → Placed → Placed → Option Placed
element_of_grid low left width xs i j = option_map (λ r. record {
  tree = g.Elem2 low left width (trees_of xs) i.tree j.tree;
  enclosure = r;
  size = above (sizes_of xs + i.size + j.size);
  nesting = above (max (max (deepest_of xs) i.nesting) j.nesting);
}) (l.element_of_grid low left width (enclosures_of xs) i.enclosure j.enclosure)

-- the taken branch alone. It may mean no more than its branches, so it is within the limits
abbrev pub choice : Placed → Placed → Placed → Placed
choice c x y = over_three g.IteI c x y (e.either_number c.enclosure x.enclosure y.enclosure)

-- ---- the number of a truth value

-- the numbers that it may be: 1 for true and 0 for false. A tree may be one of the two
abbrev pub bits : Bool → Bool → Option Span
bits true true = Some (record { lo = pos 0; hi = pos 1 })
bits true false = Some (point (pos 1))
bits false true = Some (point (pos 0))
bits false false = None

abbrev pub bit : Placed → Placed
bit x = over_one g.ToInt x (e.numeric_enclosure (bits x.enclosure.may_be_true x.enclosure.may_be_false) false)

-- ---- truth values

abbrev pub all : List Placed → Placed
all xs = over_list g.And xs (e.boolean_enclosure (e.all_may_be_true (enclosures_of xs)) (e.any_may_be_false (enclosures_of xs)))

abbrev pub some : List Placed → Placed
some xs = over_list g.Or xs (e.boolean_enclosure (e.any_may_be_true (enclosures_of xs)) (e.all_may_be_false (enclosures_of xs)))

abbrev pub denial : Placed → Placed
denial x = over_one g.Not x (e.boolean_enclosure x.enclosure.may_be_false x.enclosure.may_be_true)

abbrev pub equivalence : Placed → Placed → Placed
equivalence x y = over_two g.Iff x y (e.combined iff x.enclosure y.enclosure)

abbrev pub implication : Placed → Placed → Placed
implication x y = over_two g.Imp x y (e.combined imp x.enclosure y.enclosure)

abbrev pub exclusive : Placed → Placed → Placed
exclusive x y = over_two g.Xor x y (e.combined xor x.enclosure y.enclosure)

abbrev pub choice_of_truths : Placed → Placed → Placed → Placed
choice_of_truths c x y = over_three g.IteB c x y (e.either_truth c.enclosure x.enclosure y.enclosure)

-- ---- comparisons

abbrev pub equal : Placed → Placed → Placed
equal x y = over_two g.Eq x y (e.comparison e.meets e.may_differ x.enclosure y.enclosure)

abbrev pub unequal : Placed → Placed → Placed
unequal x y = over_two g.Ne x y (e.comparison e.may_differ e.meets x.enclosure y.enclosure)

abbrev pub less : Placed → Placed → Placed
less x y = over_two g.Lt x y (e.comparison e.may_be_less e.may_be_at_least x.enclosure y.enclosure)

abbrev pub at_most : Placed → Placed → Placed
at_most x y = over_two g.Le x y (e.comparison e.may_be_at_most e.may_be_greater x.enclosure y.enclosure)

-- one more for each range
abbrev pub member : List Span → Placed → Placed
member rs x = record {
  tree = g.In x.tree rs;
  enclosure = e.boolean_enclosure (e.test_interval (e.may_be_in rs) x.enclosure.interval) (x.enclosure.may_be_undefined || e.test_interval (λ s. not (e.is_inside rs s)) x.enclosure.interval);
  size = above (x.size + length rs);
  nesting = above (x.nesting);
}

abbrev pub distinct : List Placed → Placed
distinct xs = over_list g.AllDiff xs (e.distinct (enclosures_of xs))

-- one more for each number of the rows
abbrev pub rowed : List (List ℤ) → List Placed → Placed
rowed rows xs = record {
  tree = g.Table (trees_of xs) rows;
  enclosure = e.rowed rows (enclosures_of xs);
  size = above (sizes_of xs + sum_by length rows);
  nesting = above (deepest_of xs);
}
