-- Each node over a list.
use Rattle.std.proofs.Common.{◌≡◌, ◌∙◌, ℕ, ◌+◌, max, ◌||◌, List, Some, length, map, sum, sum_by, sym, ap, arith}
use Rattle.std.specs.Prelude.{ℤ, pos, ◌/◌}
use Rattle.ms_num.specs.Span.{Span, point, add_span, min_span, max_span}
use Rattle.ms_trees.specs.Enclosure as r
use Rattle.ms_trees.specs.Enclosure.{enclosure}
use Rattle.ms_trees.specs.Size as s
use Rattle.ms_trees.specs.WellFormed.{fits, sums_fit}
use Rattle.ms_trees.specs.declared.extreme.Extreme.TheVariants.{Least, Greatest}
use Rattle.ms_trees.specs.declared.tree.Enclosure.{Enclosure}
use Rattle.ms_trees.specs.declared.tree.Ground.{Ground}
use Rattle.ms_trees.specs.declared.tree.Ground.TheVariants as g
use Rattle.ms_trees.specs.declared.tree.Ground.TheFolds.{the_lemmas}
use Rattle.ms_trees.proofs.Bools.{ap2}
use Rattle.ms_tree_nodes.specs.Nodes as n
use Rattle.ms_tree_nodes.specs.Nodes.{cap, above}
use Rattle.ms_tree_nodes.specs.Kept.{IsKept}
use Rattle.ms_kept.specs.Laws as l
use Rattle.ms_kept.specs.Laws.{AreKept}
use Rattle.ms_kept.proofs.Joined.{joined, meant, sized, nested, if_any, all_meant, all_sized, all_nested}
use Rattle.ms_values.specs.declared.operand.Placed.{Placed}

-- ---- counts

one_more : (a m t : ℕ) → cap a ≡ cap m → t ≡ 1 + m → above a ≡ cap t
one_more a m t e h = omega (arith, e, h)

two_more : (a b m k t : ℕ) → cap a ≡ cap m → b ≡ cap k → t ≡ 1 + m + k → above (a + b) ≡ cap t
two_more a b m k t e f h = omega (arith, e, f, h)

three_more : (a b c m k j t : ℕ) → cap a ≡ cap m → b ≡ cap k → c ≡ cap j → t ≡ 1 + m + k + j → above (a + b + c) ≡ cap t
three_more a b c m k j t e f g h = omega (arith, e, f, g, h)

over_two_more : (a b m k t : ℕ) → cap a ≡ cap m → b ≡ cap k → t ≡ 1 + max m k → above (max a b) ≡ cap t
over_two_more a b m k t e f h = omega (arith, e, f, h)

over_three_more : (a b c m k j t : ℕ) → cap a ≡ cap m → b ≡ cap k → c ≡ cap j → t ≡ 1 + max (max m k) j → above (max (max a b) c) ≡ cap t
over_three_more a b c m k j t e f g h = omega (arith, e, f, g, h)

with_more : (a m k t : ℕ) → cap a ≡ cap m → t ≡ 1 + m + k → above (a + k) ≡ cap t
with_more a m k t e h = omega (arith, e, h)

-- ---- nodes over a list alone

of_list : (sets : List Span) (f : List Ground → Ground) (q : List Enclosure → Enclosure) (xs : List Placed) →
    enclosure sets (f (n.trees_of xs)) ≡ q (map (enclosure sets) (n.trees_of xs)) → s.size_of (f (n.trees_of xs)) ≡ 1 + sum (map s.size_of (n.trees_of xs)) → s.nesting_of (f (n.trees_of xs)) ≡ 1 + s.deepest (map s.nesting_of (n.trees_of xs)) →
    AreKept sets xs → IsKept sets (n.over_list f xs (q (n.enclosures_of xs)))
of_list sets f q xs e size nesting h =
    joined sets (f (n.trees_of xs)) (q (n.enclosures_of xs)) _ _ (ap q (all_meant sets xs h) ∙ sym e)
    (one_more (n.sizes_of xs) (sum (map s.size_of (n.trees_of xs))) _ (all_sized sets xs h) size) (one_more (n.deepest_of xs) (s.deepest (map s.nesting_of (n.trees_of xs))) _ (all_nested sets xs h) nesting)

pub all : l.KeepsList n.all
all sets xs = of_list sets g.And (λ ps. r.boolean_enclosure (r.all_may_be_true ps) (r.any_may_be_false ps)) xs (search the_lemmas) (search the_lemmas) (search the_lemmas)

pub some : l.KeepsList n.some
some sets xs = of_list sets g.Or (λ ps. r.boolean_enclosure (r.any_may_be_true ps) (r.all_may_be_false ps)) xs (search the_lemmas) (search the_lemmas) (search the_lemmas)

pub distinct : l.KeepsList n.distinct
distinct sets xs = of_list sets g.AllDiff r.distinct xs (search the_lemmas) (search the_lemmas) (search the_lemmas)

pub rowed : l.RowsAreKept
rowed rows sets xs h =
    joined sets (g.Table (n.trees_of xs) rows) (r.rowed rows (n.enclosures_of xs)) _ _ (ap (r.rowed rows) (all_meant sets xs h) ∙ sym (search the_lemmas))
    (with_more (n.sizes_of xs) (sum (map s.size_of (n.trees_of xs))) (sum_by length rows) _ (all_sized sets xs h) (search the_lemmas)) (one_more (n.deepest_of xs) (s.deepest (map s.nesting_of (n.trees_of xs))) _ (all_nested sets xs h) (search the_lemmas))

total_of : List Enclosure → Enclosure
total_of ps = r.numeric_enclosure (r.folded_intervals add_span (Some (point (pos 0))) ps) (r.any_may_be_undefined ps)

pub total : l.KeepsListIfAny n.total
unfolding total_of
total sets xs h = if_any sets (n.over_list g.Sum xs) (sums_fit (Some (point (pos 0))) (n.enclosures_of xs)) (total_of (n.enclosures_of xs)) (of_list sets g.Sum total_of xs (search the_lemmas) (search the_lemmas) (search the_lemmas) h)

pub extreme : l.ExtremesAreKept
extreme Least sets xs h = if_any sets (n.over_list g.Least xs) (fits (r.extreme_enclosure min_span (n.enclosures_of xs)).interval) (r.extreme_enclosure min_span (n.enclosures_of xs)) (of_list sets g.Least (r.extreme_enclosure min_span) xs (search the_lemmas) (search the_lemmas) (search the_lemmas) h)
extreme Greatest sets xs h = if_any sets (n.over_list g.Greatest xs) (fits (r.extreme_enclosure max_span (n.enclosures_of xs)).interval) (r.extreme_enclosure max_span (n.enclosures_of xs)) (of_list sets g.Greatest (r.extreme_enclosure max_span) xs (search the_lemmas) (search the_lemmas) (search the_lemmas) h)

-- ---- nodes over a list and one tree more

abbrev with_one : (List Ground → Ground → Ground) → List Placed → Placed → Enclosure → Placed
with_one f xs y q = record { tree = f (n.trees_of xs) y.tree; enclosure = q; size = above (n.sizes_of xs + y.size); nesting = above (max (n.deepest_of xs) y.nesting) }

of_list_and_one : (sets : List Span) (f : List Ground → Ground → Ground) (q : List Enclosure → Enclosure → Enclosure) (xs : List Placed) (y : Placed) →
    enclosure sets (f (n.trees_of xs) y.tree) ≡ q (map (enclosure sets) (n.trees_of xs)) (enclosure sets y.tree) → s.size_of (f (n.trees_of xs) y.tree) ≡ 1 + sum (map s.size_of (n.trees_of xs)) + s.size_of y.tree →
    s.nesting_of (f (n.trees_of xs) y.tree) ≡ 1 + max (s.deepest (map s.nesting_of (n.trees_of xs))) (s.nesting_of y.tree) →
    AreKept sets xs → IsKept sets y → l.IsKeptIfAny sets (Some (with_one f xs y (q (n.enclosures_of xs) y.enclosure)))
of_list_and_one sets f q xs y e size nesting h k =
    joined sets (f (n.trees_of xs) y.tree) (q (n.enclosures_of xs) y.enclosure) _ _ (ap2 q (all_meant sets xs h) (meant sets y k) ∙ sym e)
    (two_more (n.sizes_of xs) y.size (sum (map s.size_of (n.trees_of xs))) (s.size_of y.tree) _ (all_sized sets xs h) (sized sets y k) size)
    (over_two_more (n.deepest_of xs) y.nesting (s.deepest (map s.nesting_of (n.trees_of xs))) (s.nesting_of y.tree) _ (all_nested sets xs h) (nested sets y k) nesting)

pub count : l.KeepsListAndOneIfAny n.count
count sets xs y h k = if_any sets (with_one g.Count xs y) (fits (r.counted_enclosure (n.enclosures_of xs) y.enclosure).interval) (r.counted_enclosure (n.enclosures_of xs) y.enclosure) (of_list_and_one sets g.Count r.counted_enclosure xs y (search the_lemmas) (search the_lemmas) (search the_lemmas) h k)

element_of : ℤ → List Enclosure → Enclosure → Enclosure
element_of low ps i = r.selected_enclosure (r.is_reached low i.interval) (i.may_be_undefined || r.leaves low (length ps) i.interval) ps

pub element : l.ElementsAreKept
unfolding element_of
element low sets xs i h k = if_any sets (with_one (g.Elem low) xs i) (fits (element_of low (n.enclosures_of xs) i.enclosure).interval) (element_of low (n.enclosures_of xs) i.enclosure) (of_list_and_one sets (g.Elem low) (element_of low) xs i (search the_lemmas) (search the_lemmas) (search the_lemmas) h k)

-- ---- nodes over a list and two trees more

element_at : ℤ → ℤ → ℕ → List Enclosure → Enclosure → Enclosure → Enclosure
element_at low left width ps i j = r.selected_enclosure (r.is_reached2 low left width (length ps) i.interval j.interval) (i.may_be_undefined || j.may_be_undefined || r.leaves low (length ps / width) i.interval || r.leaves left width j.interval) ps

abbrev grid : ℤ → ℤ → ℕ → List Placed → Placed → Placed → Enclosure → Placed
grid low left width xs i j q = record { tree = g.Elem2 low left width (n.trees_of xs) i.tree j.tree; enclosure = q; size = above (n.sizes_of xs + i.size + j.size); nesting = above (max (max (n.deepest_of xs) i.nesting) j.nesting) }

pub element_of_grid : l.ElementsOfGridsAreKept
unfolding element_at
element_of_grid low left width sets xs i j h k m =
    if_any sets (grid low left width xs i j) (fits (element_at low left width (n.enclosures_of xs) i.enclosure j.enclosure).interval) (element_at low left width (n.enclosures_of xs) i.enclosure j.enclosure)
    (joined sets (g.Elem2 low left width (n.trees_of xs) i.tree j.tree) (element_at low left width (n.enclosures_of xs) i.enclosure j.enclosure) _ _ (rw (all_meant sets xs h, meant sets i k, meant sets j m) (sym (search the_lemmas)))
    (three_more (n.sizes_of xs) i.size j.size (sum (map s.size_of (n.trees_of xs))) (s.size_of i.tree) (s.size_of j.tree) _ (all_sized sets xs h) (sized sets i k) (sized sets j m) (search the_lemmas))
    (over_three_more (n.deepest_of xs) i.nesting j.nesting (s.deepest (map s.nesting_of (n.trees_of xs))) (s.nesting_of i.tree) (s.nesting_of j.tree) _ (all_nested sets xs h) (nested sets i k) (nested sets j m) (search the_lemmas)))
