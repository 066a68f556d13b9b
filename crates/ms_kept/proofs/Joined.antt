-- A node is kept where its meaning, its size and its nesting are those of its tree.
use Rattle.std.proofs.Common.{◌≡◌, ◌∙◌, ℕ, ◌+◌, max, Bool, true, false, List, [], ◌∷◌, option_map, map, sum, refl, sym, ap, arith}
use Rattle.std.proofs.lemmas.List.Sums.{sum_by-cons}
use Rattle.ms_num.specs.Span.{Span}
use Rattle.ms_trees.specs.Enclosure.{enclosure}
use Rattle.ms_trees.specs.Size as s
use Rattle.ms_trees.specs.declared.tree.Enclosure.{Enclosure}
use Rattle.ms_trees.specs.declared.tree.Ground.{Ground}
use Rattle.ms_trees.proofs.Bools.{ap2}
use Rattle.ms_ground.specs.Known.{known}
use Rattle.ms_tree_nodes.specs.Nodes as n
use Rattle.ms_tree_nodes.specs.Nodes.{cap, above}
use Rattle.ms_tree_nodes.specs.Kept.{IsKept}
use Rattle.ms_kept.specs.Laws.{IsKeptIfAny, AreKept}
use Rattle.ms_values.specs.declared.operand.Placed.{Placed}

pub joined : (sets : List Span) (t : Ground) (r : Enclosure) (size nesting : ℕ) → r ≡ enclosure sets t → size ≡ cap (s.size_of t) → nesting ≡ cap (s.nesting_of t) →
    IsKept sets (record { tree = t; enclosure = r; size = size; nesting = nesting })
joined sets t r size nesting e f g = rw (e, f, g) refl

-- ---- what stands beside a part

pub meant : (sets : List Span) (x : Placed) → IsKept sets x → x.enclosure ≡ enclosure sets x.tree
meant sets x h = ap n.enclosure_of h

pub sized : (sets : List Span) (x : Placed) → IsKept sets x → x.size ≡ cap (s.size_of x.tree)
sized sets x h = ap n.size_of h

pub nested : (sets : List Span) (x : Placed) → IsKept sets x → x.nesting ≡ cap (s.nesting_of x.tree)
nested sets x h = ap n.nesting_of h

-- ---- counts that stand still are joined as whole ones

pub one_more : (a m t : ℕ) → a ≡ cap m → t ≡ 1 + m → above a ≡ cap t
one_more a m t e h = omega (arith, e, h)

pub two_more : (a b m k t : ℕ) → a ≡ cap m → b ≡ cap k → t ≡ 1 + m + k → above (a + b) ≡ cap t
two_more a b m k t e f h = omega (arith, e, f, h)

pub three_more : (a b c m k l t : ℕ) → a ≡ cap m → b ≡ cap k → c ≡ cap l → t ≡ 1 + m + k + l → above (a + b + c) ≡ cap t
three_more a b c m k l t e f g h = omega (arith, e, f, g, h)

pub over_two_more : (a b m k t : ℕ) → a ≡ cap m → b ≡ cap k → t ≡ 1 + max m k → above (max a b) ≡ cap t
over_two_more a b m k t e f h = omega (arith, e, f, h)

pub over_three_more : (a b c m k l t : ℕ) → a ≡ cap m → b ≡ cap k → c ≡ cap l → t ≡ 1 + max (max m k) l → above (max (max a b) c) ≡ cap t
over_three_more a b c m k l t e f g h = omega (arith, e, f, g, h)

-- ---- nodes of one, two or three parts

pub of_one : (sets : List Span) (f : Ground → Ground) (r : Enclosure → Enclosure) (x : Placed) → enclosure sets (f x.tree) ≡ r (enclosure sets x.tree) → s.size_of (f x.tree) ≡ 1 + s.size_of x.tree → s.nesting_of (f x.tree) ≡ 1 + s.nesting_of x.tree →
    IsKept sets x → IsKept sets (n.over_one f x (r x.enclosure))
of_one sets f r x e size nesting h =
    joined sets (f x.tree) (r x.enclosure) _ _ (ap r (meant sets x h) ∙ sym e) (one_more x.size (s.size_of x.tree) _ (sized sets x h) size) (one_more x.nesting (s.nesting_of x.tree) _ (nested sets x h) nesting)

pub of_two : (sets : List Span) (f : Ground → Ground → Ground) (r : Enclosure → Enclosure → Enclosure) (x y : Placed) →
    enclosure sets (f x.tree y.tree) ≡ r (enclosure sets x.tree) (enclosure sets y.tree) → s.size_of (f x.tree y.tree) ≡ 1 + s.size_of x.tree + s.size_of y.tree → s.nesting_of (f x.tree y.tree) ≡ 1 + max (s.nesting_of x.tree) (s.nesting_of y.tree) →
    IsKept sets x → IsKept sets y → IsKept sets (n.over_two f x y (r x.enclosure y.enclosure))
of_two sets f r x y e size nesting h k =
    joined sets (f x.tree y.tree) (r x.enclosure y.enclosure) _ _ (ap2 r (meant sets x h) (meant sets y k) ∙ sym e)
    (two_more x.size y.size (s.size_of x.tree) (s.size_of y.tree) _ (sized sets x h) (sized sets y k) size)
    (over_two_more x.nesting y.nesting (s.nesting_of x.tree) (s.nesting_of y.tree) _ (nested sets x h) (nested sets y k) nesting)

pub of_three : (sets : List Span) (f : Ground → Ground → Ground → Ground) (r : Enclosure → Enclosure → Enclosure → Enclosure) (c x y : Placed) →
    enclosure sets (f c.tree x.tree y.tree) ≡ r (enclosure sets c.tree) (enclosure sets x.tree) (enclosure sets y.tree) → s.size_of (f c.tree x.tree y.tree) ≡ 1 + s.size_of c.tree + s.size_of x.tree + s.size_of y.tree →
    s.nesting_of (f c.tree x.tree y.tree) ≡ 1 + max (max (s.nesting_of c.tree) (s.nesting_of x.tree)) (s.nesting_of y.tree) →
    IsKept sets c → IsKept sets x → IsKept sets y → IsKept sets (n.over_three f c x y (r c.enclosure x.enclosure y.enclosure))
of_three sets f r c x y e size nesting g h k =
    joined sets (f c.tree x.tree y.tree) (r c.enclosure x.enclosure y.enclosure) _ _ (rw (meant sets c g, meant sets x h, meant sets y k) (sym e))
    (three_more c.size x.size y.size (s.size_of c.tree) (s.size_of x.tree) (s.size_of y.tree) _ (sized sets c g) (sized sets x h) (sized sets y k) size)
    (over_three_more c.nesting x.nesting y.nesting (s.nesting_of c.tree) (s.nesting_of x.tree) (s.nesting_of y.tree) _ (nested sets c g) (nested sets x h) (nested sets y k) nesting)

-- none, or kept
pub if_any : (sets : List Span) (f : Enclosure → Placed) (fits : Bool) (r : Enclosure) → IsKept sets (f r) → IsKeptIfAny sets (option_map f (known fits r))
if_any sets f true r h = h
if_any sets f false r h = tt

-- ---- lists of parts

pub all_meant : (sets : List Span) (xs : List Placed) → AreKept sets xs → n.enclosures_of xs ≡ map (enclosure sets) (n.trees_of xs)
all_meant sets [] h = refl
all_meant sets (x ∷ xs) h = ap2 ◌∷◌ (meant sets x h.0) (all_meant sets xs h.1)

added : (a m b k : ℕ) → a ≡ cap m → cap b ≡ cap k → cap (a + b) ≡ cap (m + k)
added a m b k e h = omega (arith, e, h)

sum_cons : (m : ℕ) (ms : List ℕ) → sum (m ∷ ms) ≡ m + sum ms
sum_cons m ms = sum_by-cons (λ k. k) m ms

pub all_sized : (sets : List Span) (xs : List Placed) → AreKept sets xs → cap (n.sizes_of xs) ≡ cap (sum (map s.size_of (n.trees_of xs)))
all_sized sets [] h = refl
all_sized sets (x ∷ xs) h =
    ap cap (sum_by-cons n.size_of x xs) ∙ added x.size (s.size_of x.tree) (n.sizes_of xs) (sum (map s.size_of (n.trees_of xs))) (sized sets x h.0) (all_sized sets xs h.1)
    ∙ ap cap (sym (sum_cons (s.size_of x.tree) (map s.size_of (n.trees_of xs))))

pub all_nested : (sets : List Span) (xs : List Placed) → AreKept sets xs → cap (n.deepest_of xs) ≡ cap (s.deepest (map s.nesting_of (n.trees_of xs)))
all_nested sets [] h = refl
all_nested sets (x ∷ xs) h = omega (arith, nested sets x h.0, all_nested sets xs h.1)
