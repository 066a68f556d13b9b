-- What a primitive constraint means: a tree over variables.
use Rattle.std.specs.Prelude.{ℕ, List, [], ◌∷◌, ◌++◌, map, if◌then◌else◌}
use Rattle.ms_trees.specs.declared.tree.Ground.{Ground}
use Rattle.ms_trees.specs.declared.tree.Ground.TheVariants as g
use Rattle.ms_prim.specs.declared.pieces.Part.{Part}
use Rattle.ms_prim.specs.declared.pieces.Part.TheVariants.{V, N}
use Rattle.ms_prim.specs.declared.pieces.Lit.{Lit}
use Rattle.ms_prim.specs.declared.pieces.Term.{Term}
use Rattle.ms_prim.specs.declared.pieces.Cmp.{Cmp}
use Rattle.ms_prim.specs.declared.pieces.Cmp.TheVariants.{Same, Other, AtMost, Less}
use Rattle.ms_prim.specs.declared.pieces.Tie.{Tie}
use Rattle.ms_prim.specs.declared.pieces.Tie.TheVariants.{Holds, Iff}
use Rattle.ms_prim.specs.declared.primitive.Primitive.{Primitive}
use Rattle.ms_prim.specs.declared.primitive.Primitive.TheVariants.{Sum, Product, Quotient, Remainder, Absolute, Least, Greatest, Count, Element, Element2, Total, Compare, Member, Clause, Table, Differ, Whole}

abbrev pub part_tree : Part → Ground
part_tree (V v) = g.Var v
part_tree (N n) = g.Num n

abbrev pub part_trees : List Part → List Ground
part_trees parts = map part_tree parts

abbrev pub term_tree : Term → Ground
term_tree t = g.Mul (g.Num t.factor) (g.Var t.var)

abbrev pub term_trees : List Term → List Ground
term_trees terms = map term_tree terms

abbrev pub lit_tree : Lit → Ground
lit_tree l = if l.positive then g.BVar l.var else g.Not (g.BVar l.var)

abbrev pub related : Cmp → Ground → Ground → Ground
related Same x y = g.Eq x y
related Other x y = g.Ne x y
related AtMost x y = g.Le x y
related Less x y = g.Lt x y

-- the operation of a primitive
abbrev pub operation : Primitive → Ground
operation (Sum terms n v) = g.Sum (term_trees terms ++ g.Num n ∷ [])
operation (Product x y v) = g.Mul (part_tree x) (part_tree y)
operation (Quotient x y v) = g.Div (part_tree x) (part_tree y)
operation (Remainder x y v) = g.Mod (part_tree x) (part_tree y)
operation (Absolute x v) = g.Abs (part_tree x)
operation (Least parts v) = g.Least (part_trees parts)
operation (Greatest parts v) = g.Greatest (part_trees parts)
operation (Count parts x v) = g.Count (part_trees parts) (part_tree x)
operation (Element low parts i v) = g.Elem low (part_trees parts) (part_tree i)
operation (Element2 low left width parts i j v) = g.Elem2 low left width (part_trees parts) (part_tree i) (part_tree j)
operation (Total terms cmp n) = related cmp (g.Sum (term_trees terms)) (g.Num n)
operation (Compare cmp x y tie) = related cmp (part_tree x) (part_tree y)
operation (Member x set tie) = g.In (part_tree x) set
operation (Clause lits tie) = g.Or (map lit_tree lits)
operation (Table parts rows tie) = g.Table (part_trees parts) rows
operation (Differ parts tie) = g.AllDiff (part_trees parts)
operation (Whole g) = g

-- what ties an operation to a variable: nothing, so that it holds; it equals the variable; it is equivalent to the truth variable
pub data Binding : Type 0 where
  held : Binding
  equal_to : ℕ → Binding
  equivalent_to : ℕ → Binding

abbrev pub tie_binding : Tie → Binding
tie_binding Holds = held
tie_binding (Iff v) = equivalent_to v

abbrev pub binding : Primitive → Binding
binding (Sum terms n v) = equal_to v
binding (Product x y v) = equal_to v
binding (Quotient x y v) = equal_to v
binding (Remainder x y v) = equal_to v
binding (Absolute x v) = equal_to v
binding (Least parts v) = equal_to v
binding (Greatest parts v) = equal_to v
binding (Count parts x v) = equal_to v
binding (Element low parts i v) = equal_to v
binding (Element2 low left width parts i j v) = equal_to v
binding (Total terms cmp n) = held
binding (Compare cmp x y tie) = tie_binding tie
binding (Member x set tie) = tie_binding tie
binding (Clause lits tie) = tie_binding tie
binding (Table parts rows tie) = tie_binding tie
binding (Differ parts tie) = tie_binding tie
binding (Whole g) = held

abbrev pub bound : Binding → Ground → Ground
bound held t = t
bound (equal_to v) t = g.Eq t (g.Var v)
bound (equivalent_to v) t = g.Iff t (g.BVar v)

-- the tree that a primitive means
abbrev pub tree_of : Primitive → Ground
tree_of p = bound (binding p) (operation p)
