-- How the operators of a chain group, and where nodes stand.
use Rattle.std.specs.Prelude.{ℕ, List, [], ◌∷◌, Option, Some, None, ◌==◌, if◌then◌else◌}
use Rattle.ms_syntax.specs.declared.token.Place.{Place}
use Rattle.ms_syntax.specs.declared.tree.Operator.{Operator}
use Rattle.ms_syntax.specs.Tree as x
use Rattle.ms_syntax.specs.Tree.{Ex, It, Links, Names, no_links, link, of_concat}

-- operators in pairs, each with its place
pub data Grouped : Type 0 where
  operand : Ex → Grouped
  operation : Operator → Place → Grouped → Grouped → Grouped

abbrev pub to_left : Grouped → Links → Grouped
to_left g no_links = g
to_left g (link op p e more) = to_left (operation op p g (operand e)) more

abbrev pub to_right : Ex → Links → Grouped
to_right e no_links = operand e
to_right e (link op p e2 more) = operation op p (operand e) (to_right e2 more)

-- `++` groups to the right, every other level to the left
abbrev pub grouped : ℕ → Ex → Links → Grouped
grouped n e ls = if n == of_concat then to_right e ls else to_left (operand e) ls

-- with an operator more at the end
abbrev pub followed_by : Links → Operator → Place → Ex → Links
followed_by no_links op p e = link op p e no_links
followed_by (link op2 p2 e2 more) op p e = link op2 p2 e2 (followed_by more op p e)

-- ---- where a node stands

-- the place of the operator at the root, and p where there is none
abbrev pub root_place : Place → Grouped → Place
root_place p (operand e) = p
root_place p (operation op q first second) = q

-- a chain stands where the operator at its root does, which is its last one, and of `++` its first
abbrev pub place_of : Ex → Place
place_of (x.let_in p ds c e) = p
place_of (x.chain n e ls) = root_place (place_of e) (grouped n e ls)
place_of (x.prefix p s e) = p
place_of (x.access p e is) = p
place_of (x.number p n) = p
place_of (x.text p w) = p
place_of (x.truth p b) = p
place_of (x.name p w) = p
place_of (x.call p w es) = p
place_of (x.generator_call p w gs c e) = p
place_of (x.paren p e) = p
place_of (x.array p es) = p
place_of (x.comprehension p e gs c) = p
place_of (x.rows p rs) = p
place_of (x.set p es) = p
place_of (x.if_else p c b more e) = p

abbrev pub item_place : It → Place
item_place (x.include p w) = p
item_place (x.declaration (x.declare p k w ns v)) = p
item_place (x.enumeration p w ns) = p
item_place (x.assignment p w e) = p
item_place (x.constraint p e ns) = p
item_place (x.solve p ns goal) = p
item_place (x.output p e) = p
item_place (x.predicate p w ps e) = p
item_place (x.function p k w ps e) = p

-- the place of the first of some names, which is that of the generator that declares them
abbrev pub first_place : Names → Option Place
first_place [] = None
first_place (n ∷ ns) = Some n.0
