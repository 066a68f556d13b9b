-- The graph of the names of a text's items.
use Rattle.std.specs.Prelude.{◌≡◌, ℕ, List, [], ◌∷◌, ◌++◌, Bool, true, false, Option, Some, None, is_some, if◌then◌else◌, get_or, set}
use Rattle.std.specs.List.{list_any}
use Rattle.std.specs.Option.{option_to_list}
use Rattle.ms_syntax.specs.declared.token.Place.{Place}
use Rattle.ms_syntax.specs.Tree as x
use Rattle.ms_syntax.specs.Tree.{Names, It}
use Rattle.ms_graph.specs.Graph.{Edges}
use Rattle.ms_declarations.specs.Numbering.{number_of}
use Rattle.ms_declarations.specs.Declaring.{declared_by}
use Rattle.ms_free_names.specs.Uses.{Words, parameters, uses, uses_decl, uses_kind, uses_params}
use Rattle.ms_declarations.specs.Depends.{DependsOn, FirstCycle, HasNoCycle, Saying, is_value}

-- the numbers of some words that are names
abbrev pub numbers : Names → Words → List ℕ
numbers ns [] = []
numbers ns (w ∷ ws) = option_to_list (number_of ns w) ++ numbers ns ws

abbrev pub drawn_at : Option ℕ → List ℕ → Edges → Edges
drawn_at None to g = g
drawn_at (Some k) to g = set g k (get_or g k [] ++ to)

-- edges from a name to the names that it uses
abbrev pub drawn_one : Names → Saying → Edges → Edges
drawn_one ns s g = drawn_at (number_of ns s.0) (numbers ns s.1) g

abbrev pub drawn : Names → List Saying → Edges → Edges
drawn ns [] g = g
drawn ns (s ∷ ss) g = drawn ns ss (drawn_one ns s g)

-- names that are those of the variables of some items, and one item's more of them
abbrev pub AreValues : List It → Names → Type 0
AreValues items values = (w : List ℕ) → is_some (number_of values w) ≡ list_any (is_value w) items

-- what an item says, where these are the names of the variables
abbrev pub says_with : Names → It → List Saying
says_with values (x.include p w) = []
says_with values (x.declaration d) = ((declared_by d).1, uses_decl [] d) ∷ []
says_with values (x.enumeration p w ns) = []
says_with values (x.assignment p w e) = if is_some (number_of values w) then (w, uses [] e) ∷ [] else []
says_with values (x.constraint p e ns) = []
says_with values (x.solve p ns g) = []
says_with values (x.output p e) = []
says_with values (x.predicate p w ps e) = (w, uses_params [] ps ++ uses (parameters ps) e) ∷ []
says_with values (x.function p k w ps e) = (w, uses_kind [] k ++ (uses_params [] ps ++ uses (parameters ps) e)) ∷ []

-- ---- the first name that is marked

abbrev pub marked : Option ℕ → List Bool → Bool
marked None marks = false
marked (Some k) marks = get_or marks k false

abbrev pub first_marked : Names → List Bool → Names → Option Place
first_marked ns marks [] = None
first_marked ns marks (n ∷ others) = if marked (number_of ns n.1) marks then Some n.0 else first_marked ns marks others

abbrev pub TellsCycle : List It → Option Place → Type 0
TellsCycle items (Some p) = FirstCycle items p
TellsCycle items None = HasNoCycle items
