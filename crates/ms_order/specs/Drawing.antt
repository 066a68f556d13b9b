-- What the items say, in numbers.
use Rattle.std.specs.Prelude.{ℕ, List, [], ◌∷◌, ◌++◌, Bool, true, false, Option, Some, None, if◌then◌else◌, get_or, set, map}
use Rattle.std.specs.Option.{option_to_list}
use Rattle.ms_syntax.specs.Tree as x
use Rattle.ms_syntax.specs.Tree.{It}
use Rattle.ms_typing.specs.Items.{globals_of}
use Rattle.ms_graph.specs.Graph.{Edges}
use Rattle.ms_free_names.specs.Uses.{Words, parameters, uses, uses_decl, uses_kind, uses_params}
use Rattle.ms_declarations.specs.Declaring.{declared_by}
use Rattle.ms_declarations.specs.Depends.{Saying}
use Rattle.ms_order.specs.Order.{number_in}

-- the names that an item declares
abbrev pub words_by : It → Words
words_by i = map (λ g. g.0) (globals_of i)

-- ---- which numbers are those of variables and parameters

abbrev pub flag_at : Option ℕ → List Bool → List Bool
flag_at None flags = flags
flag_at (Some k) flags = set flags k true

abbrev pub flag_by : Words → It → List Bool → List Bool
flag_by ns (x.declaration d) flags = flag_at (number_in ns (declared_by d).1) flags
flag_by ns i flags = flags

abbrev pub flags_by : Words → List It → List Bool → List Bool
flags_by ns [] flags = flags
flags_by ns (i ∷ is) flags = flags_by ns is (flag_by ns i flags)

abbrev pub flag_of : Option ℕ → List Bool → Bool
flag_of None flags = false
flag_of (Some k) flags = get_or flags k false

-- whether a name is one of them
abbrev pub flagged : Words → List Bool → List ℕ → Bool
flagged ns flags w = flag_of (number_in ns w) flags

-- what an item says, where these are flagged
abbrev pub says_by : Words → List Bool → It → List Saying
says_by ns flags (x.include p w) = []
says_by ns flags (x.declaration d) = ((declared_by d).1, uses_decl [] d) ∷ []
says_by ns flags (x.enumeration p w es) = []
says_by ns flags (x.assignment p w e) = if flagged ns flags w then (w, uses [] e) ∷ [] else []
says_by ns flags (x.constraint p e es) = []
says_by ns flags (x.solve p es g) = []
says_by ns flags (x.output p e) = []
says_by ns flags (x.predicate p w ps e) = (w, uses_params [] ps ++ uses (parameters ps) e) ∷ []
says_by ns flags (x.function p k w ps e) = (w, uses_kind [] k ++ (uses_params [] ps ++ uses (parameters ps) e)) ∷ []

-- ---- the graph of what names use

-- the numbers of some words that are names
abbrev pub numbers : Words → Words → List ℕ
numbers ns [] = []
numbers ns (w ∷ ws) = option_to_list (number_in ns w) ++ numbers ns ws

abbrev pub drawn_at : Option ℕ → List ℕ → Edges → Edges
drawn_at None to g = g
drawn_at (Some k) to g = set g k (get_or g k [] ++ to)

-- edges from a name to the names that it uses
abbrev pub drawn_one : Words → Saying → Edges → Edges
drawn_one ns s g = drawn_at (number_in ns s.0) (numbers ns s.1) g

abbrev pub drawn : Words → List Saying → Edges → Edges
drawn ns [] g = g
drawn ns (s ∷ ss) g = drawn ns ss (drawn_one ns s g)
