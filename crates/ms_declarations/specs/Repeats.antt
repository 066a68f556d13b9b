-- The first name that is declared twice, found part by part.
use Rattle.std.specs.Prelude.{ℕ, List, [], ◌∷◌, ◌++◌, Option, Some, None, is_some, option_map, unwrap_or, if◌then◌else◌, ◌≡◌, Result, Ok, Err, codes}
use Rattle.std.specs.Option.{option_or}
use Rattle.ms_syntax.specs.declared.token.Place.{Place}
use Rattle.ms_syntax.specs.Tree as x
use Rattle.ms_syntax.specs.Tree.{Names, Params, Ex, Maybe, Exs, Links, Arms, Rows, Subscripts, Gens, Decls, Decl, Kd, Bs, Indices, It, Gl}
use Rattle.ms_built_ins.specs.BuiltIns.{built_in}
use Rattle.std.specs.Prelude.{◌||◌}
use Rattle.std.specs.List.{list_any}
use Rattle.ms_declarations.specs.Numbering.{number_of}
use Rattle.ms_declarations.specs.Declaring.{declared_by, enumerates, names_of_set, place_of}
use Rattle.ms_declarations.specs.declared.stop.Stop.{Stop}
use Rattle.ms_declarations.specs.declared.stop.Stop.TheVariants.{Memory, Twice}

abbrev pub Pair : Type 0
Pair = Option (Place × Place)

-- one name more
abbrev pub one : Names → Place × List ℕ → Pair
one before n = if is_some (built_in n.1) then Some (n.0, n.0) else option_map (λ earlier. (earlier, n.0)) (place_of before n.1)

abbrev pub more : Names → Names → Pair
more before [] = None
more before (n ∷ ns) = option_or (one before n) (more (before ++ n ∷ []) ns)

abbrev mutual
  pub twice : Ex → Pair
  twice (x.let_in p ds closed e) = option_or (twice_locals [] ds) (twice e)
  twice (x.chain n e ls) = option_or (twice e) (twice_links ls)
  twice (x.prefix p s e) = twice e
  twice (x.access p e is) = option_or (twice e) (twice_subscripts is)
  twice (x.number p n) = None
  twice (x.text p w) = None
  twice (x.truth p b) = None
  twice (x.name p w) = None
  twice (x.call p w es) = twice_exs es
  twice (x.generator_call p w gs c e) = option_or (option_or (twice_gens [] gs) (twice_maybe c)) (twice e)
  twice (x.paren p e) = twice e
  twice (x.array p es) = twice_exs es
  twice (x.comprehension p e gs c) = option_or (twice e) (option_or (twice_gens [] gs) (twice_maybe c))
  twice (x.rows p rs) = twice_rows rs
  twice (x.set p es) = twice_exs es
  twice (x.if_else p c b more e) = option_or (twice c) (option_or (twice b) (option_or (twice_arms more) (twice e)))

  pub twice_maybe : Maybe → Pair
  twice_maybe x.absent = None
  twice_maybe (x.present e) = twice e

  pub twice_exs : Exs → Pair
  twice_exs x.no_exs = None
  twice_exs (x.ex e es) = option_or (twice e) (twice_exs es)

  pub twice_links : Links → Pair
  twice_links x.no_links = None
  twice_links (x.link op p e ls) = option_or (twice e) (twice_links ls)

  pub twice_arms : Arms → Pair
  twice_arms x.no_arms = None
  twice_arms (x.arm c b more) = option_or (twice c) (option_or (twice b) (twice_arms more))

  pub twice_rows : Rows → Pair
  twice_rows x.no_rows = None
  twice_rows (x.row es rs) = option_or (twice_exs es) (twice_rows rs)

  pub twice_subscripts : Subscripts → Pair
  twice_subscripts x.no_subscripts = None
  twice_subscripts (x.subscript e o is) = option_or (twice e) (option_or (twice_maybe o) (twice_subscripts is))

  pub twice_gens : Names → Gens → Pair
  twice_gens before x.no_gens = None
  twice_gens before (x.gen ns e gs) = option_or (more before ns) (option_or (twice e) (twice_gens (before ++ ns) gs))

  pub twice_locals : Names → Decls → Pair
  twice_locals before x.no_decls = None
  twice_locals before (x.decl d ds) = option_or (twice_decl before d) (twice_locals (before ++ declared_by d ∷ []) ds)

  pub twice_decl : Names → Decl → Pair
  twice_decl before (x.declare p k w ns v) = option_or (one before (p, w)) (option_or (twice_kind k) (twice_maybe v))

  pub twice_kind : Kd → Pair
  twice_kind (x.kind is m b) = option_or (twice_indices is) (twice_base b)

  pub twice_base : Bs → Pair
  twice_base x.of_bool = None
  twice_base x.of_int = None
  twice_base x.of_string = None
  twice_base x.of_ann = None
  twice_base x.set_of_int = None
  twice_base (x.set_of e) = twice e
  twice_base (x.of_values e) = twice e

  pub twice_indices : Indices → Pair
  twice_indices x.no_indices = None
  twice_indices (x.index o is) = option_or (twice_maybe o) (twice_indices is)

abbrev pub twice_params : Names → Params → Pair
twice_params before [] = None
twice_params before (p ∷ ps) = option_or (one before (p.0, p.2)) (option_or (twice_kind p.1) (twice_params (before ++ (p.0, p.2) ∷ []) ps))

abbrev pub twice_goal : Gl → Pair
twice_goal (x.satisfy p) = None
twice_goal (x.minimize p e) = twice e
twice_goal (x.maximize p e) = twice e
twice_goal (x.search_by p e) = twice e

abbrev pub twice_inside : It → Pair
twice_inside (x.include p w) = None
twice_inside (x.declaration (x.declare p k w ns v)) = option_or (twice_kind k) (twice_maybe v)
twice_inside (x.enumeration p w ns) = None
twice_inside (x.assignment p w e) = twice e
twice_inside (x.constraint p e ns) = twice e
twice_inside (x.solve p ns g) = twice_goal g
twice_inside (x.output p e) = twice e
twice_inside (x.predicate p w ps e) = option_or (twice_params [] ps) (twice e)
twice_inside (x.function p k w ps e) = option_or (twice_kind k) (option_or (twice_params [] ps) (twice e))

-- a solve item, behind the first one
abbrev pub twice_solve : Option Place → It → Pair
twice_solve solved (x.solve p ns g) = option_map (λ earlier. (earlier, p)) solved
twice_solve solved i = None

abbrev pub solved_by : Option Place → It → Option Place
solved_by solved (x.solve p ns g) = option_or solved (Some p)
solved_by solved i = solved

-- what an item declares in the list of all items, where these are the names of the enumerated types
abbrev pub names_with : Names → It → Names
names_with types (x.include p w) = []
names_with types (x.declaration d) = declared_by d ∷ []
names_with types (x.enumeration p w ns) = (p, w) ∷ unwrap_or ns []
names_with types (x.assignment p w e) = if is_some (number_of types w) then names_of_set e else []
names_with types (x.constraint p e ns) = []
names_with types (x.solve p ns g) = []
names_with types (x.output p e) = []
names_with types (x.predicate p w ps e) = (p, w) ∷ []
names_with types (x.function p k w ps e) = (p, w) ∷ []

abbrev pub twice_items : Names → Names → Option Place → List It → Pair
twice_items types names solved [] = None
twice_items types names solved (i ∷ is) =
    option_or (option_or (more names (names_with types i)) (option_or (twice_solve solved i) (twice_inside i)))
    (twice_items types (names ++ names_with types i) (solved_by solved i) is)

-- what a search for them answers
abbrev pub Tells : {X : Type 0} → Pair → Result X Stop → Type 0
Tells found (Ok a) = found ≡ None
Tells found (Err Memory) = Unit {0}
Tells found (Err (Twice p q)) = found ≡ Some (p, q)

-- the same of a search that gives something where it finds none
abbrev pub TellsWith : {X : Type 0} → Pair → (X → Type 0) → Result X Stop → Type 0
TellsWith found P (Ok a) = (found ≡ None) × P a
TellsWith found P (Err Memory) = Unit {0}
TellsWith found P (Err (Twice p q)) = found ≡ Some (p, q)

-- names that are those of the enumerated types of some items, and one item's more of them
abbrev pub AreTypes : List It → Names → Type 0
AreTypes items types = (w : List ℕ) → is_some (number_of types w) ≡ list_any (enumerates w) items

abbrev pub AddsType : Names → It → Names → Type 0
AddsType old i new = (w : List ℕ) → is_some (number_of new w) ≡ (is_some (number_of old w) || enumerates w i)
