-- Values that a model and its data give to names, and the first fault of them.
use Rattle.std.specs.Prelude.{ℕ, suc, Bool, true, false, not, ◌&&◌, List, [], ◌∷◌, ◌++◌, map, Option, Some, None, is_some, is_none, if◌then◌else◌}
use Rattle.std.specs.Str.{bytes_eq}
use Rattle.ms_syntax.specs.declared.token.Place.{Place}
use Rattle.ms_syntax.specs.Tree.{Ex, It}
use Rattle.ms_syntax.specs.Tree as x
use Rattle.ms_typing.specs.Conversion.{known_of}
use Rattle.ms_typing.specs.Items.{own_names}
use Rattle.ms_typing.specs.Meaning.{Globals, Meaning, World}
use Rattle.ms_typing.specs.Meaning as m
use Rattle.ms_code.specs.Items.{value_among}
use Rattle.ms_given.specs.declared.source.Source.{Source}
use Rattle.ms_given.specs.declared.source.Source.TheVariants as s

-- a value for a name, with the place where it is given
pub record Giving : Type 0 where
  pub name : List ℕ
  pub place : Place
  pub source : Source

abbrev pub giving : Source → Place → List ℕ → Giving
giving source p w = record { name = w; place = p; source = source }

-- ---- all of them: in the order of the items, and then of the data

abbrev pub given_by : ℕ → It → List Giving
given_by n (x.include p w) = []
given_by n (x.declaration (x.declare p k w notes x.absent)) = []
given_by n (x.declaration (x.declare p k w notes (x.present e))) = giving s.Declaration p w ∷ []
given_by n (x.enumeration p w ns) = []
given_by n (x.assignment p w e) = giving (s.Item n) p w ∷ []
given_by n (x.constraint p e notes) = []
given_by n (x.solve p notes goal) = []
given_by n (x.output p e) = []
given_by n (x.predicate p w ps e) = []
given_by n (x.function p k w ps e) = []

-- the first item has this place
abbrev pub given_in : ℕ → List It → List Giving
given_in n [] = []
given_in n (i ∷ is) = given_by n i ++ given_in (suc n) is

abbrev pub Pair : Type 0
Pair = Place × List ℕ × Ex

abbrev pub given_as : ℕ → List Pair → List Giving
given_as n [] = []
given_as n (d ∷ ds) = giving (s.Datum n) d.0 d.1 ∷ given_as (suc n) ds

abbrev pub givings : List It → List Pair → List Giving
givings items pairs = given_in 0 items ++ given_as 0 pairs

-- ---- the first fault

-- a declaration declares what it gives a value to
abbrev pub is_assignment : Source → Bool
is_assignment s.Declaration = false
is_assignment (s.Item n) = true
is_assignment (s.Datum n) = true

-- an assignment to a name that no declaration of its own text declares
abbrev pub is_unknown : World → Giving → Bool
is_unknown world g = is_assignment g.source && is_none (value_among (own_names world g.place) g.name)

-- the first of them
abbrev pub unknown : World → List Giving → Option Giving
unknown world [] = None
unknown world (g ∷ more) = if is_unknown world g then Some g else unknown world more

abbrev pub source_among : List Giving → List ℕ → Option Source
source_among [] w = None
source_among (g ∷ more) w = if bytes_eq g.name w then Some g.source else source_among more w

abbrev pub has_value : List Giving → List ℕ → Bool
has_value givens w = is_some (source_among givens w)

-- the first value, behind these, for a name that has one
abbrev pub repeated : List Giving → List Giving → Option Giving
repeated before [] = None
repeated before (g ∷ more) = if has_value before g.name then Some g else repeated (before ++ g ∷ []) more

abbrev pub is_known_value : Meaning → Bool
is_known_value (m.value t) = known_of t
is_known_value (m.function us t) = false
is_known_value (m.built_in b) = false

-- a declared name, and whether it is a known value
abbrev pub Name : Type 0
Name = List ℕ × Bool

abbrev pub names_of : Globals → List Name
names_of gs = map (λ g. (g.0, is_known_value g.1)) gs

abbrev pub is_missing : List Giving → Name → Bool
is_missing givens n = n.1 && not (has_value givens n.0)

-- the first known name without a value
abbrev pub missing : List Giving → List Name → Option (List ℕ)
missing givens [] = None
missing givens (n ∷ ns) = if is_missing givens n then Some n.0 else missing givens ns

-- ---- where the value of each name stands

abbrev pub sources_of : List Giving → List Name → List (Option Source)
sources_of givens ns = map (λ n. source_among givens n.0) ns
