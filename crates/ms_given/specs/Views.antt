-- What the code's values stand for.
use Rattle.std.specs.Prelude.{List, map}
use Rattle.ms_given.specs.Givings.{Giving, Name}
use Rattle.ms_given.specs.declared.giving.Giving as code_giving
use Rattle.ms_given.specs.declared.names.Declared as declared

abbrev pub giving_of : code_giving.Giving → Giving
giving_of g = record { name = g.name.now; place = g.place; source = g.source }

abbrev pub givings_of : List code_giving.Giving → List Giving
givings_of gs = map giving_of gs

abbrev pub name_of : declared.Declared → Name
name_of n = (n.name.now, n.known)

abbrev pub names_in : List declared.Declared → List Name
names_in ns = map name_of ns
