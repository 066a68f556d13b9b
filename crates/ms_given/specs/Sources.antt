-- What is said of the values that are given: for each name that the items declare where its value stands, or the first fault.
use Rattle.std.specs.Prelude.{◌≡◌, ℕ, List, [], Option, Some, None, option_map, Result, Ok, Err}
use Rattle.ms_syntax.specs.Tree.{It}
use Rattle.ms_typing.specs.Items.{globals}
use Rattle.ms_typing.specs.Meaning.{World}
use Rattle.ms_given.specs.declared.source.Source.{Source}
use Rattle.ms_given.specs.declared.source.GivenFault.{GivenFault}
use Rattle.ms_given.specs.declared.source.GivenFault.TheVariants as f
use Rattle.ms_given.specs.Givings.{Giving, Name, Pair, givings, missing, names_of, repeated, source_among, sources_of, unknown}

pub data Sources : Type 0 where
  sources : List (Option Source) → Sources
  unknown_name : List ℕ → ℕ → Sources
  given_twice : List ℕ → ℕ → Sources
  without_value : List ℕ → Sources

abbrev pub by_missing : List Giving → List Name → Option (List ℕ) → Sources
by_missing givens ns (Some w) = without_value w
by_missing givens ns None = sources (sources_of givens ns)

abbrev pub by_repeated : List Giving → List Name → Option Giving → Sources
by_repeated givens ns (Some g) = given_twice g.name g.place.file
by_repeated givens ns None = by_missing givens ns (missing givens ns)

abbrev pub by_unknown : List Giving → List Name → Option Giving → Sources
by_unknown givens ns (Some g) = unknown_name g.name g.place.file
by_unknown givens ns None = by_repeated givens ns (repeated [] givens)

-- first a name that is not declared, then one that has two values, then one that has none
abbrev pub decided : World → List Giving → List Name → Sources
decided world givens ns = by_unknown givens ns (unknown world givens)

abbrev pub sources_in : World → List It → List Pair → Sources
sources_in world items pairs = decided world (givings items pairs) (names_of (globals items))

-- an answer; want of memory may come at any time
abbrev pub Tells : {V : Type 0} → (V → List (Option Source)) → Sources → Result V GivenFault → Type 0
Tells view r (Ok ss) = r ≡ sources (view ss)
Tells view r (Err (f.Unknown w file)) = r ≡ unknown_name w file
Tells view r (Err (f.Twice w file)) = r ≡ given_twice w file
Tells view r (Err (f.Missing w)) = r ≡ without_value w
Tells view r (Err f.Memory) = Unit {0}

abbrev pub clash : Giving → List ℕ × ℕ
clash g = (g.name, g.place.file)

-- each value by its name, or the first that is one too many
abbrev pub Maps : {M : Type 0} → (M → List ℕ → Option Source) → List Giving → Result M GivenFault → Type 0
Maps at givens (Ok map) = (repeated [] givens ≡ None) × ((w : List ℕ) → at map w ≡ source_among givens w)
Maps at givens (Err (f.Unknown w file)) = ⊥
Maps at givens (Err (f.Twice w file)) = option_map clash (repeated [] givens) ≡ Some (w, file)
Maps at givens (Err (f.Missing w)) = ⊥
Maps at givens (Err f.Memory) = Unit {0}
