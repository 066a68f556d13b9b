-- The built-in names, and where they may stand.
use Rattle.std.specs.Prelude.{ℕ, Bool, true, false, List, [], ◌∷◌, Option, Some, None, if◌then◌else◌, codes, ◌==◌, ◌||◌}
use Rattle.std.specs.Str.{bytes_eq}
use Rattle.ms_built_ins.specs.declared.names.BuiltIn.{BuiltIn}
use Rattle.ms_built_ins.specs.declared.names.BuiltIn.TheVariants as b

abbrev pub Spelled : Type 0
Spelled = List (List ℕ × BuiltIn)

abbrev pub of_arrays : Spelled
of_arrays = (codes "forall", b.ForAll) ∷ (codes "exists", b.Exists) ∷ (codes "sum", b.Sum) ∷ (codes "min", b.Min) ∷ (codes "max", b.Max) ∷ (codes "count", b.Count) ∷ (codes "all_different", b.AllDifferent) ∷ (codes "alldifferent", b.AllDifferent) ∷ (codes "table", b.Table) ∷ []

abbrev pub of_indices : Spelled
of_indices = (codes "length", b.Length) ∷ (codes "index_set", b.IndexSet) ∷ (codes "index_set_1of2", b.RowIndexSet) ∷ (codes "index_set_2of2", b.ColumnIndexSet) ∷ (codes "array1d", b.ArrayLine) ∷ (codes "array2d", b.ArrayGrid) ∷ []

abbrev pub of_values : Spelled
of_values = (codes "abs", b.Abs) ∷ (codes "bool2int", b.BoolToInt) ∷ (codes "card", b.Card) ∷ (codes "show", b.Show) ∷ (codes "fix", b.Fix) ∷ (codes "sol", b.Sol) ∷ (codes "hasSol", b.HasSol) ∷ (codes "uniform", b.Uniform) ∷ []

abbrev pub of_steps : Spelled
of_steps = (codes "next", b.Next) ∷ (codes "post", b.Post) ∷ (codes "commit", b.Commit) ∷ (codes "print", b.Print) ∷ (codes "keep", b.Keep) ∷ (codes "clear_front", b.ClearFront) ∷ (codes "print_front", b.PrintFront) ∷ []

abbrev pub of_control : Spelled
of_control = (codes "scope", b.Scope) ∷ (codes "repeat", b.Repeat) ∷ (codes "break", b.Break) ∷ (codes "fail", b.Fail) ∷ (codes "skip", b.Skip) ∷ (codes "time_limit", b.TimeLimit) ∷ []

-- the first of these that is spelled so
abbrev pub among : Spelled → List ℕ → Option BuiltIn
among [] w = None
among (x ∷ others) w = if bytes_eq w x.0 then Some x.1 else among others w

abbrev pub or_else : {A : Type 0} → Option A → Option A → Option A
or_else (Some x) o = Some x
or_else None o = o

abbrev pub built_in : List ℕ → Option BuiltIn
built_in w = or_else (among of_arrays w) (or_else (among of_indices w) (or_else (among of_values w) (or_else (among of_steps w) (among of_control w))))

-- what a name needs around it
pub data Needs : Type 0 where
  anywhere : Needs
  a_search : Needs
  an_output : Needs

abbrev pub needs_around : BuiltIn → Needs
needs_around b.Fix = an_output
needs_around b.Sol = a_search
needs_around b.HasSol = a_search
needs_around b.Uniform = a_search
needs_around b.Next = a_search
needs_around b.Post = a_search
needs_around b.Commit = a_search
needs_around b.Print = a_search
needs_around b.Scope = a_search
needs_around b.Repeat = a_search
needs_around b.Break = a_search
needs_around b.Fail = a_search
needs_around b.Skip = a_search
needs_around b.TimeLimit = a_search
needs_around b.Keep = a_search
needs_around b.ClearFront = a_search
needs_around b.PrintFront = a_search
needs_around other = anywhere

-- the only names that a value of a data file may use
abbrev pub makes_array : BuiltIn → Bool
makes_array b.ArrayLine = true
makes_array b.ArrayGrid = true
makes_array other = false

-- whether it takes so many arguments in brackets; 0 where it is written without
abbrev pub takes : BuiltIn → ℕ → Bool
takes b.Min n = n == 1 || n == 2
takes b.Max n = n == 1 || n == 2
takes b.Count n = n == 2
takes b.Table n = n == 2
takes b.ArrayLine n = n == 2
takes b.ArrayGrid n = n == 3
takes b.HasSol n = n == 0
takes b.Uniform n = n == 2
takes b.Next n = n == 0
takes b.Commit n = n == 0
takes b.Print n = n == 0 || n == 1
takes b.Break n = n == 0
takes b.Fail n = n == 0
takes b.Skip n = n == 0
takes b.TimeLimit n = n == 2
takes b.ClearFront n = n == 0
takes b.PrintFront n = n == 0
takes other n = n == 1
