-- The names that the items of one text declare, as the code keeps them.
use Rattle.std.specs.Prelude.{ℕ, List, map}
use Rattle.ms_typing.specs.Meaning.{Globals, Meaning}
use Rattle.ms_typing.specs.Meaning as m
use Rattle.ms_names.specs.declared.declared.Declared.{Declared}
use Rattle.ms_names.specs.declared.declared.Stored.{Stored}
use Rattle.ms_names.specs.declared.declared.Stored.TheVariants as s

abbrev pub stored_of : Stored → Meaning
stored_of (s.Value t) = m.value t
stored_of (s.Function ts t) = m.function ts.items t

abbrev pub declared_of : Declared → List ℕ × Meaning
declared_of d = (d.name, stored_of d.meaning)

abbrev pub globals_view : List Declared → Globals
globals_view = map declared_of
