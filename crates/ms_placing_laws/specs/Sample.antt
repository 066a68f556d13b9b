-- Typed trees of which the worked rows speak, all at one place.
use Rattle.std.specs.Prelude.{ℕ}
use Rattle.ms_syntax.specs.declared.token.Place.{Place}
use Rattle.ms_code.specs.declared.code.Code.{Code}
use Rattle.ms_code.specs.declared.code.Code.TheVariants as c
use Rattle.ms_code.specs.declared.code.Generator.{Generator, roll-Generator}
use Rattle.ms_code.specs.declared.code.Reference.TheVariants as r

abbrev pub at : Place
at = record { file = 0; line = 1; col = 1 }

abbrev pub local : ℕ → Code
local k = c.Name at (r.Local k)

abbrev pub declared : ℕ → Code
declared k = c.Name at (r.Model k)

-- so many names that run through a set
abbrev pub over : ℕ → Code → Generator
over names set = roll-Generator (record { place = at; names = names; set = set })
