-- What the worked rows speak of.
use Rattle.std.specs.Prelude.{ℕ, List, [], ◌∷◌, pos}
use Rattle.ms_num.specs.Span.{Span}

abbrev pub span_of : ℕ → ℕ → Span
span_of low high = record { lo = pos low; hi = pos high }

-- the variable 0 is one of 1, 2 and 3
abbrev pub one_set : List Span
one_set = span_of 1 3 ∷ []
