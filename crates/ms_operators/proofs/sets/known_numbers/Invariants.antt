use Rattle.std.proofs.Common.{◌≡◌, ◌++◌, drop}
use Rattle.std.specs.Prelude.{IsTrue, option_map}
use Rattle.std.specs.List.{list_all}
use Rattle.ms_num.specs.Span.{is_within}
use Rattle.ms_operators.specs.Known.{known_of}
use Rattle.ms_operators.proofs.sets.known_numbers.Given as goal

-- the whole list gives what the rest gives behind the numbers so far
abbrev pub invariant-loop-number : goal.invariant-loop-number
invariant-loop-number l = record {
  numbers : known_of l.numbers ≡ option_map (λ zs. l.known.items ++ zs) (known_of (drop l.number-index l.numbers));
  within : IsTrue (list_all is_within l.known.items);
}
