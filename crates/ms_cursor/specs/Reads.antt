-- What a function that reads tokens ensures: the outcome of its rule, unless memory fails.
use Rattle.std.specs.Prelude.{◌≡◌, ℕ, Result, Ok, Err}
use Rattle.ms_syntax.specs.Grammar.{Tokens}
use Rattle.ms_cursor.specs.declared.stop.Stop.{Stop}
use Rattle.ms_cursor.specs.declared.stop.Stop.TheVariants.{Syntax, Deep, Memory}
use Rattle.ms_cursor.specs.Reading.{Out, ok, bad, deep}

abbrev pub Fails : {A : Type 0} → Out A → Stop → Type 0
Fails outcome Memory = Unit {0}
Fails outcome (Syntax n) = outcome ≡ bad n
Fails outcome (Deep n) = outcome ≡ deep n

abbrev pub Reads : {X A : Type 0} → (X → A) → Out A → Result X Stop → Tokens → Type 0
Reads view outcome (Ok a) new = outcome ≡ ok (view a) new
Reads view outcome (Err e) new = Fails outcome e
