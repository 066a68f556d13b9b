-- What was read, by its view, once its form is known.
use Rattle.std.proofs.Common.{◌≡◌, subst}
use Rattle.ms_syntax.specs.Grammar.{Tokens}
use Rattle.ms_cursor.specs.Reading.{Out, ok}

pub told : {X A : Type 0} (view : X → A) (o : Out A) (x y : X) (r : Tokens) → o ≡ ok (view x) r → x ≡ y → o ≡ ok (view y) r
told view o x y r e h = subst (λ z. o ≡ ok (view z) r) h e
