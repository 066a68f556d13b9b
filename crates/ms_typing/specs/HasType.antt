-- A term has a type by a row of the tables whose operands its parts have, or by a conversion.
use Rattle.std.specs.Prelude.{List, [], ◌∷◌}
use Rattle.ms_syntax.specs.declared.token.Place.{Place}
use Rattle.ms_typing.specs.declared.types.ExprType.{ExprType}
use Rattle.ms_typing.specs.Term.{Form, Term, Terms, node, no_terms, term}
use Rattle.ms_typing.specs.Conversion.{Converts}
use Rattle.ms_typing.specs.Row.{Row}

mutual
  pub data HasType : Term → ExprType → Type 0 where
    row : {p : Place} {f : Form} {xs : Terms} {us : List ExprType} {t : ExprType} → HaveTypes xs us → Row f us t → HasType (node p f xs) t
    converts : {x : Term} {t u : ExprType} → HasType x t → Converts t u → HasType x u

  pub data HaveTypes : Terms → List ExprType → Type 0 where
    none : HaveTypes no_terms []
    more : {x : Term} {xs : Terms} {t : ExprType} {ts : List ExprType} → HasType x t → HaveTypes xs ts → HaveTypes (term x xs) (t ∷ ts)
