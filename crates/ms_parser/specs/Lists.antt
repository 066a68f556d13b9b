-- Lists with semicolons between, up to the end of the tokens, as what is read.
use Rattle.std.specs.Prelude.{ℕ, zero, suc, List, [], ◌∷◌, length, Option, Some, Bool, true, false}
use Rattle.ms_syntax.specs.declared.token.Token.{Token}
use Rattle.ms_syntax.specs.declared.token.Symbol.TheVariants as s
use Rattle.ms_cursor.specs.Reading.{Parser, ok, ◌>>=◌, by, into, sealed}
use Rattle.ms_cursor.specs.Kinds.{symbol}
use Rattle.ms_expressions.specs.Rules.{Turn, item, last}

-- b at the end of the tokens, else p
abbrev pub or_end : {A : Type 0} → A → Parser A → Parser A
or_end b p [] = ok b []
or_end b p (y ∷ ts) = p (y ∷ ts)

abbrev pub any_token : Token → Option (Unit {0})
any_token t = Some tt

-- values behind the first, each behind a semicolon, and whether a last one stands there
unfoldable pub more_items : {A : Type 0} → Parser A → ℕ → Parser (List A × Bool)
more_items {A} one zero = sealed {B = List A × Bool} any_token ([], false)
more_items {A} one (suc n) =
    by (symbol s.Semicolon)
    (λ a y. or_end {A = List A × Bool} ([], true)
    (one >>= λ x. into {B = List A × Bool} (λ r. (x ∷ r.0, r.1)) (more_items one n)))
    (sealed {B = List A × Bool} any_token ([], false))

unfoldable pub items : {A : Type 0} → Parser A → Parser (List A × Bool)
items {A} one =
    or_end {A = List A × Bool} ([], false)
    (one >>= λ x. into {B = List A × Bool} (λ r. (x ∷ r.0, r.1))
    (λ ts. more_items one (length ts) ts))

-- one turn of it
unfoldable pub item_turn : {A : Type 0} → Parser A → Parser (Turn A)
item_turn one =
    by (symbol s.Semicolon) (λ a y. or_end (last true) (into item one))
    (sealed any_token (last false))
