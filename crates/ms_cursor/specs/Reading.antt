-- Reading tokens from the left: what each rule takes, and the first token that no list of the grammar has there.
use Rattle.std.specs.Prelude.{ℕ, zero, suc, List, [], ◌∷◌, ◌++◌, length, drop, Option, Some, None}
use Rattle.ms_syntax.specs.declared.token.Place.{Place}
use Rattle.ms_syntax.specs.declared.token.Token.{Token}
use Rattle.ms_syntax.specs.declared.token.Spanned.{Spanned}
use Rattle.ms_syntax.specs.Grammar.{Tokens}

-- a value with the tokens after it; or how many tokens are left, from the first that cannot stand there; or behind
-- the one that opens too deep
pub data Out (A : Type 0) : Type 0 where
  ok : A → Tokens → Out A
  bad : ℕ → Out A
  deep : ℕ → Out A

abbrev pub Parser : Type 0 → Type 0
Parser A = Tokens → Out A

abbrev pub and_then : {A B : Type 0} → Out A → (A → Parser B) → Out B
and_then (ok a r) f = f a r
and_then (bad n) f = bad n
and_then (deep n) f = deep n

infixl 10 ◌>>=◌
abbrev pub ◌>>=◌ : {A B : Type 0} → Parser A → (A → Parser B) → Parser B
p >>= f = λ ts. and_then (p ts) f

abbrev pub pure : {A : Type 0} → A → Parser A
pure a = λ ts. ok a ts

abbrev pub pick : {A B : Type 0} → Option A → (A → Out B) → Out B → Out B
pick None f other = other
pick (Some a) f other = f a

-- the next token, if it is one of f
abbrev pub tagged : {A : Type 0} → Spanned → Option A → Option (A × Spanned)
tagged y None = None
tagged y (Some a) = Some (a, y)

abbrev pub front : {A : Type 0} → (Token → Option A) → Tokens → Option (A × Spanned)
front f [] = None
front f (y ∷ ts) = tagged y (f y.token)

-- the tokens after it
abbrev pub after : Tokens → Tokens
after ts = drop 1 ts

-- goes by the next token, if it is one of f
abbrev pub by : {A B : Type 0} → (Token → Option A) → (A → Spanned → Parser B) → Parser B → Parser B
by f p q = λ ts. pick (front f ts) (λ a. p a.0 a.1 (after ts)) (q ts)

abbrev pub fail : {A : Type 0} → Parser A
fail = λ ts. bad (length ts)

-- takes the next token, which has to be one of f
abbrev pub must : {A : Type 0} → (Token → Option A) → Parser (A × Spanned)
must f = λ ts. pick (front f ts) (λ a. ok a (after ts)) (bad (length ts))

abbrev pub deeper : {A : Type 0} → ℕ → A → Parser A
deeper zero a = λ ts. deep (length ts)
deeper (suc d) a = λ ts. ok a ts

-- goes by the next token, if it is one of f, which opens a bracket where d more may open
abbrev pub opening : {A B : Type 0} → ℕ → (Token → Option A) → (A → Spanned → Parser B) → Parser B → Parser B
opening d f p q = by f (λ a y. deeper d a >>= λ b. p b y) q

-- as often as a token of f comes, at most so often
unfoldable pub many_to : {A B : Type 0} → ℕ → (Token → Option A) → (A → Spanned → Parser B) → Parser (List B)
many_to zero f p = pure []
many_to (suc n) f p = by f (λ a y. p a y >>= λ x. many_to n f p >>= λ xs. pure (x ∷ xs)) (pure [])

-- as often as a token of f comes
abbrev pub many : {A B : Type 0} → (Token → Option A) → (A → Spanned → Parser B) → Parser (List B)
many f p = λ ts. many_to (length ts) f p ts

-- the values that were found, before those of the outcome
abbrev pub grown : {A : Type 0} → List A → Out (List A) → Out (List A)
grown found (ok xs r) = ok (found ++ xs) r
grown found (bad n) = bad n
grown found (deep n) = deep n

-- one or more, with a token of f between
unfoldable pub separated : {A B : Type 0} → (Token → Option A) → Parser B → Parser (List B)
separated f p = p >>= λ x. many f (λ a y. p) >>= λ xs. pure (x ∷ xs)

-- nothing, where no token of f comes
abbrev pub sealed : {A B : Type 0} → (Token → Option A) → B → Parser B
sealed f b = λ ts. pick (front f ts) (λ a. bad (length ts)) (ok b ts)

-- the place of the next token
abbrev pub place_at : Tokens → Place
place_at [] = record { file = 0; line = 0; col = 0 }
place_at (y ∷ ts) = y.place

-- with the place of its first token
abbrev pub placed : {A : Type 0} → Parser A → Parser (Place × A)
placed p = λ ts. and_then (p ts) (λ a. pure (place_at ts, a))

-- all of the tokens
abbrev pub finish : {A : Type 0} → A → Parser A
finish a [] = ok a []
finish a (y ∷ ts) = bad (suc (length ts))

-- ---- the same in other forms

-- one after the other
abbrev pub pair : {A B : Type 0} → Parser A → Parser B → Parser (A × B)
pair {A} {B} p q = p >>= λ a. q >>= λ b. pure {A = A × B} (a, b)

abbrev pub into : {A B : Type 0} → (A → B) → Parser A → Parser B
into h p = p >>= λ a. pure (h a)

-- behind a token of f
abbrev pub skip : {A B : Type 0} → (Token → Option A) → Parser B → Parser B
skip f p = must f >>= λ c. p

-- and then a token of f
abbrev pub closing : {A B : Type 0} → (Token → Option A) → Parser B → Parser B
closing f p = p >>= λ b. must f >>= λ c. pure b

-- takes a token that opens a bracket, where d more may open
abbrev pub enter : {A : Type 0} → ℕ → (Token → Option A) → Parser (A × Spanned)
enter d f = must f >>= λ a. deeper d a
