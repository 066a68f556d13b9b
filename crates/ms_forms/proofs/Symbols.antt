-- The symbols by their spelling.
use Rattle.std.proofs.Common.{◌≡◌, ℕ, ◌≤◌, ◌<◌, List, [], ◌∷◌, ◌++◌, length, take, Bool, true, false, refl, sym, ap, ◌∙◌, arith, inl, inr}
use Rattle.std.specs.Prelude.{◌==◌, if◌then◌else◌}
use Rattle.ms_syntax.specs.declared.token.Token.{Token}
use Rattle.ms_syntax.specs.declared.token.Token.TheVariants as t
use Rattle.ms_syntax.specs.declared.token.Symbol.{Symbol}
use Rattle.ms_syntax.specs.declared.token.Symbol.TheVariants as s
use Rattle.ms_syntax.specs.declared.token.LexKind.{LexKind}
use Rattle.ms_syntax.specs.Form.{Form, blank, token, fault, form, symbol, one, two, byte_at}
use Rattle.ms_forms.specs.Spelling.{Spells, IsNumber, symbol_bytes}
use Rattle.ms_forms.proofs.Runs.{same_eqb}

-- the token that was found is spelled by the bytes that it takes, white space and comments take some, and a fault is at one of the bytes
unfoldable pub IsSpelled : List ℕ → Form → Type 0
IsSpelled bytes (blank n) = (0 < n) × (n ≤ length bytes)
IsSpelled bytes (token u n) = Spells u (take n bytes) × (n ≤ length bytes)
IsSpelled bytes (fault kind n) = n < length bytes

-- what was found takes as many bytes as a spelling of u that stands there has, if u is no number
unfoldable pub Reaches : Token → ℕ → Form → Type 0
Reaches u m (blank n) = ⊥
Reaches u m (token x n) = m ≤ n
Reaches u m (fault kind n) = IsNumber u

pub choose_spelled : (all : List ℕ) (b : Bool) (f g : Form) → (b ≡ true → IsSpelled all f) → (b ≡ false → IsSpelled all g) → IsSpelled all (if b then f else g)
choose_spelled all true f g h i = h refl
choose_spelled all false f g h i = i refl

pub fault_spelled : (all : List ℕ) (kind : LexKind) (n : ℕ) → n < length all → IsSpelled all (fault kind n)
unfolding IsSpelled
fault_spelled all kind n h = h

-- a fault at the first byte
first_fault : (b : ℕ) (bs : List ℕ) (kind : LexKind) → IsSpelled (b ∷ bs) (fault kind 0)
unfolding IsSpelled
first_fault b bs kind = omega arith

pub blank_spelled : (all : List ℕ) (n : ℕ) → 0 < n → n ≤ length all → IsSpelled all (blank n)
unfolding IsSpelled
blank_spelled all n h i = (h, i)

pub token_spelled : (all : List ℕ) (u : Token) (n : ℕ) → Spells u (take n all) → n ≤ length all → IsSpelled all (token u n)
unfolding IsSpelled
token_spelled all u n h i = (h, i)

pub fault_reaches : (v m : ℕ) (kind : LexKind) (n : ℕ) → Reaches (t.Number v) m (fault kind n)
unfolding Reaches
fault_reaches v m kind n = tt

pub token_reaches : (u x : Token) (m n : ℕ) → m ≤ n → Reaches u m (token x n)
unfolding Reaches
token_reaches u x m n h = h

-- ---- what is cut is a spelling

first_is : (b y : ℕ) (bs : List ℕ) → (b == y) ≡ true → take 1 (b ∷ bs) ≡ y ∷ []
first_is b y bs h = ap (λ z. z ∷ []) (same_eqb b y h)

first_two : (b y z : ℕ) (bs : List ℕ) → 0 < z → (b == y) ≡ true → (byte_at bs 0 == z) ≡ true → (take 2 (b ∷ bs) ≡ y ∷ z ∷ []) × (2 ≤ length (b ∷ bs))
first_two b y z [] more h i = let none : 0 ≡ z = same_eqb 0 z i in absurd (omega arith)
first_two b y z (c ∷ cs) more h i = (ap (λ v. v ∷ c ∷ []) (same_eqb b y h) ∙ ap (λ v. y ∷ v ∷ []) (same_eqb c z i), omega arith)

first_three : (b c d : ℕ) (bs : List ℕ) → (b == 60) ≡ true → (byte_at bs 0 == 45) ≡ true → (byte_at bs 1 == 62) ≡ true → (take 3 (b ∷ bs) ≡ 60 ∷ 45 ∷ 62 ∷ []) × (3 ≤ length (b ∷ bs))
first_three b c d [] h i j = absurd (let wrong : false ≡ true = i in cc)
first_three b c d (x ∷ []) h i j = absurd (let wrong : false ≡ true = j in cc)
first_three b c d (x ∷ y ∷ bs) h i j = (ap (λ v. v ∷ x ∷ y ∷ []) (same_eqb b 60 h) ∙ ap (λ v. 60 ∷ v ∷ y ∷ []) (same_eqb x 45 i) ∙ ap (λ v. 60 ∷ 45 ∷ v ∷ []) (same_eqb y 62 j), omega arith)

one_is : (b y : ℕ) (bs : List ℕ) (x : Symbol) → symbol_bytes x ≡ y ∷ [] → (b == y) ≡ true → IsSpelled (b ∷ bs) (one x)
unfolding IsSpelled
one_is b y bs x e h = (inl (first_is b y bs h ∙ sym e), omega arith)

two_are : (b y z : ℕ) (bs : List ℕ) (x : Symbol) → symbol_bytes x ≡ y ∷ z ∷ [] → 0 < z → (b == y) ≡ true → (byte_at bs 0 == z) ≡ true → IsSpelled (b ∷ bs) (two x)
unfolding IsSpelled
two_are b y z bs x e more h i = let front = first_two b y z bs more h i in (inl (front.0 ∙ sym e), front.1)

twice_equal : (b : ℕ) (bs : List ℕ) → (b == 61) ≡ true → (byte_at bs 0 == 61) ≡ true → IsSpelled (b ∷ bs) (two s.Equal)
unfolding IsSpelled
twice_equal b bs h i = let front = first_two b 61 61 bs (omega arith) h i in (inr (refl, front.0), front.1)

double_arrow : (b : ℕ) (bs : List ℕ) → (b == 60) ≡ true → (byte_at bs 0 == 45) ≡ true → (byte_at bs 1 == 62) ≡ true → IsSpelled (b ∷ bs) (token (t.Symbol s.DoubleArrow) 3)
unfolding IsSpelled
double_arrow b bs h i j = let front = first_three b 45 62 bs h i j in (inl front.0, front.1)

pub symbol_spelled : (b : ℕ) (bs : List ℕ) → IsSpelled (b ∷ bs) (symbol b (byte_at bs 0) (byte_at bs 1))
symbol_spelled b bs =
    choose_spelled _ _ _ _ (λ h. choose_spelled _ _ _ _ (λ i. choose_spelled _ _ _ _ (λ j. double_arrow b bs h i j) (λ _. two_are b 60 45 bs s.LeftArrow refl (omega arith) h i)) (λ _. choose_spelled _ _ _ _ (λ i. two_are b 60 61 bs s.AtMost refl (omega arith) h i) (λ _. one_is b 60 bs s.Less refl h)))
    (λ _. choose_spelled _ _ _ _ (λ h. choose_spelled _ _ _ _ (λ i. two_are b 45 62 bs s.RightArrow refl (omega arith) h i) (λ _. one_is b 45 bs s.Minus refl h))
    (λ _. choose_spelled _ _ _ _ (λ h. choose_spelled _ _ _ _ (λ i. two_are b 62 61 bs s.AtLeast refl (omega arith) h i) (λ _. one_is b 62 bs s.Greater refl h))
    (λ _. choose_spelled _ _ _ _ (λ h. choose_spelled _ _ _ _ (λ i. twice_equal b bs h i) (λ _. one_is b 61 bs s.Equal refl h))
    (λ _. choose_spelled _ _ _ _ (λ h. choose_spelled _ _ _ _ (λ i. two_are b 33 61 bs s.NotEqual refl (omega arith) h i) (λ _. first_fault b bs _))
    (λ _. choose_spelled _ _ _ _ (λ h. choose_spelled _ _ _ _ (λ i. two_are b 92 47 bs s.Or refl (omega arith) h i) (λ _. first_fault b bs _))
    (λ _. choose_spelled _ _ _ _ (λ h. choose_spelled _ _ _ _ (λ i. two_are b 47 92 bs s.And refl (omega arith) h i) (λ _. first_fault b bs _))
    (λ _. choose_spelled _ _ _ _ (λ h. choose_spelled _ _ _ _ (λ i. two_are b 46 46 bs s.DotDot refl (omega arith) h i) (λ _. first_fault b bs _))
    (λ _. choose_spelled _ _ _ _ (λ h. choose_spelled _ _ _ _ (λ i. two_are b 43 43 bs s.PlusPlus refl (omega arith) h i) (λ _. one_is b 43 bs s.Plus refl h))
    (λ _. choose_spelled _ _ _ _ (λ h. choose_spelled _ _ _ _ (λ i. two_are b 58 58 bs s.ColonColon refl (omega arith) h i) (λ _. one_is b 58 bs s.Colon refl h))
    (λ _. choose_spelled _ _ _ _ (λ h. choose_spelled _ _ _ _ (λ i. two_are b 91 124 bs s.OpenRows refl (omega arith) h i) (λ _. one_is b 91 bs s.OpenBracket refl h))
    (λ _. choose_spelled _ _ _ _ (λ h. choose_spelled _ _ _ _ (λ i. two_are b 124 93 bs s.CloseRows refl (omega arith) h i) (λ _. one_is b 124 bs s.Bar refl h))
    (λ _. choose_spelled _ _ _ _ (λ h. one_is b 42 bs s.Star refl h)
    (λ _. choose_spelled _ _ _ _ (λ h. one_is b 40 bs s.OpenParenthesis refl h)
    (λ _. choose_spelled _ _ _ _ (λ h. one_is b 41 bs s.CloseParenthesis refl h)
    (λ _. choose_spelled _ _ _ _ (λ h. one_is b 93 bs s.CloseBracket refl h)
    (λ _. choose_spelled _ _ _ _ (λ h. one_is b 123 bs s.OpenBrace refl h)
    (λ _. choose_spelled _ _ _ _ (λ h. one_is b 125 bs s.CloseBrace refl h)
    (λ _. choose_spelled _ _ _ _ (λ h. one_is b 44 bs s.Comma refl h)
    (λ _. choose_spelled _ _ _ _ (λ h. one_is b 59 bs s.Semicolon refl h)
    (λ _. first_fault b bs _))))))))))))))))))))

-- ---- a spelling is reached

two_or_one : (u : Token) (b : Bool) (x y : Symbol) → Reaches u 1 (if b then two x else one y)
unfolding Reaches
two_or_one u true x y = omega arith
two_or_one u false x y = omega arith

three_or_two : (u : Token) (b : Bool) (x y : Symbol) → Reaches u 2 (if b then token (t.Symbol x) 3 else two y)
unfolding Reaches
three_or_two u true x y = omega arith
three_or_two u false x y = omega arith

one_with_two : (u : Token) (b c d : Bool) (w x y z : Symbol) → Reaches u 1 (if b then (if c then token (t.Symbol w) 3 else two x) else (if d then two y else one z))
unfolding Reaches
one_with_two u true true d w x y z = omega arith
one_with_two u true false d w x y z = omega arith
one_with_two u false c true w x y z = omega arith
one_with_two u false c false w x y z = omega arith

pub symbol_reached : (x : Symbol) (r : List ℕ) → Reaches (t.Symbol x) (length (symbol_bytes x)) (form (symbol_bytes x ++ r))
unfolding form Reaches
symbol_reached s.DoubleArrow r = omega arith
symbol_reached s.RightArrow r = omega arith
symbol_reached s.LeftArrow r = three_or_two (t.Symbol s.LeftArrow) (byte_at r 0 == 62) s.DoubleArrow s.LeftArrow
symbol_reached s.AtMost r = omega arith
symbol_reached s.AtLeast r = omega arith
symbol_reached s.Equal r = two_or_one (t.Symbol s.Equal) (byte_at r 0 == 61) s.Equal s.Equal
symbol_reached s.NotEqual r = omega arith
symbol_reached s.Or r = omega arith
symbol_reached s.And r = omega arith
symbol_reached s.DotDot r = omega arith
symbol_reached s.PlusPlus r = omega arith
symbol_reached s.ColonColon r = omega arith
symbol_reached s.OpenRows r = omega arith
symbol_reached s.CloseRows r = omega arith
symbol_reached s.Less r = one_with_two (t.Symbol s.Less) (byte_at r 0 == 45) (byte_at r 1 == 62) (byte_at r 0 == 61) s.DoubleArrow s.LeftArrow s.AtMost s.Less
symbol_reached s.Greater r = two_or_one (t.Symbol s.Greater) (byte_at r 0 == 61) s.AtLeast s.Greater
symbol_reached s.Plus r = two_or_one (t.Symbol s.Plus) (byte_at r 0 == 43) s.PlusPlus s.Plus
symbol_reached s.Minus r = two_or_one (t.Symbol s.Minus) (byte_at r 0 == 62) s.RightArrow s.Minus
symbol_reached s.Star r = omega arith
symbol_reached s.OpenParenthesis r = omega arith
symbol_reached s.CloseParenthesis r = omega arith
symbol_reached s.OpenBracket r = two_or_one (t.Symbol s.OpenBracket) (byte_at r 0 == 124) s.OpenRows s.OpenBracket
symbol_reached s.CloseBracket r = omega arith
symbol_reached s.OpenBrace r = omega arith
symbol_reached s.CloseBrace r = omega arith
symbol_reached s.Comma r = omega arith
symbol_reached s.Semicolon r = omega arith
symbol_reached s.Colon r = two_or_one (t.Symbol s.Colon) (byte_at r 0 == 58) s.ColonColon s.Colon
symbol_reached s.Bar r = two_or_one (t.Symbol s.Bar) (byte_at r 0 == 93) s.CloseRows s.Bar

pub double_equal_reached : (r : List ℕ) → Reaches (t.Symbol s.Equal) 2 (form (61 ∷ 61 ∷ r))
unfolding form Reaches
double_equal_reached r = omega arith

-- ---- a spelling before a gap is taken

-- the end, or a space
pub data Gap : List ℕ → Type 0 where
  end : Gap []
  space : (r : List ℕ) → Gap (32 ∷ r)

pub symbol_taken : (x : Symbol) (r : List ℕ) → Gap r → form (symbol_bytes x ++ r) ≡ token (t.Symbol x) (length (symbol_bytes x))
unfolding form
symbol_taken s.DoubleArrow r end = refl
symbol_taken s.DoubleArrow r (space q) = refl
symbol_taken s.RightArrow r end = refl
symbol_taken s.RightArrow r (space q) = refl
symbol_taken s.LeftArrow r end = refl
symbol_taken s.LeftArrow r (space q) = refl
symbol_taken s.AtMost r end = refl
symbol_taken s.AtMost r (space q) = refl
symbol_taken s.AtLeast r end = refl
symbol_taken s.AtLeast r (space q) = refl
symbol_taken s.Equal r end = refl
symbol_taken s.Equal r (space q) = refl
symbol_taken s.NotEqual r end = refl
symbol_taken s.NotEqual r (space q) = refl
symbol_taken s.Or r end = refl
symbol_taken s.Or r (space q) = refl
symbol_taken s.And r end = refl
symbol_taken s.And r (space q) = refl
symbol_taken s.DotDot r end = refl
symbol_taken s.DotDot r (space q) = refl
symbol_taken s.PlusPlus r end = refl
symbol_taken s.PlusPlus r (space q) = refl
symbol_taken s.ColonColon r end = refl
symbol_taken s.ColonColon r (space q) = refl
symbol_taken s.OpenRows r end = refl
symbol_taken s.OpenRows r (space q) = refl
symbol_taken s.CloseRows r end = refl
symbol_taken s.CloseRows r (space q) = refl
symbol_taken s.Less r end = refl
symbol_taken s.Less r (space q) = refl
symbol_taken s.Greater r end = refl
symbol_taken s.Greater r (space q) = refl
symbol_taken s.Plus r end = refl
symbol_taken s.Plus r (space q) = refl
symbol_taken s.Minus r end = refl
symbol_taken s.Minus r (space q) = refl
symbol_taken s.Star r end = refl
symbol_taken s.Star r (space q) = refl
symbol_taken s.OpenParenthesis r end = refl
symbol_taken s.OpenParenthesis r (space q) = refl
symbol_taken s.CloseParenthesis r end = refl
symbol_taken s.CloseParenthesis r (space q) = refl
symbol_taken s.OpenBracket r end = refl
symbol_taken s.OpenBracket r (space q) = refl
symbol_taken s.CloseBracket r end = refl
symbol_taken s.CloseBracket r (space q) = refl
symbol_taken s.OpenBrace r end = refl
symbol_taken s.OpenBrace r (space q) = refl
symbol_taken s.CloseBrace r end = refl
symbol_taken s.CloseBrace r (space q) = refl
symbol_taken s.Comma r end = refl
symbol_taken s.Comma r (space q) = refl
symbol_taken s.Semicolon r end = refl
symbol_taken s.Semicolon r (space q) = refl
symbol_taken s.Colon r end = refl
symbol_taken s.Colon r (space q) = refl
symbol_taken s.Bar r end = refl
symbol_taken s.Bar r (space q) = refl

pub double_equal_taken : (r : List ℕ) → Gap r → form (61 ∷ 61 ∷ r) ≡ token (t.Symbol s.Equal) 2
unfolding form
double_equal_taken r gap = refl
