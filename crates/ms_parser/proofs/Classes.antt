-- What a token of a kind is.
use Rattle.std.proofs.Common.{◌≡◌, ℕ, List, Option, Some, None, Bool, true, false, refl, sym, ap, ◌∙◌}
use Rattle.std.specs.Prelude.{◌==◌, if◌then◌else◌}
use Rattle.std.proofs.lemmas.Bool.{eq-eqb, eqb-true}
use Rattle.ms_syntax.specs.declared.token.Token.{Token}
use Rattle.ms_syntax.specs.declared.token.Token.TheVariants as tok
use Rattle.ms_syntax.specs.declared.token.Keyword.{Keyword}
use Rattle.ms_syntax.specs.declared.token.Symbol.{Symbol}
use Rattle.ms_syntax.specs.declared.token.Keyword.TheVariants as k
use Rattle.ms_syntax.specs.declared.token.Symbol.TheVariants as s
use Rattle.ms_syntax.specs.declared.tree.Operator.{Operator}
use Rattle.ms_syntax.specs.declared.tree.Operator.TheVariants as o
use Rattle.ms_syntax.specs.declared.tree.Sign.{Sign}
use Rattle.ms_syntax.specs.declared.tree.Sign.TheVariants as g
use Rattle.ms_syntax.specs.Grammar.{operands, sign_of, mark_of, truth_of}
use Rattle.ms_syntax.specs.Token.{same_symbol, same_keyword}
use Rattle.ms_syntax.specs.contracts.token.Keyword as words
use Rattle.ms_syntax.specs.contracts.token.Symbol as marks
use denote.Enum.Bare.{same_true, true_same}
use Rattle.ms_cursor.specs.Kinds.{a_number, a_text, a_name, a_truth, a_sign, when, symbol, keyword, operator, only, infix_of}

-- f takes the tokens t
pub record Class {A : Type 0} (f : Token → Option A) (t : A → Token) : Type 0 where
  pub is : (u : Token) (a : A) → f u ≡ Some a → u ≡ t a
  pub has : (a : A) → f (t a) ≡ Some a

some_same : {A : Type 0} (a b : A) → Some a ≡ Some b → a ≡ b
some_same a b h = cc

when_is : (b : Bool) (a : Unit {0}) → when b ≡ Some a → b ≡ true
when_is true a h = refl
when_is false a h = absurd (cc)

when_has : (b : Bool) (a : Unit {0}) → b ≡ true → when b ≡ Some a
when_has true a h = refl
when_has false a h = absurd (cc)

symbol_is : (x : Symbol) (u : Token) (a : Unit {0}) → symbol x u ≡ Some a → u ≡ tok.Symbol x
symbol_is x (tok.Symbol y) a h = ap tok.Symbol (same_true marks.the_type tt y x (when_is (same_symbol y x) a h))
symbol_is x _ a h = absurd (cc)

keyword_is : (x : Keyword) (u : Token) (a : Unit {0}) → keyword x u ≡ Some a → u ≡ tok.Keyword x
keyword_is x (tok.Keyword y) a h = ap tok.Keyword (same_true words.the_type tt y x (when_is (same_keyword y x) a h))
keyword_is x _ a h = absurd (cc)

pub symbol_class : (x : Symbol) → Class (symbol x) (λ a. tok.Symbol x)
symbol_class x = record { is = symbol_is x; has = λ a. when_has (same_symbol x x) a (true_same marks.the_type x x refl) }

pub keyword_class : (x : Keyword) → Class (keyword x) (λ a. tok.Keyword x)
keyword_class x = record { is = keyword_is x; has = λ a. when_has (same_keyword x x) a (true_same words.the_type x x refl) }

number_is : (u : Token) (n : ℕ) → a_number u ≡ Some n → u ≡ tok.Number n
number_is (tok.Number m) n h = ap tok.Number (some_same m n h)
number_is _ n h = absurd (cc)

pub number_class : Class a_number tok.Number
number_class = record { is = number_is; has = λ n. refl }

text_is : (u : Token) (w : List ℕ) → a_text u ≡ Some w → u ≡ tok.Text w
text_is (tok.Text m) w h = ap tok.Text (some_same m w h)
text_is _ w h = absurd (cc)

pub text_class : Class a_text tok.Text
text_class = record { is = text_is; has = λ n. refl }

name_is : (u : Token) (w : List ℕ) → a_name u ≡ Some w → u ≡ tok.Name w
name_is (tok.Name m) w h = ap tok.Name (some_same m w h)
name_is _ w h = absurd (cc)

pub name_class : Class a_name tok.Name
name_class = record { is = name_is; has = λ n. refl }

truth_is : (u : Token) (b : Bool) → a_truth u ≡ Some b → u ≡ truth_of b
truth_is (tok.Keyword k.True) b h = ap truth_of (some_same true b h)
truth_is (tok.Keyword k.False) b h = ap truth_of (some_same false b h)
truth_is _ b h = absurd (cc)

truth_has : (b : Bool) → a_truth (truth_of b) ≡ Some b
truth_has true = refl
truth_has false = refl

pub truth_class : Class a_truth truth_of
truth_class = record { is = truth_is; has = truth_has }

sign_is : (u : Token) (b : Sign) → a_sign u ≡ Some b → u ≡ mark_of b
sign_is (tok.Keyword k.Not) b h = ap mark_of (some_same g.Not b h)
sign_is (tok.Symbol s.Minus) b h = ap mark_of (some_same g.Minus b h)
sign_is _ b h = absurd (cc)

sign_has : (b : Sign) → a_sign (mark_of b) ≡ Some b
sign_has g.Not = refl
sign_has g.Minus = refl

pub sign_class : Class a_sign mark_of
sign_class = record { is = sign_is; has = sign_has }

operator_is : (u : Token) (op : Operator) → operator u ≡ Some op → u ≡ sign_of op
operator_is (tok.Symbol s.DoubleArrow) op h = ap sign_of (some_same o.Equivalent op h)
operator_is (tok.Symbol s.RightArrow) op h = ap sign_of (some_same o.Implies op h)
operator_is (tok.Symbol s.LeftArrow) op h = ap sign_of (some_same o.ImpliedBy op h)
operator_is (tok.Symbol s.Or) op h = ap sign_of (some_same o.Or op h)
operator_is (tok.Keyword k.Xor) op h = ap sign_of (some_same o.Xor op h)
operator_is (tok.Symbol s.And) op h = ap sign_of (some_same o.And op h)
operator_is (tok.Symbol s.Equal) op h = ap sign_of (some_same o.Equal op h)
operator_is (tok.Symbol s.NotEqual) op h = ap sign_of (some_same o.NotEqual op h)
operator_is (tok.Symbol s.Less) op h = ap sign_of (some_same o.Less op h)
operator_is (tok.Symbol s.AtMost) op h = ap sign_of (some_same o.AtMost op h)
operator_is (tok.Symbol s.Greater) op h = ap sign_of (some_same o.Greater op h)
operator_is (tok.Symbol s.AtLeast) op h = ap sign_of (some_same o.AtLeast op h)
operator_is (tok.Keyword k.In) op h = ap sign_of (some_same o.In op h)
operator_is (tok.Symbol s.DotDot) op h = ap sign_of (some_same o.To op h)
operator_is (tok.Symbol s.Plus) op h = ap sign_of (some_same o.Plus op h)
operator_is (tok.Symbol s.Minus) op h = ap sign_of (some_same o.Minus op h)
operator_is (tok.Symbol s.Star) op h = ap sign_of (some_same o.Times op h)
operator_is (tok.Keyword k.Div) op h = ap sign_of (some_same o.Div op h)
operator_is (tok.Keyword k.Mod) op h = ap sign_of (some_same o.Mod op h)
operator_is (tok.Symbol s.PlusPlus) op h = ap sign_of (some_same o.Concat op h)
operator_is _ op h = absurd (cc)

pub operator_has : (op : Operator) → operator (sign_of op) ≡ Some op
operator_has o.Equivalent = refl
operator_has _ = refl

only_is : (n : ℕ) (q : Option Operator) (op : Operator) → only n q ≡ Some op → (q ≡ Some op) × (operands op ≡ n)
only_is n None op h = absurd (cc)
only_is n (Some a) op h = only_at n a op (operands a == n) refl h
  where
    only_at : (n : ℕ) (a op : Operator) (b : Bool) → (operands a == n) ≡ b → (if b then Some a else None) ≡ Some op → (Some a ≡ Some op) × (operands op ≡ n)
    only_at n a op true e h = (h, sym (ap operands (some_same a op h)) ∙ eqb-true (operands a) n e)
    only_at n a op false e h = absurd (cc)

pub infix_is : (n : ℕ) (u : Token) (op : Operator) → infix_of n u ≡ Some op → (u ≡ sign_of op) × (operands op ≡ n)
infix_is n u op h = let p = only_is n (operator u) op h in (operator_is u op p.0, p.1)

pub infix_has : (n : ℕ) (op : Operator) → operands op ≡ n → infix_of n (sign_of op) ≡ Some op
infix_has n op h = ap (only n) (operator_has op) ∙ ap (λ b. if b then Some op else None) (eq-eqb (operands op) n h)
