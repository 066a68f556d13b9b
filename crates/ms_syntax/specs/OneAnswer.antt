-- Tokens have one answer at most in a language.
use Rattle.std.specs.Prelude.{◌≡◌, ℕ}
use Rattle.ms_syntax.specs.Grammar.{Tokens, IsShallow, SyntaxAt, DeepAt}

-- a value that is written so, one first token that cannot stand there, or one first token that nests too deep
pub record OneAnswer {A : Type 0} (writes : A → Tokens → Type 0) : Type 0 where
  pub one_syntax : (ts : Tokens) (j k : ℕ) → SyntaxAt writes ts j → SyntaxAt writes ts k → j ≡ k
  pub one_deep : (ts : Tokens) (j k : ℕ) → DeepAt writes ts j → DeepAt writes ts k → j ≡ k
  pub not_both : (ts : Tokens) (j k : ℕ) → SyntaxAt writes ts j → DeepAt writes ts k → ⊥
  pub not_syntax : (ts : Tokens) (x : A) (k : ℕ) → writes x ts → SyntaxAt writes ts k → ⊥
  pub not_deep : (ts : Tokens) (k : ℕ) → IsShallow ts → DeepAt writes ts k → ⊥
