-- What the answers of a call say, for each language that its rule reads exactly.
use Rattle.std.proofs.Common.{◌≡◌, Bool, ℕ, [], ◌-◌, length, ap, subst}
use Rattle.std.specs.Prelude.{Result, Ok, Err, IfOk}
use Rattle.ms_syntax.specs.declared.token.Token.{Token}
use Rattle.ms_syntax.specs.Grammar.{Tokens, IsShallow, SyntaxAt, DeepAt}
use Rattle.ms_syntax.proofs.SharedAnswers.{one_answer}
use Rattle.ms_cursor.specs.declared.stop.Stop.{Stop}
use Rattle.ms_cursor.specs.declared.stop.Stop.TheVariants as stop
use Rattle.ms_cursor.specs.Reading.{Parser, ◌>>=◌, finish}
use Rattle.ms_cursor.specs.Reads.{Reads}
use Rattle.ms_parser.specs.declared.fault.ParseFault.{ParseFault}
use Rattle.ms_parser.specs.declared.fault.ParseFault.TheVariants.{Syntax, Deep}
use Rattle.ms_parser.specs.Answers.{GivesUnlessMemory, FailsUnlessMemory, IsWithin, from_front}
use Rattle.ms_parser.proofs.Exact.{Exact, nobody}
use Rattle.ms_parser.proofs.Law as law

-- the clauses of a call
pub record Answered {X A : Type 0} (view : X → A) (G : A → Tokens → Type 0) (ts : Tokens) (r : Result X ParseFault) : Type 0 where
  pub found : IfOk r (λ a. G (view a) ts × IsShallow ts)
  pub only : (x : A) → G x ts → IsShallow ts → GivesUnlessMemory view x r
  pub syntax_found : (k : ℕ) → r ≡ Err (Syntax k) → SyntaxAt G ts k
  pub syntax_given : (k : ℕ) → SyntaxAt G ts k → FailsUnlessMemory (Syntax k) r
  pub deep_found : (k : ℕ) → r ≡ Err (Deep k) → DeepAt G ts k
  pub deep_given : (k : ℕ) → DeepAt G ts k → FailsUnlessMemory (Deep k) r

module _ {X A : Type 0} (view : X → A) (E : Token → Bool) (G : A → Tokens → Type 0) (p : Parser A) (exact : (n : ℕ) → Exact n 200 200 nobody E G p) (ts : Tokens) where
  pub within : (r : Result X Stop) → Reads view ((p >>= finish) ts) r [] → IsWithin (length ts) r
  within (Ok a) h = tt
  within (Err stop.Memory) h = tt
  within (Err (stop.Syntax n)) h = law.syntax_left E G p exact ts n h
  within (Err (stop.Deep n)) h = law.deep_left E G p exact ts n h

  pub answered : (r : Result X Stop) → Reads view ((p >>= finish) ts) r [] → Answered view G ts (from_front (length ts) r)
  answered (Ok a) h =
      let both = law.whole_found E G p exact ts (view a) [] h in
      record {
        found = both;
        only = λ x. law.only_ok E G p exact ts x (view a) h;
        syntax_found = λ k e. absurd (cc);
        syntax_given = λ k s. absurd ((one_answer G).not_syntax ts (view a) k both.0 s);
        deep_found = λ k e. absurd (cc);
        deep_given = λ k d. absurd ((one_answer G).not_deep ts k both.1 d);
      }
  answered (Err stop.Memory) h =
      record {
        found = tt;
        only = λ x g s. tt;
        syntax_found = λ k e. absurd (cc);
        syntax_given = λ k s. tt;
        deep_found = λ k e. absurd (cc);
        deep_given = λ k d. tt;
      }
  answered (Err (stop.Syntax n)) h =
      let here = law.whole_syntax E G p exact ts n h in
      record {
        found = tt;
        only = λ x. law.only_bad E G p exact ts n x h;
        syntax_found = λ k e. let same : length ts - n ≡ k = cc in subst (SyntaxAt G ts) same here;
        syntax_given = λ k s. ap Syntax ((one_answer G).one_syntax ts k (length ts - n) s here);
        deep_found = λ k e. absurd (cc);
        deep_given = λ k d. absurd ((one_answer G).not_both ts (length ts - n) k here d);
      }
  answered (Err (stop.Deep n)) h =
      let here = law.whole_deep E G p exact ts n h in
      record {
        found = tt;
        only = λ x. law.only_deep E G p exact ts n x h;
        syntax_found = λ k e. absurd (cc);
        syntax_given = λ k s. absurd ((one_answer G).not_both ts k (length ts - n - 1) s here);
        deep_found = λ k e. let same : length ts - n - 1 ≡ k = cc in subst (DeepAt G ts) same here;
        deep_given = λ k d. ap Deep ((one_answer G).one_deep ts k (length ts - n - 1) d here);
      }
