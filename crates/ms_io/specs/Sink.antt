-- What a sink has taken.
use Rattle.std.specs.Prelude.{◌≡◌, ℕ, List, ◌++◌, take, Option, option_map}
use Rattle.ms_io.specs.Files.{Rose}

-- the piece joined the bytes at their end, where they are told
abbrev pub Gains : Option (List ℕ) → List ℕ → Option (List ℕ) → Type 0
Gains old piece new = new ≡ option_map (λ bytes. bytes ++ piece) old

-- the text was put, or a prefix of it, and all of it where the put did not fail
pub record Reports (text : List ℕ) (old : Option (List ℕ)) (faults : ℕ) (new : Option (List ℕ)) (faults_after : ℕ) : Type 0 where
  pub put : ℕ
  pub prefix : Gains old (take put text) new
  pub whole : (Rose faults faults_after → ⊥) → Gains old text new
