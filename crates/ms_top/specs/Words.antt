-- The program's words, and the file that they name.
use Rattle.std.specs.Prelude.{◌≡◌, ℕ, List, [], ◌∷◌, ◌++◌, length, ◌⊎◌, Option, Some, None, String, string_bytes}
use Rattle.std.specs.declared.alloc.Global.{Global}
use Rattle.std.specs.FinMap as map
use Rattle.ms_io.specs.Files.{FileMap, HasFile, Rose}
use Rattle.ms_top.specs.declared.status.Status.{Status}
use Rattle.ms_top.specs.declared.status.Status.TheVariants.{NoMemory}

abbrev pub AreTwo : List (String Global) → Type 0
AreTwo words = length words ≡ 2

-- the second word
abbrev pub model_name : List (String Global) → List ℕ
model_name [] = []
model_name (program ∷ []) = []
model_name (program ∷ file ∷ more) = string_bytes file

-- the words are two, and the second names these bytes
abbrev pub NameBytes : Option FileMap → List (String Global) → List ℕ → Type 0
NameBytes told words bytes = AreTwo words × HasFile told (model_name words) bytes

-- the words are two, the second names these bytes, and no read failed
pub record AreRead (told : Option FileMap) (faults faults_after : ℕ) (words : List (String Global)) (bytes : List ℕ) : Type 0 where
  pub named : NameBytes told words bytes
  pub no_fault : Rose faults faults_after → ⊥

-- no bytes stand under the name, where the files are told
abbrev pub IsMissing : Option FileMap → List ℕ → Type 0
IsMissing None name = ⊥
IsMissing (Some files) name = map.get files name ≡ None

-- this name is asked for, once; or nothing, where memory ran out
abbrev pub AsksFor : List ℕ → Status → List (List ℕ) → List (List ℕ) → Type 0
AsksFor name status old new = (new ≡ old ++ name ∷ []) ⊎ ((status ≡ NoMemory) × (new ≡ old))

-- the model alone is asked for; and nothing where the words are not two
abbrev pub AsksForModel : List (String Global) → Status → List (List ℕ) → List (List ℕ) → Type 0
AsksForModel (program ∷ file ∷ []) status old new = AsksFor (string_bytes file) status old new
AsksForModel _ status old new = new ≡ old
