-- What `MemFiles` holds, and what its next read answers.
use Rattle.std.specs.Prelude.{◌≡◌, ℕ, ◌==◌, nat_le, if◌then◌else◌, List, [], ◌∷◌, ◌++◌, length, Option, None, Some, Result, Ok, Err, ◌⊎◌, refl}
use Rattle.std.specs.Coded.{Coded, code_by, coded×, coded_ℕ, coded_list}
use Rattle.std.specs.List.{list_any}
use Rattle.std.specs.FinMap as map
use Rattle.ms_io.specs.declared.files.FileFault.{FileFault}
use Rattle.ms_io.specs.declared.files.FileFault.TheVariants.{Failed, LongFile, Memory}
use Rattle.ms_io.specs.Files.{FileMap, raised}

pub record HeldFiles : Type 0 where
  -- the bytes under each name
  pub files : FileMap
  -- the numbers of the reads that are to fail
  pub failing : List ℕ
  -- the number of the next read; it stands still at 2 ^ 64 - 1
  pub calls : ℕ
  -- the names asked for, in order
  pub asked : List (List ℕ)
  pub faults : ℕ

-- no file, and no read so far
abbrev pub no_files : HeldFiles
no_files = record { files = map.empty; failing = []; calls = 0; asked = []; faults = 0 }

-- what a read answers of a file's bytes
abbrev pub answer_of_bytes : Option (List ℕ) → ℕ → Result (List ℕ) FileFault
answer_of_bytes None most = Err Failed
answer_of_bytes (Some bytes) most = if nat_le (length bytes) most then Ok bytes else Err LongFile

-- what the next read answers, apart from want of memory
abbrev pub answer_of : HeldFiles → List ℕ → ℕ → Result (List ℕ) FileFault
answer_of held name most =
    if list_any (λ call. call == held.calls) held.failing then Err Failed else answer_of_bytes (map.get held.files name) most

-- one more read
abbrev pub counted : HeldFiles → HeldFiles
counted held = record held { calls = raised held.calls }

-- one more read, whose name is noted
abbrev pub noted : HeldFiles → List ℕ → HeldFiles
noted held name = record held { calls = raised held.calls; asked = held.asked ++ name ∷ [] }

-- what is held after a read of the name, by its answer
abbrev pub ReadsTo : HeldFiles → List ℕ → Result (List ℕ) FileFault → HeldFiles → Type 0
ReadsTo old name (Ok bytes) new = new ≡ noted old name
ReadsTo old name (Err Failed) new = new ≡ record (noted old name) { faults = raised old.faults }
ReadsTo old name (Err LongFile) new = new ≡ noted old name
ReadsTo old name (Err Memory) new = (new ≡ noted old name) ⊎ (new ≡ counted old)

-- the answer is the expected one, or want of memory
abbrev pub IsAnswer : Result (List ℕ) FileFault → Result (List ℕ) FileFault → Type 0
IsAnswer expected (Ok bytes) = Ok bytes ≡ expected
IsAnswer expected (Err Failed) = Err Failed ≡ expected
IsAnswer expected (Err LongFile) = Err LongFile ≡ expected
IsAnswer expected (Err Memory) = Unit {0}

-- what is held, as pairs of its parts
abbrev pub held_code : Coded HeldFiles
held_code =
    let names : Coded (List ℕ) = coded_list coded_ℕ in
    code_by (FileMap × (List ℕ × (ℕ × (List (List ℕ) × ℕ))))
    (coded× (map.code names names) (coded× (coded_list coded_ℕ) (coded× coded_ℕ (coded× (coded_list names) coded_ℕ))))
    (λ h. (h.files, (h.failing, (h.calls, (h.asked, h.faults)))))
    (λ t. record { files = t.0; failing = t.1.0; calls = t.1.1.0; asked = t.1.1.1.0; faults = t.1.1.1.1 })
    (λ _. refl)
