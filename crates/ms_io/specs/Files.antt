-- What a store of files tells, and how an answer of a read changes its counts.
use Rattle.std.specs.Prelude.{◌≡◌, ℕ, ◌+◌, ◌-◌, ◌^◌, ◌<◌, ◌≤◌, min, max, ◌⊎◌, List, [], ◌∷◌, ◌++◌, length, Option, None, Some, Result, Ok, Err}
use Rattle.std.specs.Ordering.{nat_cmp}
use Rattle.std.specs.Cmp.Lexicographic.{slice_cmp}
use Rattle.std.specs.FinMap as map
use Rattle.ms_io.specs.declared.files.FileFault.{FileFault}
use Rattle.ms_io.specs.declared.files.FileFault.TheVariants.{Failed, LongFile, Memory}

-- the bytes under each name
abbrev pub FileMap : Type 0
FileMap = map.FinMap (slice_cmp nat_cmp) (List ℕ)

-- these bytes stand under the name; false where the map is not told
abbrev pub HasFile : Option FileMap → List ℕ → List ℕ → Type 0
HasFile None name bytes = ⊥
HasFile (Some files) name bytes = map.get files name ≡ Some bytes

-- more than `most` bytes stand under the name; false where the map is not told
abbrev pub HasLongFile : Option FileMap → List ℕ → ℕ → Type 0
HasLongFile told name most = (bytes : List ℕ) × HasFile told name bytes × (most < length bytes)

-- a count of faults after one more: one higher, or the same at the end of its type
abbrev pub raised : ℕ → ℕ
raised n = max n (min (n + 1) (2 ^ 64 - 1))

-- the count of faults rises at `Failed`, and stays at every other answer
abbrev pub CountsFault : Result (List ℕ) FileFault → ℕ → ℕ → Type 0
CountsFault (Ok bytes) old new = new ≡ old
CountsFault (Err Failed) old new = new ≡ raised old
CountsFault (Err LongFile) old new = new ≡ old
CountsFault (Err Memory) old new = new ≡ old

-- the name joins the names asked for; at `Memory` it may also be left out
abbrev pub NotesName : Result (List ℕ) FileFault → List ℕ → List (List ℕ) → List (List ℕ) → Type 0
NotesName (Ok bytes) name old new = new ≡ old ++ name ∷ []
NotesName (Err Failed) name old new = new ≡ old ++ name ∷ []
NotesName (Err LongFile) name old new = new ≡ old ++ name ∷ []
NotesName (Err Memory) name old new = (new ≡ old ++ name ∷ []) ⊎ (new ≡ old)

-- a fact for the answer `LongFile`
abbrev pub OnLongFile : Result (List ℕ) FileFault → Type 0 → Type 0
OnLongFile (Ok bytes) p = Unit {0}
OnLongFile (Err Failed) p = Unit {0}
OnLongFile (Err LongFile) p = p
OnLongFile (Err Memory) p = Unit {0}

-- the count rose in this call; one that stands at 2^64 - 1 counts as risen
abbrev pub Rose : ℕ → ℕ → Type 0
Rose old new = min (old + 1) (2 ^ 64 - 1) ≤ new
