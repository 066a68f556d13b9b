-- What `MemSink` holds, and what its next put takes.
use Rattle.std.specs.Prelude.{◌≡◌, ◌⊎◌, ℕ, ◌==◌, List, [], ◌++◌, take, reverse, Option, None, Some, option_map, Result, Ok, Err, refl}
use Rattle.std.specs.Coded.{Coded, code_by, coded×, coded_ℕ, coded_list}
use Rattle.std.specs.List.{find}
use Rattle.ms_io.specs.declared.sink.Failed.{Failed}
use Rattle.ms_io.specs.Files.{raised}

pub record HeldBytes : Type 0 where
  -- the bytes taken, in order
  pub bytes : List ℕ
  -- the puts that are to fail, each by its number, and how many bytes each takes
  pub failing : List (ℕ × ℕ)
  -- the number of the next put; it stands still at 2 ^ 64 - 1
  pub calls : ℕ
  pub faults : ℕ

-- no byte, and no put so far
abbrev pub no_bytes : HeldBytes
no_bytes = record { bytes = []; failing = []; calls = 0; faults = 0 }

-- how many bytes the next put takes before it fails, if it is to fail; the latest word counts
abbrev pub failure_of : HeldBytes → Option ℕ
failure_of held = option_map (λ f. f.1) (find (λ f. f.0 == held.calls) (reverse held.failing))

-- after a put that took these bytes
abbrev pub gained : HeldBytes → List ℕ → HeldBytes
gained held piece = record held { bytes = held.bytes ++ piece; calls = raised held.calls }

-- a put that was not to fail took the whole piece. One that failed took as many bytes as it was to take,
-- or none, where the bytes could not grow
abbrev pub PutsTo : HeldBytes → List ℕ → Result (Unit {0}) Failed → HeldBytes → Type 0
PutsTo old piece (Ok _) new = (failure_of old ≡ None) × (new ≡ gained old piece)
PutsTo old piece (Err _) new =
    (k : ℕ) × ((k ≡ 0) ⊎ (failure_of old ≡ Some k)) × (new ≡ record (gained old (take k piece)) { faults = raised old.faults })

-- what is held, as pairs of its parts
abbrev pub bytes_code : Coded HeldBytes
bytes_code =
    code_by (List ℕ × (List (ℕ × ℕ) × (ℕ × ℕ)))
    (coded× (coded_list coded_ℕ) (coded× (coded_list (coded× coded_ℕ coded_ℕ)) (coded× coded_ℕ coded_ℕ)))
    (λ h. (h.bytes, (h.failing, (h.calls, h.faults))))
    (λ t. record { bytes = t.0; failing = t.1.0; calls = t.1.1.0; faults = t.1.1.1 })
    (λ _. refl)
