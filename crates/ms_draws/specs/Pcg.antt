-- The words of PCG32 (XSH RR 64/32): the state is the generator's two numbers, as a list.
use Rattle.std.specs.Prelude.{ℕ, List, [], ◌∷◌, slice_index}
use Rattle.rand_core.specs.Pcg32Seed.{pcg32_seed}
use Rattle.rand_pcg.specs.Lcg.{Lcg}
use Rattle.rand_pcg.specs.Pcg.{pcg32, pcg32_of_seed}

-- the state and the increment of a generator
abbrev pub numbers_of : Lcg → List ℕ
numbers_of generator = generator.state ∷ generator.increment ∷ []

-- the generator of a state and an increment
abbrev pub generator_of : List ℕ → Lcg
generator_of numbers = record { state = slice_index numbers 0; increment = slice_index numbers 1 }

-- the word that a state gives
abbrev pub pcg_word : List ℕ → ℕ
pcg_word numbers = (pcg32 (generator_of numbers)).0

-- the state after it
abbrev pub pcg_after : List ℕ → List ℕ
pcg_after numbers = numbers_of (pcg32 (generator_of numbers)).1

-- the state that a seed gives, expanded to 16 bytes as `seed_from_u64` does
abbrev pub seeded : ℕ → List ℕ
seeded seed = numbers_of (pcg32_of_seed (pcg32_seed 16 seed))
