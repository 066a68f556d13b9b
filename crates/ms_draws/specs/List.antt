-- The words of a given list: the state is what is left of it.
use Rattle.std.specs.Prelude.{ℕ, List, [], ◌∷◌}

-- the next of the list, and 0 after its end
abbrev pub first_word : List ℕ → ℕ
first_word [] = 0
first_word (word ∷ words) = word

-- the list without its first word
abbrev pub later_words : List ℕ → List ℕ
later_words [] = []
later_words (word ∷ words) = words
