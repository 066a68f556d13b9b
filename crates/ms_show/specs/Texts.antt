-- The texts of values: a Boolean, a set, a list and rows. An integer's text is `signed_decimal` of std.
use Rattle.std.specs.Prelude.{ℕ, ◌-◌, ◌*◌, ◌/◌, ℤ, pos, ◌+ℤ◌, Bool, true, false, List, [], ◌∷◌, ◌++◌, map, take, drop, length, codes}
use Rattle.std.specs.Fmt.{signed_decimal}
use Rattle.std.specs.List.{flat_map, join_by, range_with_len}
use Rattle.ms_num.specs.Span.{Span}
use Rattle.ms_num.specs.Ranges.{span_size}

abbrev pub truth_text_of : Bool → List ℕ
truth_text_of true = codes "true"
truth_text_of false = codes "false"

-- the parts with `, ` between each two
abbrev pub joined : List (List ℕ) → List ℕ
joined parts = join_by (λ part. part) (codes ", ") parts

abbrev pub list_text_of : List (List ℕ) → List ℕ
list_text_of parts = codes "[" ++ joined parts ++ codes "]"

-- the row of that number, from 0
abbrev pub row_of : ℕ → List (List ℕ) → ℕ → List (List ℕ)
row_of width parts i = take width (drop (i * width) parts)

abbrev pub rows_of : ℕ → List (List ℕ) → List (List (List ℕ))
rows_of width parts = map (row_of width parts) (range_with_len 0 (length parts / width))

-- the rows with ` | ` between each two
abbrev pub rows_text_of : ℕ → List (List ℕ) → List ℕ
rows_text_of width [] = codes "[| |]"
rows_text_of width parts = codes "[| " ++ join_by joined (codes " | ") (rows_of width parts) ++ codes " |]"

-- the numbers of a range, in ascending order
abbrev pub numbers_of : Span → List ℤ
numbers_of s = map (λ k. s.lo +ℤ pos k) (range_with_len 0 (span_size s))

abbrev pub ends_text_of : Span → List ℕ
ends_text_of s = signed_decimal s.lo ++ codes ".." ++ signed_decimal s.hi

abbrev pub members_text_of : List Span → List ℕ
members_text_of ranges = codes "{" ++ join_by signed_decimal (codes ", ") (flat_map numbers_of ranges) ++ codes "}"

-- one range shows its ends, and any other set its numbers
abbrev pub set_text_of : List Span → List ℕ
set_text_of (s ∷ []) = ends_text_of s
set_text_of ranges = members_text_of ranges

-- the numbers of a range but the first `from`, with `, ` before each
abbrev pub later_numbers : Span → ℕ → List ℕ
later_numbers s from = flat_map (λ k. codes ", " ++ signed_decimal (s.lo +ℤ pos k)) (range_with_len from (span_size s - from))
