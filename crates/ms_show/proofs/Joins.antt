-- Lists of bytes that grow by a separator and a piece.
use Rattle.std.proofs.Common.{◌≡◌, ℕ, zero, suc, ◌+◌, ◌-◌, ◌≤◌, List, [], ◌∷◌, ◌++◌, refl, sym, ap, subst, ◌∙◌, append_assoc, arith, ◌<◌, ◌/◌, map, length, codes, ℤ, pos, ◌+ℤ◌, ◌⊎◌, inl, inr, ◌%◌, ◌==◌, false}
use Rattle.std.specs.List.{flat_map, join_by, range_with_len}
use Rattle.std.specs.Fmt.{signed_decimal}
use Rattle.std.proofs.lemmas.List.{flat_map_more}
use Rattle.std.proofs.lemmas.List.Folds.{flat_map-map}
use Rattle.std.proofs.lemmas.Grind.{flat_map-append}
use Rattle.ms_num.specs.Span.{Span}
use Rattle.ms_num.specs.Ranges.{span_size}
use Rattle.ms_show.specs.Texts.{joined, row_of, rows_text_of, numbers_of, members_text_of, later_numbers}

range_more : (a n i : ℕ) → a + n ≡ i → range_with_len a (suc n) ≡ range_with_len a n ++ i ∷ []
range_more a zero i is = ap (λ k. k ∷ []) (let same : a ≡ i = omega arith in same)
range_more a (suc n) i is = ap (λ l. a ∷ l) (range_more (a + 1) n i (omega arith))

-- the text after the piece of i, which has a separator before it
pub grown : (old bs sep piece : List ℕ) (f : ℕ → List ℕ) (a i : ℕ) → a ≤ i → old ≡ bs ++ flat_map f (range_with_len a (i - a)) → f i ≡ sep ++ piece →
    (old ++ sep) ++ piece ≡ bs ++ flat_map f (range_with_len a (i + 1 - a))
grown old bs sep piece f a i from is shown =
    let later : suc (i - a) ≡ i + 1 - a = omega arith in
    append_assoc old sep piece
    ∙ ap (λ l. l ++ (sep ++ piece)) is
    ∙ ap (λ p. (bs ++ flat_map f (range_with_len a (i - a))) ++ p) (sym shown)
    ∙ flat_map_more f bs (range_with_len a (i - a)) i
    ∙ ap (λ l. bs ++ flat_map f l) (sym (range_more a (i - a) i (omega arith)))
    ∙ ap (λ n. bs ++ flat_map f (range_with_len a n)) later

-- a loop has come to its end n
pub come_to : (a i n : ℕ) → i ≤ n → n ≤ i → i - a ≡ n - a
come_to a i n within far = omega arith

-- the first piece, and the later ones with a separator before each
pub join_by-range : {X : Type 0} (F : ℕ → X) (g : X → List ℕ) (sep : List ℕ) (n : ℕ) → 0 < n →
    join_by g sep (map F (range_with_len 0 n)) ≡ g (F 0) ++ flat_map (λ i. sep ++ g (F i)) (range_with_len 1 (n - 1))
join_by-range F g sep zero some = absurd (omega arith)
join_by-range F g sep (suc m) some =
    let less : m ≡ suc m - 1 = omega arith in
    ap (λ l. g (F 0) ++ l) (flat_map-map (λ y. sep ++ g y) F (range_with_len 1 m) ∙ ap (λ k. flat_map (λ i. sep ++ g (F i)) (range_with_len 1 k)) less)

-- the text of rows that are not none
pub rows_text_of-some : (width : ℕ) (parts : List (List ℕ)) → (length parts ≡ 0 → ⊥) → 0 < length parts / width →
    rows_text_of width parts
    ≡ codes "[| " ++ (joined (row_of width parts 0)
    ++ flat_map (λ i. codes " | " ++ joined (row_of width parts i)) (range_with_len 1 (length parts / width - 1)))
    ++ codes " |]"
rows_text_of-some width [] some rows = absurd (some refl)
rows_text_of-some width (p ∷ ps) some rows =
    ap (λ l. codes "[| " ++ l ++ codes " |]") (join_by-range (row_of width (p ∷ ps)) joined (codes " | ") (length (p ∷ ps) / width) rows)

abbrev shown : ℤ → List ℕ
shown z = codes ", " ++ signed_decimal z

shown_numbers : (s : Span) → flat_map shown (numbers_of s) ≡ later_numbers s 0
shown_numbers s =
    let whole : span_size s ≡ span_size s - 0 = omega arith in
    flat_map-map shown (λ k. s.lo +ℤ pos k) (range_with_len 0 (span_size s))
    ∙ ap (λ n. flat_map (λ k. shown (s.lo +ℤ pos k)) (range_with_len 0 n)) whole

shown_ranges : (ss : List Span) → flat_map shown (flat_map numbers_of ss) ≡ flat_map (λ s. later_numbers s 0) ss
shown_ranges [] = refl
shown_ranges (s ∷ ss) =
    flat_map-append shown (numbers_of s) (flat_map numbers_of ss)
    ∙ (λ i. shown_numbers s i ++ shown_ranges ss i)

-- the numbers of ranges: the least, the others of the first range, and those of the others
members-first : (s : Span) (ss : List Span) →
    join_by signed_decimal (codes ", ") (flat_map numbers_of (s ∷ ss))
    ≡ signed_decimal (s.lo +ℤ pos 0) ++ (later_numbers s 1 ++ flat_map (λ t. later_numbers t 0) ss)
members-first s ss =
    let size : suc (span_size s - 1) ≡ span_size s = omega arith in
    let split : numbers_of s ≡ (s.lo +ℤ pos 0) ∷ map (λ k. s.lo +ℤ pos k) (range_with_len 1 (span_size s - 1)) =
    sym (ap (λ n. map (λ k. s.lo +ℤ pos k) (range_with_len 0 n)) size) in
    ap (λ l. join_by signed_decimal (codes ", ") (l ++ flat_map numbers_of ss)) split
    ∙ ap (λ l. signed_decimal (s.lo +ℤ pos 0) ++ l)
    (flat_map-append shown (map (λ k. s.lo +ℤ pos k) (range_with_len 1 (span_size s - 1))) (flat_map numbers_of ss)
    ∙ (λ i. flat_map-map shown (λ k. s.lo +ℤ pos k) (range_with_len 1 (span_size s - 1)) i ++ shown_ranges ss i))

-- the text of the numbers, as it is put together
pub members_text_of-first : (s : Span) (ss : List Span) →
    (((codes "{" ++ signed_decimal (s.lo +ℤ pos 0)) ++ later_numbers s 1) ++ flat_map (λ t. later_numbers t 0) ss) ++ codes "}" ≡ members_text_of (s ∷ ss)
members_text_of-first s ss =
    let one = signed_decimal (s.lo +ℤ pos 0) in
    let two = later_numbers s 1 in
    let three = flat_map (λ t. later_numbers t 0) ss in
    ap (λ l. l ++ codes "}")
    (ap (λ l. l ++ three) (append_assoc (codes "{") one two)
    ∙ append_assoc (codes "{") (one ++ two) three
    ∙ ap (λ l. codes "{" ++ l) (append_assoc one two three ∙ sym (members-first s ss)))

not_none : (n : ℕ) → false ≡ (n == 0) → n ≡ 0 → ⊥
not_none n is e = let bad : false ≡ (0 == 0) = subst (λ m. false ≡ (m == 0)) e is in cc

some_row : (n width : ℕ) → 0 < width → n % width ≡ 0 → (n ≡ 0 → ⊥) → 0 < n / width
some_row n width wide whole some = grind arith

-- the text of rows, as it is put together
pub rows_text_of-joined : (width : ℕ) (parts : List (List ℕ)) →
    (length parts ≡ 0) ⊎ ((0 < width) × (length parts % width ≡ 0)) → false ≡ (length parts == 0) →
    ((codes "[| " ++ joined (row_of width parts 0))
    ++ flat_map (λ i. codes " | " ++ joined (row_of width parts i)) (range_with_len 1 (length parts / width - 1)))
    ++ codes " |]"
    ≡ rows_text_of width parts
rows_text_of-joined width parts (inl none) some = absurd (not_none _ some none)
rows_text_of-joined width parts (inr fits) some =
    ap (λ l. l ++ codes " |]") (append_assoc (codes "[| ") (joined (row_of width parts 0)) _)
    ∙ sym (rows_text_of-some width parts (not_none _ some) (some_row _ width fits.0 fits.1 (not_none _ some)))
