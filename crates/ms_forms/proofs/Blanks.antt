-- White space and comments are what their rules say.
use Rattle.std.proofs.Common.{◌≡◌, ◌≢◌, ℕ, suc, ◌+◌, ◌-◌, ◌≤◌, ◌<◌, List, [], ◌∷◌, ◌++◌, length, take, drop, Bool, true, false, refl, sym, ap, ◌∙◌, subst, arith, inl, inr, length-take}
use Rattle.std.specs.Prelude.{◌==◌, ◌&&◌, ◌⊎◌, if◌then◌else◌}
use Rattle.std.specs.List.{list_all}
use Rattle.std.proofs.lemmas.Bool.Decides.{nat_tests}
use Rattle.std.proofs.lemmas.List.{take-append-drop}
use Rattle.ms_syntax.specs.declared.token.Token.TheVariants as t
use Rattle.ms_syntax.specs.declared.token.LexKind.TheVariants.{OpenComment}
use Rattle.ms_syntax.specs.Form.{blank, token, fault, form, word, word_of, keyword, number, text, comment, symbol, run, byte_at, is_white, is_letter, is_digit, is_name_byte, is_in_line, max_number}
use Rattle.ms_syntax.specs.Cut.{size}
use Rattle.ms_forms.specs.Spelling.{Spells}
use Rattle.ms_forms.specs.Blank.{IsBlank, IsLineEnd, HoldsNoClose, white_byte, line_comment, closed_comment}
use Rattle.ms_forms.proofs.Runs.{tested, both, and_left, and_right, same_eqb, digit_range, run_cons, run_front, run_stop, run_within, run_all}
use Rattle.ms_forms.proofs.Texts.{IsText, text_is}
use Rattle.ms_forms.proofs.Spelled.{no_token_at_blank}
use Rattle.ms_forms.proofs.Faults.{close_free, nothing_held, symbol_no_blank}

-- ---- comments up to the end of the line

line_end : (bs : List ℕ) → IsLineEnd (drop (run is_in_line bs) bs)
line_end [] = tt
line_end (b ∷ bs) = elim (tested (is_in_line b)) as (λ _. IsLineEnd (drop (run is_in_line (b ∷ bs)) (b ∷ bs))) [
  | inl h ↦ rw (run_cons is_in_line b bs h) (line_end bs)
  | inr h ↦ rw (run_stop is_in_line (b ∷ bs) h) (feed b h)
]
  where
    feed : (b : ℕ) → is_in_line b ≡ false → b ≡ 10
    feed b h = grind (arith, nat_tests)

line_stop : (rest : List ℕ) → IsLineEnd rest → run is_in_line rest ≡ 0
line_stop [] h = refl
line_stop (b ∷ bs) h = run_stop is_in_line (b ∷ bs) (ap is_in_line h)

line_blank : (bs : List ℕ) → IsBlank (37 ∷ bs) (run is_in_line (37 ∷ bs))
line_blank bs =
    let inner = take (run is_in_line bs) bs in
    let count : 1 + length inner ≡ run is_in_line (37 ∷ bs) = omega (arith, run_cons is_in_line 37 bs refl, length-take (run is_in_line bs) bs, run_within is_in_line bs) in
    subst (IsBlank (37 ∷ bs)) count (line_comment (37 ∷ bs) inner (drop (run is_in_line bs) bs) (ap (λ z. 37 ∷ z) (sym (take-append-drop (run is_in_line bs) bs))) (run_all is_in_line bs) (line_end bs))

line_run : (inner rest : List ℕ) → list_all is_in_line inner ≡ true → IsLineEnd rest → run is_in_line (37 ∷ inner ++ rest) ≡ 1 + length inner
line_run inner rest h i = omega (arith, run_cons is_in_line 37 (inner ++ rest) refl, run_front is_in_line inner rest h, line_stop rest i)

-- ---- comments up to `*/`

and_false : (x : Bool) → (x && false) ≡ false
and_false true = refl
and_false false = refl

-- no `*/` begins at a byte that comes before more of a comment
pub none_here : (b : ℕ) (inner rest : List ℕ) → HoldsNoClose (b ∷ inner) → (b == 42 && byte_at (inner ++ rest) 0 == 47) ≡ true → inner ≡ []
none_here b [] rest h e = refl
none_here b (c ∷ cs) rest h e = absurd (h 0 (same_eqb b 42 (and_left (b == 42) (c == 47) e)) (same_eqb c 47 (and_right (b == 42) (c == 47) e)))

star_next : (b : ℕ) (inner rest : List ℕ) → HoldsNoClose (b ∷ inner) → (b == 42 && byte_at (inner ++ 42 ∷ rest) 0 == 47) ≡ false
star_next b [] rest h = and_false (b == 42)
star_next b (c ∷ cs) rest h = elim (tested (b == 42 && c == 47)) as (λ _. (b == 42 && c == 47) ≡ false) [
  | inl e ↦ (let wrong : c ∷ cs ≡ [] = none_here b (c ∷ cs) rest h e in cc)
  | inr e ↦ e
]

later : (b : ℕ) (bs : List ℕ) → HoldsNoClose (b ∷ bs) → HoldsNoClose bs
later b bs h k star slash = let next : suc k + 1 ≡ suc (k + 1) = omega arith in h (suc k) star (ap (byte_at (b ∷ bs)) next ∙ slash)

comment_taken : (inner rest : List ℕ) (n : ℕ) → HoldsNoClose inner → comment n (inner ++ 42 ∷ 47 ∷ rest) ≡ blank (n + length inner + 2)
unfolding comment
comment_taken [] rest n h = ap blank (omega arith)
comment_taken (b ∷ inner) rest n h =
    ap (λ x. if x then blank (n + 2) else comment (n + 1) (inner ++ 42 ∷ 47 ∷ rest)) (star_next b inner (47 ∷ rest) h) ∙ comment_taken inner rest (n + 1) (later b inner h) ∙ ap blank (omega arith)

pub comment_unclosed : (bs : List ℕ) (n : ℕ) → HoldsNoClose bs → comment n bs ≡ fault OpenComment 0
unfolding comment
comment_unclosed [] n h = refl
comment_unclosed (b ∷ bs) n h = ap (λ x. if x then blank (n + 2) else comment (n + 1) bs) (none b bs h) ∙ comment_unclosed bs (n + 1) (later b bs h)
  where
    none : (b : ℕ) (bs : List ℕ) → HoldsNoClose (b ∷ bs) → (b == 42 && byte_at bs 0 == 47) ≡ false
    none b [] h = and_false (b == 42)
    none b (c ∷ cs) h = elim (tested (b == 42 && c == 47)) as (λ _. (b == 42 && c == 47) ≡ false) [
      | inl e ↦ absurd (h 0 (same_eqb b 42 (and_left (b == 42) (c == 47) e)) (same_eqb c 47 (and_right (b == 42) (c == 47) e)))
      | inr e ↦ e
    ]

same_size : (n m : ℕ) → blank n ≡ blank m → n ≡ m
same_size n m h = ap size h

-- bytes up to a `*/`, of which none is earlier, are m with the n before them
IsClosed : List ℕ → ℕ → ℕ → Type 0
IsClosed bs n m = (inner : List ℕ) × (rest : List ℕ) × (bs ≡ inner ++ 42 ∷ 47 ∷ rest) × HoldsNoClose inner × (m ≡ n + length inner + 2)

closed_here : (b n m : ℕ) (bs : List ℕ) → (b == 42 && byte_at bs 0 == 47) ≡ true → n + 2 ≡ m → IsClosed (b ∷ bs) n m
unfolding IsClosed
closed_here b n m [] h i = absurd (let wrong : false ≡ true = and_right (b == 42) false h in cc)
closed_here b n m (c ∷ cs) h i =
    let star : b ≡ 42 = same_eqb b 42 (and_left (b == 42) (c == 47) h) in
    let slash : c ≡ 47 = same_eqb c 47 (and_right (b == 42) (c == 47) h) in
    ([], cs, ap (λ z. z ∷ c ∷ cs) star ∙ ap (λ z. 42 ∷ z ∷ cs) slash, nothing_held, omega arith)

before_more : (b : ℕ) (inner rest : List ℕ) → (b == 42 && byte_at (inner ++ rest) 0 == 47) ≡ false → (b == 42 && byte_at inner 0 == 47) ≡ false
before_more b [] rest h = and_false (b == 42)
before_more b (c ∷ cs) rest h = h

closed_later : (b n m : ℕ) (bs : List ℕ) → (b == 42 && byte_at bs 0 == 47) ≡ false → IsClosed bs (n + 1) m → IsClosed (b ∷ bs) n m
unfolding IsClosed
closed_later b n m bs h (inner, rest, e, holds, count) =
    let none = before_more b inner (42 ∷ 47 ∷ rest) (ap (λ z. b == 42 && byte_at z 0 == 47) (sym e) ∙ h) in
    (b ∷ inner, rest, ap (λ z. b ∷ z) e, close_free b inner none holds, omega (arith, count))

comment_closed : (bs : List ℕ) (n m : ℕ) → comment n bs ≡ blank m → IsClosed bs n m
unfolding comment
comment_closed [] n m h = absurd (let wrong : fault OpenComment 0 ≡ blank m = h in cc)
comment_closed (b ∷ bs) n m h = cases (b == 42 && byte_at bs 0 == 47) refl h (comment_closed bs (n + 1) m)
  where
    cases : (x : Bool) → (b == 42 && byte_at bs 0 == 47) ≡ x → (if x then blank (n + 2) else comment (n + 1) bs) ≡ blank m → (comment (n + 1) bs ≡ blank m → IsClosed bs (n + 1) m) → IsClosed (b ∷ bs) n m
    cases true e i go = closed_here b n m bs e (same_size (n + 2) m i)
    cases false e i go = closed_later b n m bs e (go i)

comment_blank : (b : ℕ) (bs : List ℕ) (n : ℕ) → (b == 47 && byte_at bs 0 == 42) ≡ true → comment 2 (drop 1 bs) ≡ blank n → IsBlank (b ∷ bs) n
unfolding IsClosed
comment_blank b [] n h i = absurd (let wrong : false ≡ true = and_right (b == 47) false h in cc)
comment_blank b (c ∷ cs) n h i =
    let closed = comment_closed cs 2 n i in
    let slash : b ≡ 47 = same_eqb b 47 (and_left (b == 47) (c == 42) h) in
    let star : c ≡ 42 = same_eqb c 42 (and_right (b == 47) (c == 42) h) in
    let whole : b ∷ c ∷ cs ≡ 47 ∷ 42 ∷ closed.0 ++ 42 ∷ 47 ∷ closed.1 = ap (λ z. z ∷ c ∷ cs) slash ∙ ap (λ z. 47 ∷ z ∷ cs) star ∙ ap (λ z. 47 ∷ 42 ∷ z) closed.2 in
    let count : 4 + length closed.0 ≡ n = omega (arith, closed.4) in
    subst (IsBlank (b ∷ c ∷ cs)) count (closed_comment (b ∷ c ∷ cs) closed.0 closed.1 whole closed.3)

-- ---- all together

-- a digit alone spells a number
pub digit_spells : (b : ℕ) (bs : List ℕ) → is_digit b ≡ true → Spells (t.Number (b - 48)) (take 1 (b ∷ bs))
digit_spells b bs h =
    let range = digit_range b h in
    let some : b ∷ [] ≢ [] = λ e. (let wrong : b ∷ [] ≡ [] = e in cc) in
    let small : b - 48 ≤ max_number = omega arith in
    ((some, both (is_digit b) true h refl), omega arith, small)

by_first : (b : ℕ) (bs : List ℕ) (n : ℕ) → form (b ∷ bs) ≡ blank n → (w p l d q c : Bool)
    → is_white b ≡ w → (b == 37) ≡ p → is_letter b ≡ l → is_digit b ≡ d → (b == 34) ≡ q → (b == 47 && byte_at bs 0 == 42) ≡ c
    → (if w then blank 1 else (if p then blank (run is_in_line (b ∷ bs)) else (if l then word (b ∷ bs) else (if d then number (b ∷ bs) else (if q then text false 1 [] bs else (if c then comment 2 (drop 1 bs) else symbol b (byte_at bs 0) (byte_at bs 1))))))) ≡ blank n
    → IsBlank (b ∷ bs) n
unfolding word
by_first b bs n e true p l d q c ew ep el ed eq ec h = subst (IsBlank (b ∷ bs)) (same_size 1 n h) (white_byte (b ∷ bs) bs b refl ew)
by_first b bs n e false true l d q c ew ep el ed eq ec h =
    subst (IsBlank (b ∷ bs)) (same_size (run is_in_line (b ∷ bs)) n h) (subst (λ (z : ℕ). IsBlank (z ∷ bs) (run is_in_line (z ∷ bs))) (sym (same_eqb b 37 ep)) (line_blank bs))
by_first b bs n e false false true d q c ew ep el ed eq ec h =
    let name = take (run is_name_byte (b ∷ bs)) (b ∷ bs) in
    absurd (let wrong : token (word_of (keyword name) name) (run is_name_byte (b ∷ bs)) ≡ blank n = h in cc)
by_first b bs n e false false false true q c ew ep el ed eq ec h = absurd (no_token_at_blank (b ∷ bs) (t.Number (b - 48)) n 1 e (omega arith) (digit_spells b bs ed))
by_first b bs n e false false false false true c ew ep el ed eq ec h = absurd (subst (IsText 1 [] bs) h (text_is false bs 1 []))
by_first b bs n e false false false false false true ew ep el ed eq ec h = comment_blank b bs n ec h
by_first b bs n e false false false false false false ew ep el ed eq ec h = absurd (symbol_no_blank b (byte_at bs 0) (byte_at bs 1) n h)

pub blanks : (bytes : List ℕ) (n : ℕ) → form bytes ≡ blank n → 0 < n → IsBlank bytes n
unfolding form
blanks [] n h some = let none : 0 ≡ n = same_size 0 n h in absurd (omega arith)
blanks (b ∷ bs) n h some = by_first b bs n h (is_white b) (b == 37) (is_letter b) (is_digit b) (b == 34) (b == 47 && byte_at bs 0 == 42) refl refl refl refl refl refl h

white_taken : (b : ℕ) (rest : List ℕ) → is_white b ≡ true → form (b ∷ rest) ≡ blank 1
unfolding form
white_taken b rest h = rw h refl

line_taken : (inner rest : List ℕ) → list_all is_in_line inner ≡ true → IsLineEnd rest → form (37 ∷ inner ++ rest) ≡ blank (1 + length inner)
unfolding form
line_taken inner rest h i = ap blank (line_run inner rest h i)

comment_form : (inner rest : List ℕ) → HoldsNoClose inner → form (47 ∷ 42 ∷ inner ++ 42 ∷ 47 ∷ rest) ≡ blank (4 + length inner)
unfolding form
comment_form inner rest h = comment_taken inner rest 2 h ∙ ap blank (omega arith)

pub blank_only : (bytes : List ℕ) (n : ℕ) → IsBlank bytes n → form bytes ≡ blank n
blank_only bytes n (white_byte all rest b e h) = ap form e ∙ white_taken b rest h
blank_only bytes n (line_comment all inner rest e h i) = ap form e ∙ line_taken inner rest h i
blank_only bytes n (closed_comment all inner rest e h) = ap form e ∙ comment_form inner rest h

-- what a blank begins with
pub blank_begins : (b : ℕ) (bs : List ℕ) (n : ℕ) → IsBlank (b ∷ bs) n → (is_white b ≡ true) ⊎ ((b ≡ 37) ⊎ ((b ≡ 47) × (byte_at bs 0 ≡ 42)))
blank_begins b bs n (white_byte all rest c e h) = let same : b ≡ c = cc in inl (ap is_white same ∙ h)
blank_begins b bs n (line_comment all inner rest e h i) = let same : b ≡ 37 = cc in inr (inl same)
blank_begins b bs n (closed_comment all inner rest e h) =
    let same : b ≡ 47 = cc in
    let others : bs ≡ 42 ∷ inner ++ 42 ∷ 47 ∷ rest = cc in
    inr (inr (same, ap (λ z. byte_at z 0) others))
