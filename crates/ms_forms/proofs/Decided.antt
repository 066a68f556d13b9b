-- The rules decide the form.
use Rattle.std.proofs.Common.{◌≡◌, ◌≢◌, ℕ, zero, suc, ◌+◌, ◌-◌, ◌*◌, ◌≤◌, ◌<◌, List, [], ◌∷◌, ◌++◌, length, take, Bool, true, false, refl, sym, ap, ◌∙◌, subst, arith, inl, inr}
use Rattle.std.specs.Prelude.{◌==◌, ◌⊎◌, fold, nat_lt, if◌then◌else◌}
use Rattle.std.specs.List.{list_all}
use Rattle.std.proofs.lemmas.Bool.Decides.{nat_tests}
use Rattle.std.proofs.Math.Seq.{take-append_seam}
use Rattle.ms_syntax.specs.declared.token.Token.{Token}
use Rattle.ms_syntax.specs.declared.token.Token.TheVariants as t
use Rattle.ms_syntax.specs.declared.token.LexKind.{LexKind}
use Rattle.ms_syntax.specs.declared.token.LexKind.TheVariants.{BadByte, OpenText, OpenComment, BigNumber}
use Rattle.ms_syntax.specs.Form.{Form, blank, token, fault, form, number_of, max_number, sticks_to_number, text, run, byte_at, is_white, is_digit, is_plain, with_some}
use Rattle.ms_forms.specs.Spelling.{Spells, IsDigits, Means}
use Rattle.ms_forms.specs.Blank.{IsLineEnd, HoldsNoClose}
use Rattle.ms_forms.specs.Failing.{Fails, BeginsNoEscape, too_big, stuck, open_text, not_in_text, no_escape, open_comment, no_token}
use Rattle.ms_forms.proofs.Runs.{and_left, ne_eqb, run_front, run_stop}
use Rattle.ms_forms.proofs.Texts.{text_goes}
use Rattle.ms_forms.proofs.Symbols.{IsSpelled, end}
use Rattle.ms_forms.proofs.Spelled.{number_by, digits_form, byte_behind, form_spelled, form_taken, spelled, longest, no_token_at_blank}
use Rattle.ms_forms.proofs.Faults.{fails}
use Rattle.ms_forms.proofs.Blanks.{blanks, blank_begins, comment_unclosed, digit_spells}

-- ---- numbers

abbrev next : ℕ → ℕ → ℕ
next n d = 10 * n + (d - 48)

fold_behind : (s r : List ℕ) (n : ℕ) → fold next n (s ++ r) ≡ fold next (fold next n s) r
fold_behind [] r n = refl
fold_behind (b ∷ bs) r n = fold_behind bs r (next n b)

fold_grows : (r : List ℕ) (n : ℕ) → n ≤ fold next n r
fold_grows [] n = omega arith
fold_grows (b ∷ bs) n = let grown : next n b ≤ fold next (next n b) bs = fold_grows bs (next n b) in omega arith

take_behind : (s r : List ℕ) (k n : ℕ) → n ≡ length s + k → take n (s ++ r) ≡ s ++ take k r
take_behind [] r k n h = let same : n ≡ k = omega arith in ap (λ m. take m r) same
take_behind (b ∷ bs) r k zero h = absurd (omega arith)
take_behind (b ∷ bs) r k (suc n) h = ap (λ z. b ∷ z) (take_behind bs r k n (omega (arith, h)))

above_max : (v : ℕ) → max_number < v → nat_lt max_number v ≡ true
above_max v h = grind (arith, nat_tests)

within_max : (v : ℕ) → v ≤ max_number → nat_lt max_number v ≡ false
within_max v h = grind (arith, nat_tests)

number_too_big : (s r : List ℕ) → IsDigits s → max_number < number_of s → form (s ++ r) ≡ fault BigNumber 0
number_too_big s r h big =
    let n = run is_digit (s ++ r) in
    let k = run is_digit r in
    let digits : take n (s ++ r) ≡ s ++ take k r = take_behind s r k n (run_front is_digit s r h.1) in
    let value : number_of (take n (s ++ r)) ≡ fold next (number_of s) (take k r) = ap number_of digits ∙ fold_behind s (take k r) 0 in
    let grown : number_of s ≤ fold next (number_of s) (take k r) = fold_grows (take k r) (number_of s) in
    let over : max_number < fold next (number_of s) (take k r) = omega arith in
    digits_form s r h ∙ number_by (s ++ r) n (fold next (number_of s) (take k r)) (byte_at (s ++ r) n) refl value refl
    ∙ ap (λ x. if x then fault BigNumber 0 else (if sticks_to_number (byte_at (s ++ r) n) then fault BadByte n else token (t.Number (fold next (number_of s) (take k r))) n)) (above_max (fold next (number_of s) (take k r)) over)

sticks_no_digit : (b : ℕ) → sticks_to_number b ≡ true → is_digit b ≡ false
sticks_no_digit b h = grind (arith, nat_tests)

number_stuck : (s r : List ℕ) (b : ℕ) → IsDigits s → number_of s ≤ max_number → sticks_to_number b ≡ true → form (s ++ b ∷ r) ≡ fault BadByte (length s)
number_stuck s r b h small sticks =
    let all = s ++ b ∷ r in
    let count : run is_digit all ≡ length s = omega (arith, run_front is_digit s (b ∷ r) h.1, run_stop is_digit (b ∷ r) (sticks_no_digit b sticks)) in
    digits_form s (b ∷ r) h ∙ number_by all (length s) (number_of s) b count (ap number_of (take-append_seam s (b ∷ r))) (byte_behind s (b ∷ r))
    ∙ ap (λ x. if x then fault BigNumber 0 else (if sticks_to_number b then fault BadByte (length s) else token (t.Number (number_of s)) (length s))) (within_max (number_of s) small)
    ∙ ap (λ x. if x then fault BadByte (length s) else token (t.Number (number_of s)) (length s)) sticks

-- ---- texts

line_ends : (rest : List ℕ) (n : ℕ) (w : List ℕ) → IsLineEnd rest → text false n w rest ≡ fault OpenText 0
unfolding text
line_ends [] n w h = refl
line_ends (b ∷ bs) n w h = ap (λ z. text false n w (z ∷ bs)) h

last_choice : {X : Type 0} (q f k p : Bool) (a b c d e : X) → q ≡ false → f ≡ false → k ≡ false → p ≡ false → (if q then a else (if f then b else (if k then c else (if p then d else e)))) ≡ e
last_choice q f k p a b c d e i j l m = rw (i, j, l, m) refl

bad_in_text : (b n : ℕ) (w rest : List ℕ) → is_plain b ≡ false → b ≢ 34 → b ≢ 10 → b ≢ 92 → text false n w (b ∷ rest) ≡ fault BadByte n
unfolding text
bad_in_text b n w rest h i j k = last_choice (b == 34) (b == 10) (b == 92) (is_plain b) _ _ _ _ _ (ne_eqb b 34 i) (ne_eqb b 10 j) (ne_eqb b 92 k) h

bad_escape : (rest : List ℕ) (n : ℕ) (w : List ℕ) → BeginsNoEscape rest → text false n w (92 ∷ rest) ≡ fault BadByte n
unfolding text
bad_escape [] n w h = refl
bad_escape (e ∷ bs) n w h = ap (λ o. with_some o (λ c. text false (n + 2) (w ++ c ∷ []) bs) (fault BadByte n)) h

text_form : (inner w rest : List ℕ) → Means inner w → form (34 ∷ inner ++ rest) ≡ text false (1 + length inner) w rest
unfolding form
text_form inner w rest m = text_goes inner w m 1 [] rest

-- ---- comments

comment_form : (rest : List ℕ) → HoldsNoClose rest → form (47 ∷ 42 ∷ rest) ≡ fault OpenComment 0
unfolding form
comment_form rest h = comment_unclosed rest 2 h

-- ---- bytes that begin no token

first_digit : (b : ℕ) (bs digits rest : List ℕ) → b ∷ bs ≡ digits ++ rest → IsDigits digits → is_digit b ≡ true
first_digit b bs [] rest e h = absurd (h.0 refl)
first_digit b bs (c ∷ cs) rest e h = let same : b ≡ c = cc in ap is_digit same ∙ and_left (is_digit c) (list_all is_digit cs) h.1

-- no token is spelled at the front
abbrev SpellsNone : List ℕ → Type 0
SpellsNone bytes = (u : Token) (m : ℕ) → m ≤ length bytes → Spells u (take m bytes) → ⊥

no_digit : (b : ℕ) (bs : List ℕ) → is_digit b ≡ true → SpellsNone (b ∷ bs) → ⊥
no_digit b bs h none = none (t.Number (b - 48)) 1 (omega arith) (digit_spells b bs h)

bad_byte : (b : ℕ) (bs : List ℕ) (kind : LexKind) (n : ℕ) → b ≢ 34 → (b ≡ 47 → byte_at bs 0 ≢ 42) → SpellsNone (b ∷ bs) → Fails (b ∷ bs) kind n → fault kind n ≡ fault BadByte 0
bad_byte b bs kind n quote apart none (too_big all digits rest e h big) = absurd (no_digit b bs (first_digit b bs digits rest e h) none)
bad_byte b bs kind n quote apart none (stuck all digits rest c e h small sticks) = absurd (no_digit b bs (first_digit b bs digits (c ∷ rest) e h) none)
bad_byte b bs kind n quote apart none (open_text all inner w rest e m i) = absurd (let same : b ≡ 34 = cc in quote same)
bad_byte b bs kind n quote apart none (not_in_text all inner w rest c e m i j k l) = absurd (let same : b ≡ 34 = cc in quote same)
bad_byte b bs kind n quote apart none (no_escape all inner w rest e m i) = absurd (let same : b ≡ 34 = cc in quote same)
bad_byte b bs kind n quote apart none (open_comment all rest e h) =
    let same : b ≡ 47 = cc in
    let others : bs ≡ 42 ∷ rest = cc in
    absurd (apart same (ap (λ z. byte_at z 0) others))
bad_byte b bs kind n quote apart none (no_token c rest i j k l m) = refl

some_blank : (b : ℕ) (bs : List ℕ) (n : ℕ) → form (b ∷ bs) ≡ blank n → 0 < n
unfolding IsSpelled
some_blank b bs n h = let whole : IsSpelled (b ∷ bs) (blank n) = subst (IsSpelled (b ∷ bs)) h (form_spelled b bs) in whole.0

no_blank : (b : ℕ) (bs : List ℕ) → is_white b ≡ false → b ≢ 37 → (b ≡ 47 → byte_at bs 0 ≢ 42) → (is_white b ≡ true) ⊎ ((b ≡ 37) ⊎ ((b ≡ 47) × (byte_at bs 0 ≡ 42))) → ⊥
no_blank b bs white percent apart (inl h) = (let wrong : true ≡ false = sym h ∙ white in cc)
no_blank b bs white percent apart (inr (inl h)) = percent h
no_blank b bs white percent apart (inr (inr h)) = apart h.0 h.1

nothing_taken : (b : ℕ) (bs : List ℕ) → is_white b ≡ false → b ≢ 37 → b ≢ 34 → (b ≡ 47 → byte_at bs 0 ≢ 42) → SpellsNone (b ∷ bs) → form (b ∷ bs) ≡ fault BadByte 0
nothing_taken b bs white percent quote apart none = cases (form (b ∷ bs)) refl
  where
    cases : (f : Form) → form (b ∷ bs) ≡ f → form (b ∷ bs) ≡ fault BadByte 0
    cases (blank n) e = absurd (no_blank b bs white percent apart (blank_begins b bs n (blanks (b ∷ bs) n e (some_blank b bs n e))))
    cases (token u n) e = let found = spelled (b ∷ bs) u n e in absurd (none u n found.1 found.0)
    cases (fault kind n) e = e ∙ bad_byte b bs kind n quote apart none (fails (b ∷ bs) kind n e)

-- ---- all together

pub fails_only : (bytes : List ℕ) (kind : LexKind) (n : ℕ) → Fails bytes kind n → form bytes ≡ fault kind n
fails_only bytes kind n (too_big all digits rest e h big) = ap form e ∙ number_too_big digits rest h big
fails_only bytes kind n (stuck all digits rest b e h small sticks) = ap form e ∙ number_stuck digits rest b h small sticks
fails_only bytes kind n (open_text all inner w rest e m h) = ap form e ∙ text_form inner w rest m ∙ line_ends rest (1 + length inner) w h
fails_only bytes kind n (not_in_text all inner w rest b e m h i j k) = ap form e ∙ text_form inner w (b ∷ rest) m ∙ bad_in_text b (1 + length inner) w rest h i j k
fails_only bytes kind n (no_escape all inner w rest e m h) = ap form e ∙ text_form inner w (92 ∷ rest) m ∙ bad_escape rest (1 + length inner) w h
fails_only bytes kind n (open_comment all rest e h) = ap form e ∙ comment_form rest h
fails_only bytes kind n (no_token b rest i j k l m) = nothing_taken b rest i j k l m

token_of : Form → Token → Token
token_of (blank n) u = u
token_of (token x n) u = x
token_of (fault kind n) u = u

pub one_token : (bytes : List ℕ) (u x : Token) → Spells u bytes → Spells x bytes → u ≡ x
unfolding token_of
one_token bytes u x h i =
    let same : token u (length bytes) ≡ token x (length bytes) = sym (form_taken u bytes [] h end) ∙ form_taken x bytes [] i end in
    ap (λ f. token_of f u) same

pub token_only : (bytes : List ℕ) (u : Token) (n : ℕ) → n ≤ length bytes → Spells u (take n bytes) → ((x : Token) (m : ℕ) → n < m → m ≤ length bytes → Spells x (take m bytes) → ⊥)
    → ((kind : LexKind) (k : ℕ) → Fails bytes kind k → ⊥) → form bytes ≡ token u n
token_only bytes u n within here no_longer no_fault = cases (form bytes) refl
  where
    same_place : (x : Token) (m : ℕ) → form bytes ≡ token x m → (m < n → ⊥) → (n < m → ⊥) → token x m ≡ token u n
    same_place x m e not_less not_more =
        let same : m ≡ n = omega arith in
        let spells_x : Spells x (take n bytes) = subst (λ (k : ℕ). Spells x (take k bytes)) same (spelled bytes x m e).0 in
        ap (token x) same ∙ ap (λ z. token z n) (one_token (take n bytes) x u spells_x here)

    cases : (f : Form) → form bytes ≡ f → form bytes ≡ token u n
    cases (blank m) e = absurd (no_token_at_blank bytes u m n e within here)
    cases (token x m) e =
        e ∙ same_place x m e (λ less. longest bytes x u m n e less within here) (λ more. no_longer x m more (spelled bytes x m e).1 (spelled bytes x m e).0)
    cases (fault kind k) e = absurd (no_fault kind k (fails bytes kind k e))
