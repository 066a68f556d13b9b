-- What is cut is a spelling, and each spelling is reached.
use Rattle.std.proofs.Common.{◌≡◌, ℕ, zero, suc, ◌+◌, ◌≤◌, ◌<◌, List, [], ◌∷◌, ◌++◌, length, take, drop, Bool, true, false, refl, sym, ap, ◌∙◌, subst, arith, inl, inr, append_assoc, length-append, length-take}
use Rattle.std.specs.Prelude.{◌==◌, ◌&&◌, nat_lt, if◌then◌else◌}
use Rattle.std.specs.List.{list_all}
use Rattle.std.proofs.lemmas.Bool.Decides.{nat_tests}
use Rattle.std.proofs.lemmas.List.{take-append-drop}
use Rattle.std.proofs.Math.Seq.{take-append_seam}
use Rattle.ms_syntax.specs.declared.token.Token.{Token}
use Rattle.ms_syntax.specs.declared.token.Token.TheVariants as t
use Rattle.ms_syntax.specs.declared.token.Symbol.{Symbol}
use Rattle.ms_syntax.specs.declared.token.LexKind.{LexKind}
use Rattle.ms_syntax.specs.declared.token.LexKind.TheVariants.{BadByte, OpenComment, BigNumber}
use Rattle.ms_syntax.specs.Form.{Form, blank, token, fault, form, word, word_of, keyword, number, number_of, max_number, sticks_to_number, text, comment, run, byte_at, is_letter, is_digit, is_name_byte, is_in_line}
use Rattle.ms_forms.specs.Spelling.{Spells, IsWord, IsDigits, IsNumber, Means, keyword_bytes}
use Rattle.ms_forms.proofs.Runs.{both, and_left, and_right, same_eqb, letter_name_byte, form_word, form_number, run_front, run_stop, run_some, run_within, run_all, run_begins}
use Rattle.ms_forms.proofs.Keywords.{keyword_found, keyword_word, keyword_none, word_spells}
use Rattle.ms_forms.proofs.Texts.{IsText, text_is, text_read}
use Rattle.ms_forms.proofs.Symbols.{IsSpelled, Reaches, choose_spelled, fault_spelled, blank_spelled, token_spelled, token_reaches, fault_reaches, symbol_spelled, symbol_reached, double_equal_reached, Gap, end, space, symbol_taken, double_equal_taken}

-- ---- words

word_is_spelled : (b : ℕ) (bs : List ℕ) → is_letter b ≡ true → IsSpelled (b ∷ bs) (word (b ∷ bs))
unfolding word IsSpelled
word_is_spelled b bs h =
    let name : is_name_byte b ≡ true = letter_name_byte b h in
    let taken = take (run is_name_byte (b ∷ bs)) (b ∷ bs) in
    let begins : taken ≡ b ∷ take (run is_name_byte bs) bs = run_begins is_name_byte b bs name in
    (word_spells taken (subst IsWord (sym begins) (h, run_all is_name_byte bs)), run_within is_name_byte (b ∷ bs))

word_all : (s : List ℕ) → IsWord s → list_all is_name_byte s ≡ true
word_all [] h = absurd h
word_all (b ∷ bs) h = both (is_name_byte b) (list_all is_name_byte bs) (letter_name_byte b h.0) h.1

word_form : (s r : List ℕ) → IsWord s → form (s ++ r) ≡ word (s ++ r)
word_form [] r h = absurd h
word_form (b ∷ bs) r h = form_word b (bs ++ r) h.0

word_reached : (u : Token) (s r : List ℕ) → IsWord s → Reaches u (length s) (form (s ++ r))
unfolding word
word_reached u s r h = subst (Reaches u (length s)) (sym (word_form s r h)) (token_reaches u _ _ _ (let front = run_front is_name_byte s r (word_all s h) in omega arith))

gap_byte : (p : ℕ → Bool) (r : List ℕ) → Gap r → p 0 ≡ false → p 32 ≡ false → p (byte_at r 0) ≡ false
gap_byte p r end h i = h
gap_byte p r (space q) h i = i

word_taken : (s r : List ℕ) → IsWord s → Gap r → form (s ++ r) ≡ token (word_of (keyword s) s) (length s)
unfolding word
word_taken s r h gap =
    let count : run is_name_byte (s ++ r) ≡ length s = (let front = run_front is_name_byte s r (word_all s h) in let stop = run_stop is_name_byte r (gap_byte is_name_byte r gap refl refl) in omega arith) in
    word_form s r h ∙ ap (λ n. token (word_of (keyword (take n (s ++ r))) (take n (s ++ r))) n) count ∙ ap (λ w. token (word_of (keyword w) w) (length s)) (take-append_seam s r)

-- ---- numbers

pub number_by : (bytes : List ℕ) (n v c : ℕ) → run is_digit bytes ≡ n → number_of (take n bytes) ≡ v → byte_at bytes n ≡ c
    → number bytes ≡ (if nat_lt max_number v then fault BigNumber 0 else (if sticks_to_number c then fault BadByte n else token (t.Number v) n))
unfolding number
number_by bytes n v c e f g =
    ap (λ m. if nat_lt max_number (number_of (take m bytes)) then fault BigNumber 0 else (if sticks_to_number (byte_at bytes m) then fault BadByte m else token (t.Number (number_of (take m bytes))) m)) e
    ∙ ap (λ w. if nat_lt max_number w then fault BigNumber 0 else (if sticks_to_number (byte_at bytes n) then fault BadByte n else token (t.Number w) n)) f
    ∙ ap (λ d. if nat_lt max_number v then fault BigNumber 0 else (if sticks_to_number d then fault BadByte n else token (t.Number v) n)) g

no_more : (v : ℕ) → nat_lt max_number v ≡ false → v ≤ max_number
no_more v h = grind (arith, nat_tests)

within_max : (v : ℕ) → v ≤ max_number → nat_lt max_number v ≡ false
within_max v h = grind (arith, nat_tests)

-- what sticks to a number is there
sticking : (bytes : List ℕ) (n : ℕ) → sticks_to_number (byte_at bytes n) ≡ true → n < length bytes
sticking [] n h = absurd (let wrong : false ≡ true = h in cc)
sticking (b ∷ bs) zero h = omega arith
sticking (b ∷ bs) (suc n) h = omega (arith, sticking bs n h)

number_is_spelled : (b : ℕ) (bs : List ℕ) → is_digit b ≡ true → IsSpelled (b ∷ bs) (number (b ∷ bs))
number_is_spelled b bs h =
    let n = run is_digit (b ∷ bs) in
    let taken = take n (b ∷ bs) in
    let begins : taken ≡ b ∷ take (run is_digit bs) bs = run_begins is_digit b bs h in
    let some : taken ≡ [] → ⊥ = λ e. (let wrong : b ∷ take (run is_digit bs) bs ≡ [] = sym begins ∙ e in cc) in
    subst (IsSpelled (b ∷ bs)) (sym (number_by (b ∷ bs) n (number_of taken) (byte_at (b ∷ bs) n) refl refl refl))
    (choose_spelled _ _ _ _ (λ _. fault_spelled _ _ _ (omega arith)) (λ small. choose_spelled _ _ _ _ (λ sticks. fault_spelled _ _ _ (sticking (b ∷ bs) n sticks))
    (λ _. token_spelled (b ∷ bs) (t.Number (number_of taken)) n ((some, run_all is_digit (b ∷ bs)), refl, no_more (number_of taken) small) (run_within is_digit (b ∷ bs)))))

pub digits_form : (s r : List ℕ) → IsDigits s → form (s ++ r) ≡ number (s ++ r)
digits_form [] r h = absurd (h.0 refl)
digits_form (b ∷ bs) r h = form_number b (bs ++ r) (and_left (is_digit b) (list_all is_digit bs) h.1)

any_number_reaches : (v m n w : ℕ) (big sticks : Bool) → m ≤ n → Reaches (t.Number v) m (if big then fault BigNumber 0 else (if sticks then fault BadByte n else token (t.Number w) n))
any_number_reaches v m n w true sticks h = fault_reaches v m BigNumber 0
any_number_reaches v m n w false true h = fault_reaches v m BadByte n
any_number_reaches v m n w false false h = token_reaches (t.Number v) (t.Number w) m n h

number_reached : (v : ℕ) (s r : List ℕ) → IsDigits s → Reaches (t.Number v) (length s) (form (s ++ r))
number_reached v s r h =
    let n = run is_digit (s ++ r) in
    let front = run_front is_digit s r h.1 in
    let within : length s ≤ n = omega arith in
    subst (Reaches (t.Number v) (length s)) (sym (digits_form s r h ∙ number_by (s ++ r) n (number_of (take n (s ++ r))) (byte_at (s ++ r) n) refl refl refl))
    (any_number_reaches v (length s) n (number_of (take n (s ++ r))) (nat_lt max_number (number_of (take n (s ++ r)))) (sticks_to_number (byte_at (s ++ r) n)) within)

pub byte_behind : (s r : List ℕ) → byte_at (s ++ r) (length s) ≡ byte_at r 0
byte_behind [] r = refl
byte_behind (b ∷ bs) r = byte_behind bs r

number_taken : (v : ℕ) (s r : List ℕ) → IsDigits s → number_of s ≡ v → v ≤ max_number → Gap r → form (s ++ r) ≡ token (t.Number v) (length s)
number_taken v s r h e small gap =
    let count : run is_digit (s ++ r) ≡ length s = (let front = run_front is_digit s r h.1 in let stop = run_stop is_digit r (gap_byte is_digit r gap refl refl) in omega arith) in
    let little : nat_lt max_number v ≡ false = within_max v small in
    let free : sticks_to_number (byte_at r 0) ≡ false = gap_byte sticks_to_number r gap refl refl in
    digits_form s r h ∙ number_by (s ++ r) (length s) v (byte_at r 0) count (ap number_of (take-append_seam s r) ∙ e) (byte_behind s r)
    ∙ ap (λ x. if x then fault BigNumber 0 else (if sticks_to_number (byte_at r 0) then fault BadByte (length s) else token (t.Number v) (length s))) little
    ∙ ap (λ x. if x then fault BadByte (length s) else token (t.Number v) (length s)) free

-- ---- texts

text_to_spelled : (bs : List ℕ) (f : Form) → IsText 1 [] bs f → IsSpelled (34 ∷ bs) f
unfolding IsSpelled
text_to_spelled bs (blank n) h = absurd h
text_to_spelled bs (token u n) (inner, w, r, e, m, same, len) =
    let whole : 34 ∷ bs ≡ (34 ∷ inner ++ 34 ∷ []) ++ r = ap (λ z. 34 ∷ z) (e ∙ sym (append_assoc inner (34 ∷ []) r)) in
    let size : length (34 ∷ inner ++ 34 ∷ []) ≡ n = omega (arith, len, length-append inner (34 ∷ [])) in
    let front : take n (34 ∷ bs) ≡ 34 ∷ inner ++ 34 ∷ [] = ap (λ k. take k (34 ∷ bs)) (sym size) ∙ ap (take (length (34 ∷ inner ++ 34 ∷ []))) whole ∙ take-append_seam (34 ∷ inner ++ 34 ∷ []) r in
    let long : length bs ≡ length inner + suc (length r) = ap length e ∙ length-append inner (34 ∷ r) in
    (subst (λ (x : Token). Spells x (take n (34 ∷ bs))) (sym same) (inner, front, m), omega (arith, len, long))
text_to_spelled bs (fault kind n) h = let within : n < 1 + length bs = h (omega arith) in omega arith

text_is_spelled : (bs : List ℕ) → IsSpelled (34 ∷ bs) (text false 1 [] bs)
text_is_spelled bs = text_to_spelled bs (text false 1 [] bs) (text_is false bs 1 [])

text_taken : (inner w r : List ℕ) → Means inner w → form ((34 ∷ inner ++ 34 ∷ []) ++ r) ≡ token (t.Text w) (length (34 ∷ inner ++ 34 ∷ []))
unfolding form
text_taken inner w r m =
    ap (text false 1 []) (append_assoc inner (34 ∷ []) r) ∙ text_read inner w m 1 [] r ∙ ap (token (t.Text w)) (omega (arith, length-append inner (34 ∷ [])))

-- ---- all together

comment_is_spelled : (all bs : List ℕ) (n : ℕ) → 0 < n → n + length bs ≤ length all → IsSpelled all (comment n bs)
unfolding comment
comment_is_spelled all [] n h i = fault_spelled all OpenComment 0 (omega arith)
comment_is_spelled all (b ∷ bs) n h i =
    choose_spelled all (b == 42 && byte_at bs 0 == 47) (blank (n + 2)) (comment (n + 1) bs)
    (λ e. blank_spelled all (n + 2) (omega arith) (some_more bs (and_right (b == 42) (byte_at bs 0 == 47) e) i))
    (λ _. comment_is_spelled all bs (n + 1) (omega arith) (omega (arith, i)))
  where
    some_more : (bs : List ℕ) → (byte_at bs 0 == 47) ≡ true → n + length (b ∷ bs) ≤ length all → n + 2 ≤ length all
    some_more [] e j = absurd (let wrong : false ≡ true = e in cc)
    some_more (c ∷ cs) e j = omega (arith, j)

comment_front : (b : ℕ) (bs : List ℕ) → (byte_at bs 0 == 42) ≡ true → IsSpelled (b ∷ bs) (comment 2 (drop 1 bs))
comment_front b [] e = absurd (let wrong : false ≡ true = e in cc)
comment_front b (c ∷ cs) e = comment_is_spelled (b ∷ c ∷ cs) cs 2 (omega arith) (omega arith)

line_is_spelled : (b : ℕ) (bs : List ℕ) → (b == 37) ≡ true → IsSpelled (b ∷ bs) (blank (run is_in_line (b ∷ bs)))
line_is_spelled b bs h =
    let inside : is_in_line b ≡ true = ap is_in_line (same_eqb b 37 h) in
    blank_spelled (b ∷ bs) _ (run_some is_in_line b bs inside) (run_within is_in_line (b ∷ bs))

pub form_spelled : (b : ℕ) (bs : List ℕ) → IsSpelled (b ∷ bs) (form (b ∷ bs))
unfolding form
form_spelled b bs =
    choose_spelled _ _ _ _ (λ _. blank_spelled (b ∷ bs) 1 (omega arith) (omega arith))
    (λ _. choose_spelled _ _ _ _ (λ h. line_is_spelled b bs h)
    (λ _. choose_spelled _ _ _ _ (λ h. word_is_spelled b bs h)
    (λ _. choose_spelled _ _ _ _ (λ h. number_is_spelled b bs h)
    (λ _. choose_spelled _ _ _ _ (λ h. subst (λ (z : ℕ). IsSpelled (z ∷ bs) (text false 1 [] bs)) (sym (same_eqb b 34 h)) (text_is_spelled bs))
    (λ _. choose_spelled _ _ _ _ (λ h. comment_front b bs (and_right (b == 47) (byte_at bs 0 == 42) h))
    (λ _. symbol_spelled b bs))))))

pub form_reached : (u : Token) (s r : List ℕ) → Spells u s → Reaches u (length s) (form (s ++ r))
form_reached (t.Name w) s r h = word_reached (t.Name w) s r (subst IsWord (sym h.0) h.1.0)
form_reached (t.Text w) s r (inner, e, m) =
    subst (λ (z : List ℕ). Reaches (t.Text w) (length z) (form (z ++ r))) (sym e)
    (subst (Reaches (t.Text w) (length (34 ∷ inner ++ 34 ∷ []))) (sym (text_taken inner w r m)) (token_reaches _ _ _ _ (omega arith)))
form_reached (t.Number v) s r h = number_reached v s r h.0
form_reached (t.Keyword x) s r h = subst (λ (z : List ℕ). Reaches (t.Keyword x) (length z) (form (z ++ r))) (sym h) (word_reached (t.Keyword x) (keyword_bytes x) r (keyword_word x))
form_reached (t.Symbol x) s r (inl e) = subst (λ (z : List ℕ). Reaches (t.Symbol x) (length z) (form (z ++ r))) (sym e) (symbol_reached x r)
form_reached (t.Symbol x) s r (inr e) =
    subst (λ (z : List ℕ). Reaches (t.Symbol x) (length z) (form (z ++ r))) (sym e.1) (subst (λ (y : Symbol). Reaches (t.Symbol y) 2 (form (61 ∷ 61 ∷ r))) (sym e.0) (double_equal_reached r))

pub form_taken : (u : Token) (s r : List ℕ) → Spells u s → Gap r → form (s ++ r) ≡ token u (length s)
form_taken (t.Name w) s r h gap =
    word_taken s r (subst IsWord (sym h.0) h.1.0) gap ∙ ap (λ z. token (word_of (keyword z) z) (length s)) h.0 ∙ ap (λ o. token (word_of o w) (length s)) (keyword_none w h.1.1)
form_taken (t.Text w) s r (inner, e, m) gap = subst (λ (z : List ℕ). form (z ++ r) ≡ token (t.Text w) (length z)) (sym e) (text_taken inner w r m)
form_taken (t.Number v) s r h gap = number_taken v s r h.0 h.1 h.2 gap
form_taken (t.Keyword x) s r h gap =
    subst (λ (z : List ℕ). form (z ++ r) ≡ token (t.Keyword x) (length z)) (sym h)
    (word_taken (keyword_bytes x) r (keyword_word x) gap ∙ ap (λ o. token (word_of o (keyword_bytes x)) (length (keyword_bytes x))) (keyword_found x))
form_taken (t.Symbol x) s r (inl e) gap = subst (λ (z : List ℕ). form (z ++ r) ≡ token (t.Symbol x) (length z)) (sym e) (symbol_taken x r gap)
form_taken (t.Symbol x) s r (inr e) gap =
    subst (λ (z : List ℕ). form (z ++ r) ≡ token (t.Symbol x) (length z)) (sym e.1) (double_equal_taken r gap ∙ ap (λ y. token (t.Symbol y) 2) (sym e.0))

-- ---- laws

pub spelled : (bytes : List ℕ) (u : Token) (n : ℕ) → form bytes ≡ token u n → Spells u (take n bytes) × (n ≤ length bytes)
unfolding form IsSpelled
spelled [] u n h = absurd (let wrong : blank 0 ≡ token u n = h in cc)
spelled (b ∷ bs) u n h = subst (IsSpelled (b ∷ bs)) h (form_spelled b bs)

reached_at : (bytes : List ℕ) (u : Token) (m : ℕ) (f : Form) → form bytes ≡ f → m ≤ length bytes → Spells u (take m bytes) → Reaches u m f
reached_at bytes u m f e h i =
    let size : length (take m bytes) ≡ m = omega (arith, length-take m bytes) in
    subst (Reaches u m) (ap form (take-append-drop m bytes) ∙ e) (subst (λ (k : ℕ). Reaches u k (form (take m bytes ++ drop m bytes))) size (form_reached u (take m bytes) (drop m bytes) i))

pub longest : (bytes : List ℕ) (u x : Token) (n m : ℕ) → form bytes ≡ token u n → n < m → m ≤ length bytes → Spells x (take m bytes) → ⊥
unfolding Reaches
longest bytes u x n m e h i j = let reach : m ≤ n = reached_at bytes x m (token u n) e i j in absurd (omega arith)

pub no_token_at_blank : (bytes : List ℕ) (x : Token) (n m : ℕ) → form bytes ≡ blank n → m ≤ length bytes → Spells x (take m bytes) → ⊥
unfolding Reaches
no_token_at_blank bytes x n m e i j = reached_at bytes x m (blank n) e i j

pub no_token_at_fault : (bytes : List ℕ) (x : Token) (kind : LexKind) (n m : ℕ) → form bytes ≡ fault kind n → m ≤ length bytes → Spells x (take m bytes) → IsNumber x
unfolding Reaches
no_token_at_fault bytes x kind n m e i j = reached_at bytes x m (fault kind n) e i j

pub spells_some : (u : Token) (s : List ℕ) → Spells u s → 0 < length s
unfolding form
spells_some u [] h = absurd (let wrong : blank 0 ≡ token u 0 = form_taken u [] [] h end in cc)
spells_some u (b ∷ bs) h = omega arith

pub fault_among : (bytes : List ℕ) (kind : LexKind) (n : ℕ) → form bytes ≡ fault kind n → n < length bytes
unfolding form IsSpelled
fault_among [] kind n h = absurd (let wrong : blank 0 ≡ fault kind n = h in cc)
fault_among (b ∷ bs) kind n h = subst (IsSpelled (b ∷ bs)) h (form_spelled b bs)
