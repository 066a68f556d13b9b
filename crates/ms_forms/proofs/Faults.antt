-- Where nothing is taken, what stands there is what the rule of its kind says.
use Rattle.std.proofs.Common.{◌≡◌, ◌≢◌, ℕ, zero, suc, ◌+◌, ◌≤◌, ◌<◌, List, [], ◌∷◌, ◌++◌, length, take, drop, Option, Some, None, Bool, true, false, refl, sym, ap, ◌∙◌, subst, arith, inl, inr, append_assoc, length-append}
use Rattle.std.specs.Prelude.{◌==◌, ◌&&◌, nat_lt, if◌then◌else◌}
use Rattle.std.specs.List.{list_all}
use Rattle.std.proofs.lemmas.Bool.Decides.{eqb_tells, nat_tests}
use Rattle.std.proofs.lemmas.List.{take-append-drop}
use Rattle.ms_syntax.specs.declared.token.Token.{Token}
use Rattle.ms_syntax.specs.declared.token.Token.TheVariants as t
use Rattle.ms_syntax.specs.declared.token.Symbol.TheVariants as s
use Rattle.ms_syntax.specs.declared.token.LexKind.{LexKind}
use Rattle.ms_syntax.specs.declared.token.LexKind.TheVariants.{BadByte, OpenText, OpenComment, BigNumber}
use Rattle.ms_syntax.specs.Form.{Form, blank, token, fault, form, word, word_of, keyword, number, number_of, max_number, sticks_to_number, text, comment, symbol, run, byte_at, is_white, is_letter, is_digit, is_plain, escape, with_some, is_name_byte, is_in_line}
use Rattle.ms_forms.specs.Spelling.{Spells, IsDigits, IsNumber, Means, nothing, itself, escaped}
use Rattle.ms_forms.specs.Blank.{HoldsNoClose}
use Rattle.ms_forms.specs.Failing.{Fails, too_big, stuck, open_text, not_in_text, no_escape, open_comment, no_token}
use Rattle.ms_forms.proofs.Runs.{both, and_left, and_right, same_eqb, run_begins, run_all}
use Rattle.ms_forms.proofs.Spelled.{number_by, no_token_at_fault}

-- a fault of the form is one that the bytes fail by
IsFailing : List ℕ → Form → Type 0
IsFailing bytes (blank n) = Unit {0}
IsFailing bytes (token u n) = Unit {0}
IsFailing bytes (fault kind n) = Fails bytes kind n

choose : (all : List ℕ) (b : Bool) (f g : Form) → (b ≡ true → IsFailing all f) → (b ≡ false → IsFailing all g) → IsFailing all (if b then f else g)
choose all true f g h i = h refl
choose all false f g h i = i refl

not_same : (a b : ℕ) → (a == b) ≡ false → a ≢ b
not_same a b h e = elim (eqb_tells a b) as (λ _. ⊥) [ inl k ↦ (let wrong : true ≡ false = sym k.0 ∙ h in cc) | inr k ↦ k.1 e ]

-- ---- numbers

more_than : (v : ℕ) → nat_lt max_number v ≡ true → max_number < v
more_than v h = grind (arith, nat_tests)

no_more : (v : ℕ) → nat_lt max_number v ≡ false → v ≤ max_number
no_more v h = grind (arith, nat_tests)

-- what sticks behind n bytes begins what is left
stuck_at : (bytes : List ℕ) (n : ℕ) → sticks_to_number (byte_at bytes n) ≡ true → (b : ℕ) × (rest : List ℕ) × (bytes ≡ take n bytes ++ b ∷ rest) × (sticks_to_number b ≡ true) × (length (take n bytes) ≡ n)
stuck_at [] n h = absurd (let wrong : false ≡ true = h in cc)
stuck_at (b ∷ bs) zero h = (b, bs, refl, h, refl)
stuck_at (b ∷ bs) (suc n) h = let (c, rest, e, k, l) = stuck_at bs n h in (c, rest, ap (λ z. b ∷ z) e, k, ap suc l)

number_fails : (b : ℕ) (bs : List ℕ) → is_digit b ≡ true → IsFailing (b ∷ bs) (number (b ∷ bs))
unfolding IsFailing
number_fails b bs h =
    let bytes = b ∷ bs in
    let n = run is_digit bytes in
    let digits = take n bytes in
    let begins : digits ≡ b ∷ take (run is_digit bs) bs = run_begins is_digit b bs h in
    let some : digits ≡ [] → ⊥ = λ e. (let wrong : b ∷ take (run is_digit bs) bs ≡ [] = sym begins ∙ e in cc) in
    let all : IsDigits digits = (some, run_all is_digit bytes) in
    subst (IsFailing bytes) (sym (number_by bytes n (number_of digits) (byte_at bytes n) refl refl refl))
    (choose bytes (nat_lt max_number (number_of digits)) (fault BigNumber 0) (if sticks_to_number (byte_at bytes n) then fault BadByte n else token (t.Number (number_of digits)) n)
    (λ big. too_big bytes digits (drop n bytes) (sym (take-append-drop n bytes)) all (more_than (number_of digits) big))
    (λ small. choose bytes (sticks_to_number (byte_at bytes n)) (fault BadByte n) (token (t.Number (number_of digits)) n)
    (λ sticks. let (c, rest, e, k, l) = stuck_at bytes n sticks in subst (Fails bytes BadByte) l (stuck bytes digits rest c e all (no_more (number_of digits) small) k))
    (λ _. tt)))

-- ---- texts

-- bytes that mean w, and then more
means_more : (inner w v x : List ℕ) → Means inner w → Means v x → Means (inner ++ v) (w ++ x)
means_more inner w v x nothing m = m
means_more inner w v x (itself b bs u p k) m = itself b (bs ++ v) (u ++ x) p (means_more bs u v x k m)
means_more inner w v x (escaped e c bs u p k) m = escaped e c (bs ++ v) (u ++ x) p (means_more bs u v x k m)

-- the faults of a text, of which `inner` came before
abbrev behind : Bool → List ℕ → List ℕ
behind true bs = 92 ∷ bs
behind false bs = bs

text_fails : (flag : Bool) (bs all inner w value : List ℕ) (n : ℕ) → all ≡ 34 ∷ inner ++ behind flag bs → Means inner w → n ≡ 1 + length inner → IsFailing all (text flag n value bs)
unfolding text IsFailing
text_fails true [] all inner w value n e m k = subst (Fails all BadByte) (sym k) (no_escape all inner w [] e m tt)
text_fails true (x ∷ bs) all inner w value n e m k = after (escape x) refl (λ c p. text_fails false bs all (inner ++ 92 ∷ x ∷ []) (w ++ c ∷ []) (value ++ c ∷ []) (n + 2)
    (e ∙ ap (λ z. 34 ∷ z) (sym (append_assoc inner (92 ∷ x ∷ []) bs))) (means_more inner w (92 ∷ x ∷ []) (c ∷ []) m (escaped x c [] [] p nothing)) (omega (arith, k, length-append inner (92 ∷ x ∷ []))))
  where
    after : (o : Option ℕ) → escape x ≡ o → ((c : ℕ) → escape x ≡ Some c → IsFailing all (text false (n + 2) (value ++ c ∷ []) bs)) → IsFailing all (with_some o (λ c. text false (n + 2) (value ++ c ∷ []) bs) (fault BadByte n))
    after None p go = subst (Fails all BadByte) (sym k) (no_escape all inner w (x ∷ bs) e m p)
    after (Some c) p go = go c p
text_fails false [] all inner w value n e m k = open_text all inner w [] e m tt
text_fails false (b ∷ bs) all inner w value n e m k =
    choose all (b == 34) (token (t.Text value) (n + 1)) _ (λ _. tt)
    (λ quote. choose all (b == 10) (fault OpenText 0) _ (λ feed. open_text all inner w (b ∷ bs) e m (same_eqb b 10 feed))
    (λ feed. choose all (b == 92) (text true n value bs) _
    (λ slash. text_fails true bs all inner w value n (e ∙ ap (λ z. 34 ∷ inner ++ z ∷ bs) (same_eqb b 92 slash)) m k)
    (λ slash. choose all (is_plain b) (text false (n + 1) (value ++ b ∷ []) bs) (fault BadByte n)
    (λ plain. text_fails false bs all (inner ++ b ∷ []) (w ++ b ∷ []) (value ++ b ∷ []) (n + 1)
    (e ∙ ap (λ z. 34 ∷ z) (sym (append_assoc inner (b ∷ []) bs))) (means_more inner w (b ∷ []) (b ∷ []) m (itself b [] [] plain nothing)) (omega (arith, k, length-append inner (b ∷ []))))
    (λ plain. subst (Fails all BadByte) (sym k) (not_in_text all inner w bs b e m plain (not_same b 34 quote) (not_same b 10 feed) (not_same b 92 slash))))))

-- ---- comments

pub close_free : (b : ℕ) (bs : List ℕ) → (b == 42 && byte_at bs 0 == 47) ≡ false → HoldsNoClose bs → HoldsNoClose (b ∷ bs)
close_free b bs h i zero star slash = (let wrong : true ≡ false = sym (both (b == 42) (byte_at bs 0 == 47) (ap (λ z. z == 42) star) (ap (λ z. z == 47) slash)) ∙ h in cc)
close_free b bs h i (suc k) star slash = let next : suc (k + 1) ≡ suc k + 1 = omega arith in i k star (ap (byte_at (b ∷ bs)) next ∙ slash)

kind_of : Form → LexKind
kind_of (fault x n) = x
kind_of (blank n) = BadByte
kind_of (token t n) = BadByte

offset_of : Form → ℕ
offset_of (fault x n) = n
offset_of (blank n) = 0
offset_of (token t n) = 0

same_kind : (a b : LexKind) (n m : ℕ) → fault a n ≡ fault b m → a ≡ b
unfolding kind_of
same_kind a b n m h = ap kind_of h

same_offset : (a b : LexKind) (n m : ℕ) → fault a n ≡ fault b m → n ≡ m
unfolding offset_of
same_offset a b n m h = ap offset_of h

nothing_at : (k : ℕ) → byte_at [] k ≡ 0
nothing_at zero = refl
nothing_at (suc k) = refl

pub nothing_held : HoldsNoClose []
nothing_held k star slash = (let wrong : zero ≡ 42 = sym (nothing_at k) ∙ star in cc)

IsOpen : List ℕ → LexKind → ℕ → Type 0
IsOpen bs kind m = HoldsNoClose bs × (kind ≡ OpenComment) × (m ≡ 0)

comment_open : (bs : List ℕ) (n : ℕ) (kind : LexKind) (m : ℕ) → comment n bs ≡ fault kind m → IsOpen bs kind m
unfolding comment IsOpen
comment_open [] n kind m h = (nothing_held, sym (same_kind OpenComment kind 0 m h), sym (same_offset OpenComment kind 0 m h))
comment_open (b ∷ bs) n kind m h = cases (b == 42 && byte_at bs 0 == 47) refl h (comment_open bs (n + 1) kind m)
  where
    cases : (x : Bool) → (b == 42 && byte_at bs 0 == 47) ≡ x → (if x then blank (n + 2) else comment (n + 1) bs) ≡ fault kind m → (comment (n + 1) bs ≡ fault kind m → IsOpen bs kind m) → IsOpen (b ∷ bs) kind m
    cases true e i go = absurd (let wrong : blank (n + 2) ≡ fault kind m = i in cc)
    cases false e i go = let rest = go i in (close_free b bs e rest.0, rest.1, rest.2)

comment_fails : (b : ℕ) (bs : List ℕ) (kind : LexKind) (n : ℕ) → (b == 47 && byte_at bs 0 == 42) ≡ true → comment 2 (drop 1 bs) ≡ fault kind n → Fails (b ∷ bs) kind n
unfolding IsOpen
comment_fails b [] kind n h i = absurd (let wrong : false ≡ true = and_right (b == 47) false h in cc)
comment_fails b (c ∷ cs) kind n h i =
    let is_open = comment_open cs 2 kind n i in
    let whole : b ∷ c ∷ cs ≡ 47 ∷ 42 ∷ cs = ap (λ z. z ∷ c ∷ cs) (same_eqb b 47 (and_left (b == 47) (c == 42) h)) ∙ ap (λ z. 47 ∷ z ∷ cs) (same_eqb c 42 (and_right (b == 47) (c == 42) h)) in
    subst (λ (x : LexKind). Fails (b ∷ c ∷ cs) x n) (sym is_open.1) (subst (λ (m : ℕ). Fails (b ∷ c ∷ cs) OpenComment m) (sym is_open.2) (open_comment (b ∷ c ∷ cs) cs whole is_open.0))

-- ---- symbols

IsBad : Form → Type 0
IsBad (blank n) = ⊥
IsBad (token u n) = Unit {0}
IsBad (fault kind n) = (kind ≡ BadByte) × (n ≡ 0)

choose_bad : (b : Bool) (f g : Form) → (b ≡ true → IsBad f) → (b ≡ false → IsBad g) → IsBad (if b then f else g)
choose_bad true f g h i = h refl
choose_bad false f g h i = i refl

token_bad : (u : Token) (n : ℕ) → IsBad (token u n)
unfolding IsBad
token_bad u n = tt

fault_bad : IsBad (fault BadByte 0)
unfolding IsBad
fault_bad = (refl, refl)

symbol_bad : (b c d : ℕ) → IsBad (symbol b c d)
symbol_bad b c d =
    choose_bad (b == 60) _ _ (λ _. choose_bad (c == 45) _ _ (λ _. choose_bad (d == 62) _ _ (λ _. token_bad (t.Symbol s.DoubleArrow) 3) (λ _. token_bad (t.Symbol s.LeftArrow) 2)) (λ _. choose_bad (c == 61) _ _ (λ _. token_bad (t.Symbol s.AtMost) 2) (λ _. token_bad (t.Symbol s.Less) 1)))
    (λ _. choose_bad (b == 45) _ _ (λ _. choose_bad (c == 62) _ _ (λ _. token_bad (t.Symbol s.RightArrow) 2) (λ _. token_bad (t.Symbol s.Minus) 1))
    (λ _. choose_bad (b == 62) _ _ (λ _. choose_bad (c == 61) _ _ (λ _. token_bad (t.Symbol s.AtLeast) 2) (λ _. token_bad (t.Symbol s.Greater) 1))
    (λ _. choose_bad (b == 61) _ _ (λ _. choose_bad (c == 61) _ _ (λ _. token_bad (t.Symbol s.Equal) 2) (λ _. token_bad (t.Symbol s.Equal) 1))
    (λ _. choose_bad (b == 33) _ _ (λ _. choose_bad (c == 61) _ _ (λ _. token_bad (t.Symbol s.NotEqual) 2) (λ _. fault_bad))
    (λ _. choose_bad (b == 92) _ _ (λ _. choose_bad (c == 47) _ _ (λ _. token_bad (t.Symbol s.Or) 2) (λ _. fault_bad))
    (λ _. choose_bad (b == 47) _ _ (λ _. choose_bad (c == 92) _ _ (λ _. token_bad (t.Symbol s.And) 2) (λ _. fault_bad))
    (λ _. choose_bad (b == 46) _ _ (λ _. choose_bad (c == 46) _ _ (λ _. token_bad (t.Symbol s.DotDot) 2) (λ _. fault_bad))
    (λ _. choose_bad (b == 43) _ _ (λ _. choose_bad (c == 43) _ _ (λ _. token_bad (t.Symbol s.PlusPlus) 2) (λ _. token_bad (t.Symbol s.Plus) 1))
    (λ _. choose_bad (b == 58) _ _ (λ _. choose_bad (c == 58) _ _ (λ _. token_bad (t.Symbol s.ColonColon) 2) (λ _. token_bad (t.Symbol s.Colon) 1))
    (λ _. choose_bad (b == 91) _ _ (λ _. choose_bad (c == 124) _ _ (λ _. token_bad (t.Symbol s.OpenRows) 2) (λ _. token_bad (t.Symbol s.OpenBracket) 1))
    (λ _. choose_bad (b == 124) _ _ (λ _. choose_bad (c == 93) _ _ (λ _. token_bad (t.Symbol s.CloseRows) 2) (λ _. token_bad (t.Symbol s.Bar) 1))
    (λ _. choose_bad (b == 42) _ _ (λ _. token_bad (t.Symbol s.Star) 1)
    (λ _. choose_bad (b == 40) _ _ (λ _. token_bad (t.Symbol s.OpenParenthesis) 1)
    (λ _. choose_bad (b == 41) _ _ (λ _. token_bad (t.Symbol s.CloseParenthesis) 1)
    (λ _. choose_bad (b == 93) _ _ (λ _. token_bad (t.Symbol s.CloseBracket) 1)
    (λ _. choose_bad (b == 123) _ _ (λ _. token_bad (t.Symbol s.OpenBrace) 1)
    (λ _. choose_bad (b == 125) _ _ (λ _. token_bad (t.Symbol s.CloseBrace) 1)
    (λ _. choose_bad (b == 44) _ _ (λ _. token_bad (t.Symbol s.Comma) 1)
    (λ _. choose_bad (b == 59) _ _ (λ _. token_bad (t.Symbol s.Semicolon) 1)
    (λ _. fault_bad))))))))))))))))))))

symbol_fault : (b c d : ℕ) (kind : LexKind) (n : ℕ) → symbol b c d ≡ fault kind n → (kind ≡ BadByte) × (n ≡ 0)
unfolding IsBad
symbol_fault b c d kind n h = subst IsBad h (symbol_bad b c d)

pub symbol_no_blank : (b c d n : ℕ) → symbol b c d ≡ blank n → ⊥
unfolding IsBad
symbol_no_blank b c d n h = subst IsBad h (symbol_bad b c d)

no_comment : (b : ℕ) (bs : List ℕ) → (b == 47 && byte_at bs 0 == 42) ≡ false → b ≡ 47 → byte_at bs 0 ≢ 42
no_comment b bs h slash star = (let wrong : true ≡ false = sym (both (b == 47) (byte_at bs 0 == 42) (ap (λ z. z == 47) slash) (ap (λ z. z == 42) star)) ∙ h in cc)

-- ---- all together

no_number : (b : ℕ) (bs : List ℕ) (v m : ℕ) → is_digit b ≡ false → Spells (t.Number v) (take m (b ∷ bs)) → ⊥
no_number b bs v zero h i = i.0.0 refl
no_number b bs v (suc m) h i = (let wrong : true ≡ false = sym (and_left (is_digit b) (list_all is_digit (take m bs)) i.0.1) ∙ h in cc)

nothing_spelled : (b : ℕ) (bs : List ℕ) (x : Token) (m : ℕ) → is_digit b ≡ false → IsNumber x → Spells x (take m (b ∷ bs)) → ⊥
nothing_spelled b bs (t.Number v) m h n i = no_number b bs v m h i
nothing_spelled b bs (t.Name w) m h n i = n
nothing_spelled b bs (t.Text w) m h n i = n
nothing_spelled b bs (t.Keyword k) m h n i = n
nothing_spelled b bs (t.Symbol s) m h n i = n

by_first : (b : ℕ) (bs : List ℕ) (kind : LexKind) (n : ℕ) → form (b ∷ bs) ≡ fault kind n → (w p l d q c : Bool)
    → is_white b ≡ w → (b == 37) ≡ p → is_letter b ≡ l → is_digit b ≡ d → (b == 34) ≡ q → (b == 47 && byte_at bs 0 == 42) ≡ c
    → (if w then blank 1 else (if p then blank (run is_in_line (b ∷ bs)) else (if l then word (b ∷ bs) else (if d then number (b ∷ bs) else (if q then text false 1 [] bs else (if c then comment 2 (drop 1 bs) else symbol b (byte_at bs 0) (byte_at bs 1))))))) ≡ fault kind n
    → Fails (b ∷ bs) kind n
unfolding word IsFailing
by_first b bs kind n e true p l d q c ew ep el ed eq ec h = absurd (let wrong : blank 1 ≡ fault kind n = h in cc)
by_first b bs kind n e false true l d q c ew ep el ed eq ec h = absurd (let wrong : blank (run is_in_line (b ∷ bs)) ≡ fault kind n = h in cc)
by_first b bs kind n e false false true d q c ew ep el ed eq ec h =
    let name = take (run is_name_byte (b ∷ bs)) (b ∷ bs) in
    absurd (let wrong : token (word_of (keyword name) name) (run is_name_byte (b ∷ bs)) ≡ fault kind n = h in cc)
by_first b bs kind n e false false false true q c ew ep el ed eq ec h = subst (IsFailing (b ∷ bs)) h (number_fails b bs ed)
by_first b bs kind n e false false false false true c ew ep el ed eq ec h = subst (IsFailing (b ∷ bs)) h (text_fails false bs (b ∷ bs) [] [] [] 1 (ap (λ z. z ∷ bs) (same_eqb b 34 eq)) nothing refl)
by_first b bs kind n e false false false false false true ew ep el ed eq ec h = comment_fails b bs kind n ec h
by_first b bs kind n e false false false false false false ew ep el ed eq ec h =
    let bad = symbol_fault b (byte_at bs 0) (byte_at bs 1) kind n h in
    subst (λ (x : LexKind). Fails (b ∷ bs) x n) (sym bad.0) (subst (λ (m : ℕ). Fails (b ∷ bs) BadByte m) (sym bad.1)
    (no_token b bs ew (not_same b 37 ep) (not_same b 34 eq) (no_comment b bs ec) (λ x m i j. nothing_spelled b bs x m ed (no_token_at_fault (b ∷ bs) x kind n m e i j) j)))

pub fails : (bytes : List ℕ) (kind : LexKind) (n : ℕ) → form bytes ≡ fault kind n → Fails bytes kind n
unfolding form
fails [] kind n h = absurd (let wrong : blank 0 ≡ fault kind n = h in cc)
fails (b ∷ bs) kind n h = by_first b bs kind n h (is_white b) (b == 37) (is_letter b) (is_digit b) (b == 34) (b == 47 && byte_at bs 0 == 42) refl refl refl refl refl refl h
