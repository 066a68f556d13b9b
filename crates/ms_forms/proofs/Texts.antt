-- Texts and what is between their quotes.
use Rattle.std.proofs.Common.{◌≡◌, ℕ, ◌+◌, ◌<◌, List, [], ◌∷◌, ◌++◌, length, Option, Some, None, Bool, true, false, refl, sym, ap, ◌∙◌, subst, arith, append_assoc}
use Rattle.std.specs.Prelude.{◌==◌, if◌then◌else◌}
use Rattle.std.proofs.lemmas.Bool.Decides.{nat_tests}
use Rattle.std.proofs.lemmas.List.{append-nil}
use Rattle.ms_syntax.specs.declared.token.Token.TheVariants as t
use Rattle.ms_syntax.specs.declared.token.LexKind.TheVariants.{BadByte}
use Rattle.ms_syntax.specs.Form.{Form, blank, token, fault, text, escape, is_plain, with_some}
use Rattle.ms_forms.specs.Spelling.{Means, nothing, itself, escaped}
use Rattle.ms_forms.proofs.Runs.{same_eqb}

plain_no_quote : (b : ℕ) → is_plain b ≡ true → (b == 34) ≡ false
plain_no_quote b h = grind (arith, nat_tests)

plain_no_feed : (b : ℕ) → is_plain b ≡ true → (b == 10) ≡ false
plain_no_feed b h = grind (arith, nat_tests)

plain_no_backslash : (b : ℕ) → is_plain b ≡ true → (b == 92) ≡ false
plain_no_backslash b h = grind (arith, nat_tests)

passes : {X : Type 0} (q f k p : Bool) (a b c d e : X) → q ≡ false → f ≡ false → k ≡ false → p ≡ true → (if q then a else (if f then b else (if k then c else (if p then d else e)))) ≡ d
passes q f k p a b c d e i j l m = rw (i, j, l, m) refl

plain_step : (b n : ℕ) (value bs : List ℕ) → is_plain b ≡ true → text false n value (b ∷ bs) ≡ text false (n + 1) (value ++ b ∷ []) bs
unfolding text
plain_step b n value bs p = passes (b == 34) (b == 10) (b == 92) (is_plain b) _ _ _ _ _ (plain_no_quote b p) (plain_no_feed b p) (plain_no_backslash b p) p

escape_step : (e c n : ℕ) (value bs : List ℕ) → escape e ≡ Some c → text false n value (92 ∷ e ∷ bs) ≡ text false (n + 2) (value ++ c ∷ []) bs
unfolding text
escape_step e c n value bs p = ap (λ o. with_some o (λ z. text false (n + 2) (value ++ z ∷ []) bs) (fault BadByte n)) p

-- bytes of a text are read as what they mean
pub text_goes : (inner w : List ℕ) → Means inner w → (n : ℕ) (value r : List ℕ) → text false n value (inner ++ r) ≡ text false (n + length inner) (value ++ w) r
text_goes inner w nothing n value r = ap (λ v. text false n v r) (sym (append-nil value)) ∙ ap (λ k. text false k (value ++ []) r) (omega arith)
text_goes inner w (itself b bs v p m) n value r =
    plain_step b n value (bs ++ r) p
    ∙ text_goes bs v m (n + 1) (value ++ b ∷ []) r ∙ ap (λ z. text false (n + 1 + length bs) z r) (append_assoc value (b ∷ []) v) ∙ ap (λ k. text false k (value ++ b ∷ v) r) (omega arith)
text_goes inner w (escaped e c bs v p m) n value r =
    escape_step e c n value (bs ++ r) p
    ∙ text_goes bs v m (n + 2) (value ++ c ∷ []) r ∙ ap (λ z. text false (n + 2 + length bs) z r) (append_assoc value (c ∷ []) v) ∙ ap (λ k. text false k (value ++ c ∷ v) r) (omega arith)

-- a text up to its closing quote is read as what it means
pub text_read : (inner w : List ℕ) → Means inner w → (n : ℕ) (value r : List ℕ) → text false n value (inner ++ 34 ∷ r) ≡ token (t.Text (value ++ w)) (n + length inner + 1)
unfolding text
text_read inner w m n value r = text_goes inner w m n value (34 ∷ r)

-- what is read as a text, of which n bytes that mean `value` came before, stands up to a closing quote
abbrev pub IsText : ℕ → List ℕ → List ℕ → Form → Type 0
IsText n value bs (blank m) = ⊥
IsText n value bs (token u m) = (inner : List ℕ) × (w : List ℕ) × (r : List ℕ) × (bs ≡ inner ++ 34 ∷ r) × Means inner w × (u ≡ t.Text (value ++ w)) × (m ≡ n + length inner + 1)
IsText n value bs (fault kind m) = 0 < n → m < n + length bs

one_more : (f : Form) (n b : ℕ) (value bs : List ℕ) → is_plain b ≡ true → IsText (n + 1) (value ++ b ∷ []) bs f → IsText n value (b ∷ bs) f
one_more (blank m) n b value bs p h = h
one_more (token u m) n b value bs p (inner, w, r, e, s, same, len) =
    (b ∷ inner, b ∷ w, r, ap (λ z. b ∷ z) e, itself b inner w p s, same ∙ ap t.Text (append_assoc value (b ∷ []) w), omega (arith, len))
one_more (fault kind m) n b value bs p h = λ some. omega (arith, h (omega arith))

escape_more : (f : Form) (n e c : ℕ) (value bs : List ℕ) → escape e ≡ Some c → IsText (n + 2) (value ++ c ∷ []) bs f → IsText n value (92 ∷ e ∷ bs) f
escape_more (blank m) n e c value bs p h = h
escape_more (token u m) n e c value bs p (inner, w, r, q, s, same, len) =
    (92 ∷ e ∷ inner, c ∷ w, r, ap (λ z. 92 ∷ e ∷ z) q, escaped e c inner w p s, same ∙ ap t.Text (append_assoc value (c ∷ []) w), omega (arith, len))
escape_more (fault kind m) n e c value bs p h = λ some. omega (arith, h (omega arith))

-- with the backslash that has been read
abbrev behind : Bool → List ℕ → List ℕ
behind true bs = 92 ∷ bs
behind false bs = bs

after_escape : (e n : ℕ) (value bs : List ℕ) (o : Option ℕ) → escape e ≡ o → ((c : ℕ) → IsText (n + 2) (value ++ c ∷ []) bs (text false (n + 2) (value ++ c ∷ []) bs))
    → IsText n value (92 ∷ e ∷ bs) (with_some o (λ c. text false (n + 2) (value ++ c ∷ []) bs) (fault BadByte n))
after_escape e n value bs None h rest = λ some. omega arith
after_escape e n value bs (Some c) h rest = escape_more (text false (n + 2) (value ++ c ∷ []) bs) n e c value bs h (rest c)

choices : (P : Form → Type 0) (q f k p : Bool) (a b c d e : Form) → (q ≡ true → P a) → P b → (k ≡ true → P c) → (p ≡ true → P d) → P e → P (if q then a else (if f then b else (if k then c else (if p then d else e))))
choices P true f k p a b c d e i j l m o = i refl
choices P false true k p a b c d e i j l m o = j
choices P false false true p a b c d e i j l m o = l refl
choices P false false false true a b c d e i j l m o = m refl
choices P false false false false a b c d e i j l m o = o

pub text_is : (flag : Bool) (bs : List ℕ) (n : ℕ) (value : List ℕ) → IsText n value (behind flag bs) (text flag n value bs)
unfolding text
text_is true [] n value = λ some. omega arith
text_is true (e ∷ bs) n value = after_escape e n value bs (escape e) refl (λ c. text_is false bs (n + 2) (value ++ c ∷ []))
text_is false [] n value = λ some. omega arith
text_is false (b ∷ bs) n value =
    choices (IsText n value (b ∷ bs)) (b == 34) (b == 10) (b == 92) (is_plain b) _ _ _ _ _
    (λ h. ([], [], bs, ap (λ z. z ∷ bs) (same_eqb b 34 h), nothing, ap t.Text (sym (append-nil value)), omega arith))
    (λ some. omega arith)
    (λ h. subst (λ (z : ℕ). IsText n value (z ∷ bs) (text true n value bs)) (sym (same_eqb b 92 h)) (text_is true bs n value))
    (λ h. one_more (text false (n + 1) (value ++ b ∷ []) bs) n b value bs h (text_is false bs (n + 1) (value ++ b ∷ [])))
    (λ some. omega arith)
