-- The keywords by their spelling.
use Rattle.std.proofs.Common.{◌≡◌, ◌≢◌, ℕ, List, [], ◌∷◌, Option, Some, None, Bool, true, false, refl, sym, ap, ◌∙◌, subst}
use Rattle.std.specs.Prelude.{if◌then◌else◌}
use Rattle.std.specs.Str.{bytes_eq}
use Rattle.std.proofs.lemmas.Slice.Eq.{bytes_eq-Decides}
use Rattle.ms_syntax.specs.declared.token.Keyword.{Keyword}
use Rattle.ms_syntax.specs.declared.token.Keyword.TheVariants as k
use Rattle.ms_syntax.specs.Keywords.{keyword_bytes, all_keywords, keyword_among}
use Rattle.ms_syntax.specs.Form.{keyword, word_of}
use Rattle.ms_forms.specs.Spelling.{IsWord, Spells}

pub keyword_found : (x : Keyword) → keyword (keyword_bytes x) ≡ Some x
unfolding keyword
keyword_found k.Ann = refl
keyword_found k.Array = refl
keyword_found k.Bool = refl
keyword_found k.Constraint = refl
keyword_found k.Div = refl
keyword_found k.Else = refl
keyword_found k.Elseif = refl
keyword_found k.Endif = refl
keyword_found k.Enum = refl
keyword_found k.False = refl
keyword_found k.Function = refl
keyword_found k.If = refl
keyword_found k.In = refl
keyword_found k.Include = refl
keyword_found k.Int = refl
keyword_found k.Let = refl
keyword_found k.Maximize = refl
keyword_found k.Minimize = refl
keyword_found k.Mod = refl
keyword_found k.Not = refl
keyword_found k.Of = refl
keyword_found k.Output = refl
keyword_found k.Par = refl
keyword_found k.Predicate = refl
keyword_found k.Satisfy = refl
keyword_found k.Search = refl
keyword_found k.Set = refl
keyword_found k.Solve = refl
keyword_found k.String = refl
keyword_found k.Then = refl
keyword_found k.True = refl
keyword_found k.Var = refl
keyword_found k.Where = refl
keyword_found k.Xor = refl

pub keyword_word : (x : Keyword) → IsWord (keyword_bytes x)
keyword_word k.Ann = (refl, refl)
keyword_word k.Array = (refl, refl)
keyword_word k.Bool = (refl, refl)
keyword_word k.Constraint = (refl, refl)
keyword_word k.Div = (refl, refl)
keyword_word k.Else = (refl, refl)
keyword_word k.Elseif = (refl, refl)
keyword_word k.Endif = (refl, refl)
keyword_word k.Enum = (refl, refl)
keyword_word k.False = (refl, refl)
keyword_word k.Function = (refl, refl)
keyword_word k.If = (refl, refl)
keyword_word k.In = (refl, refl)
keyword_word k.Include = (refl, refl)
keyword_word k.Int = (refl, refl)
keyword_word k.Let = (refl, refl)
keyword_word k.Maximize = (refl, refl)
keyword_word k.Minimize = (refl, refl)
keyword_word k.Mod = (refl, refl)
keyword_word k.Not = (refl, refl)
keyword_word k.Of = (refl, refl)
keyword_word k.Output = (refl, refl)
keyword_word k.Par = (refl, refl)
keyword_word k.Predicate = (refl, refl)
keyword_word k.Satisfy = (refl, refl)
keyword_word k.Search = (refl, refl)
keyword_word k.Set = (refl, refl)
keyword_word k.Solve = (refl, refl)
keyword_word k.String = (refl, refl)
keyword_word k.Then = (refl, refl)
keyword_word k.True = (refl, refl)
keyword_word k.Var = (refl, refl)
keyword_word k.Where = (refl, refl)
keyword_word k.Xor = (refl, refl)

-- the keyword, if there is one, is spelled so
IsSpelledBy : List ℕ → Option Keyword → Type 0
IsSpelledBy w None = Unit {0}
IsSpelledBy w (Some x) = w ≡ keyword_bytes x

among-is : (xs : List Keyword) (w : List ℕ) → IsSpelledBy w (keyword_among xs w)
unfolding IsSpelledBy
among-is [] w = tt
among-is (x ∷ others) w = cases (bytes_eq w (keyword_bytes x)) ((bytes_eq-Decides w (keyword_bytes x)).0) (among-is others w)
  where
    cases : (b : Bool) → (b ≡ true → w ≡ keyword_bytes x) → IsSpelledBy w (keyword_among others w) → IsSpelledBy w (if b then Some x else keyword_among others w)
    cases true is rest = is refl
    cases false is rest = rest

keyword-is : (w : List ℕ) → IsSpelledBy w (keyword w)
unfolding keyword
keyword-is w = among-is all_keywords w

pub keyword_sound : (w : List ℕ) (x : Keyword) → keyword w ≡ Some x → w ≡ keyword_bytes x
unfolding IsSpelledBy
keyword_sound w x h = subst (IsSpelledBy w) h (keyword-is w)

some_no_none : (x : Keyword) → Some x ≡ None → ⊥
some_no_none x h = cc

pub keyword_none : (w : List ℕ) → ((x : Keyword) → w ≢ keyword_bytes x) → keyword w ≡ None
keyword_none w not_one = cases (keyword w) refl
  where
    cases : (o : Option Keyword) → keyword w ≡ o → keyword w ≡ None
    cases None h = h
    cases (Some x) h = absurd (not_one x (keyword_sound w x h))

pub no_keyword : (w : List ℕ) → keyword w ≡ None → (x : Keyword) → w ≢ keyword_bytes x
no_keyword w h x e = some_no_none x (sym (keyword_found x) ∙ ap keyword (sym e) ∙ h)

-- a word is a keyword or a name, and spells it
pub word_spells : (w : List ℕ) → IsWord w → Spells (word_of (keyword w) w) w
word_spells w h = cases (keyword w) refl
  where
    cases : (o : Option Keyword) → keyword w ≡ o → Spells (word_of o w) w
    cases None e = (refl, (h, no_keyword w e))
    cases (Some x) e = keyword_sound w x e
