-- The groups together are all keywords.
use Rattle.std.proofs.Common.{◌≡◌, ℕ, List, [], ◌∷◌, ◌++◌, Option, Some, None, Bool, true, false, refl, sym, ap, ◌∙◌}
use Rattle.std.specs.Prelude.{if◌then◌else◌}
use Rattle.std.specs.Str.{bytes_eq}
use Rattle.ms_syntax.specs.declared.token.Keyword.{Keyword}
use Rattle.ms_syntax.specs.Keywords.{keyword_bytes, keyword_among}
use Rattle.ms_syntax.specs.Form.{keyword}
use Rattle.ms_lexer.specs.Keywords.{ann_to_endif, enum_to_let, maximize_to_predicate, satisfy_to_xor}

abbrev or_else : Option Keyword → Option Keyword → Option Keyword
or_else None other = other
or_else (Some x) other = Some x

among_both : (xs ys : List Keyword) (w : List ℕ) → keyword_among (xs ++ ys) w ≡ or_else (keyword_among xs w) (keyword_among ys w)
among_both [] ys w = refl
among_both (x ∷ xs) ys w = cases (bytes_eq w (keyword_bytes x)) (among_both xs ys w)
  where
    cases : (b : Bool) → keyword_among (xs ++ ys) w ≡ or_else (keyword_among xs w) (keyword_among ys w)
        → (if b then Some x else keyword_among (xs ++ ys) w) ≡ or_else (if b then Some x else keyword_among xs w) (keyword_among ys w)
    cases true h = refl
    cases false h = h

-- a word is looked for in one group after the other
pub by_groups : (w : List ℕ) (a b c d : Option Keyword) → a ≡ keyword_among ann_to_endif w → b ≡ keyword_among enum_to_let w → c ≡ keyword_among maximize_to_predicate w → d ≡ keyword_among satisfy_to_xor w
    → keyword w ≡ or_else a (or_else b (or_else c d))
unfolding keyword
by_groups w a b c d e f g h = rw (e, f, g, h) (
    among_both ann_to_endif (enum_to_let ++ maximize_to_predicate ++ satisfy_to_xor) w
    ∙ ap (or_else (keyword_among ann_to_endif w)) (
    among_both enum_to_let (maximize_to_predicate ++ satisfy_to_xor) w
    ∙ ap (or_else (keyword_among enum_to_let w)) (among_both maximize_to_predicate satisfy_to_xor w)
    )
    )

pub found_first : (w : List ℕ) (x : Keyword) → keyword_among ann_to_endif w ≡ Some x → keyword w ≡ Some x
found_first w x e = by_groups w (Some x) _ _ _ (sym e) refl refl refl

pub found_second : (w : List ℕ) (x : Keyword) → keyword_among ann_to_endif w ≡ None → keyword_among enum_to_let w ≡ Some x → keyword w ≡ Some x
found_second w x e f = by_groups w None (Some x) _ _ (sym e) (sym f) refl refl

pub found_third : (w : List ℕ) (x : Keyword) → keyword_among ann_to_endif w ≡ None → keyword_among enum_to_let w ≡ None → keyword_among maximize_to_predicate w ≡ Some x → keyword w ≡ Some x
found_third w x e f g = by_groups w None None (Some x) _ (sym e) (sym f) (sym g) refl

pub found_last : (w : List ℕ) → keyword_among ann_to_endif w ≡ None → keyword_among enum_to_let w ≡ None → keyword_among maximize_to_predicate w ≡ None → keyword w ≡ keyword_among satisfy_to_xor w
found_last w e f g = by_groups w None None None _ (sym e) (sym f) (sym g) refl
