-- Bytes have one outcome: a fault, or a model as which they are accepted. Each stage of reading has one outcome for
-- what it is given, and so have two stages one behind the other; a new stage brings one lemma of its own.
use Rattle.std.proofs.Common.{◌≡◌, ℕ, List, take, Some, refl, sym, ap, ◌∙◌, subst, arith, inl, inr}
use Rattle.std.specs.Prelude.{◌⊎◌}
use Rattle.ms_syntax.specs.declared.token.LexKind.{LexKind}
use Rattle.ms_syntax.specs.declared.token.Place.{Place}
use Rattle.ms_syntax.specs.declared.token.Spanned.{Spanned}
use Rattle.ms_syntax.specs.Tree.{It, Items}
use Rattle.ms_syntax.specs.Grammar.{Tokens, WritesTree, IsShallow, SyntaxAt, DeepAt}
use Rattle.ms_syntax.specs.OneAnswer.{OneAnswer}
use Rattle.ms_syntax.specs.Cut.{HasTokens, HasFault, place_behind}
use Rattle.ms_rows.specs.declared.fault.TypeFault.{TypeFault}
use Rattle.ms_types.specs.Faults as types
use Rattle.ms_top.specs.declared.plain.PlainModel.{PlainModel}
use Rattle.ms_top.specs.declared.status.Fault.{Fault}
use Rattle.ms_top.specs.declared.status.Fault.TheVariants.{LongFile, Lex, Syntax, Deep, Typing, Form}
use Rattle.ms_lexer.specs.Places.{IsTokenPlace, byte_of}
use Rattle.ms_top.specs.Plain.{IsPlain}
use Rattle.ms_top.specs.Typing.{HasTree, HasTypeFault, IsWellTyped, library}
use Rattle.ms_top.specs.Faults.{HasLexFault, IsAccepted, IsFaulty, IsLong, IsShort}

-- ---- stages

-- what a stage makes of its input: a fault, or a value for the next one
data Outcome (Y : Type 0) : Type 0 where
  failed : Fault → Outcome Y
  made : Y → Outcome Y

-- a stage as the relation of its input and what it makes of it has one outcome for each input
abbrev IsOne : {X Y : Type 0} → (X → Outcome Y → Type 0) → Type 0
IsOne {X = X} {Y = Y} stage = (x : X) (c d : Outcome Y) → stage x c → stage x d → c ≡ d

same_fault : {Y : Type 0} (f g : Fault) (c d : Outcome Y) → c ≡ failed f → d ≡ failed g → c ≡ d → f ≡ g
same_fault f g c d p q e = let h : failed f ≡ failed g = sym p ∙ e ∙ q in cc

same_value : {Y : Type 0} (y z : Y) (c d : Outcome Y) → c ≡ made y → d ≡ made z → c ≡ d → y ≡ z
same_value y z c d p q e = let h : made y ≡ made z = sym p ∙ e ∙ q in cc

apart : {Y : Type 0} (f : Fault) (y : Y) (c d : Outcome Y) → c ≡ failed f → d ≡ made y → c ≡ d → ⊥
apart f y c d p q e = absurd (let h : failed f ≡ made y = sym p ∙ e ∙ q in cc)

-- the fault of the first stage, or what the second one makes of its value
abbrev behind : {X Y Z : Type 0} → (X → Outcome Y → Type 0) → (Y → Outcome Z → Type 0) → X → Outcome Z → Type 0
behind {Y = Y} first second x c = ((f : Fault) × first x (failed f) × (c ≡ failed f)) ⊎ ((y : Y) × first x (made y) × second y c)

one_behind : {X Y Z : Type 0} (first : X → Outcome Y → Type 0) (second : Y → Outcome Z → Type 0) → IsOne first → IsOne second → IsOne (behind first second)
one_behind first second one two x c d (inl (f, p, e)) (inl (g, q, h)) = e ∙ ap failed (same_fault f g _ _ refl refl (one x (failed f) (failed g) p q)) ∙ sym h
one_behind first second one two x c d (inl (f, p, e)) (inr (z, q, s)) = absurd (apart f z _ _ refl refl (one x (failed f) (made z) p q))
one_behind first second one two x c d (inr (y, p, r)) (inl (g, q, h)) = absurd (apart g y _ _ refl refl (one x (failed g) (made y) q p))
one_behind first second one two x c d (inr (y, p, r)) (inr (z, q, s)) = two z c d (subst (λ v. second v c) (same_value y z _ _ refl refl (one x (made y) (made z) p q)) r) s

-- ---- what is known of tokens, trees and types

pub record Laws : Type 0 where
  pub one_list : (file : ℕ) (bytes : List ℕ) (ts us : List Spanned) → HasTokens file bytes ts → HasTokens file bytes us → ts ≡ us
  pub none_beside : (file k : ℕ) (bytes : List ℕ) (kind : LexKind) (ts : List Spanned) → HasTokens file bytes ts → HasFault bytes kind k → ⊥
  pub one_fault : (bytes : List ℕ) (kind other : LexKind) (k j : ℕ) → HasFault bytes kind k → HasFault bytes other j → (kind ≡ other) × (k ≡ j)
  pub one_answer : OneAnswer WritesTree
  pub one_model : (ts : Tokens) (x y : Items) → WritesTree x ts → WritesTree y ts → IsShallow ts → x ≡ y
  pub one_type_fault : (model library : List It) (f g : TypeFault) → types.HasFault model library f → types.HasFault model library g → f ≡ g
  pub not_ill_typed : (model library : List It) (f : TypeFault) → types.IsAccepted model library → types.HasFault model library f → ⊥

-- ---- the stages

-- the size
abbrev sized : List ℕ → Outcome (List ℕ) → Type 0
sized bytes c = (IsLong bytes × (c ≡ failed (LongFile 0))) ⊎ (IsShort bytes × (c ≡ made bytes))

one_sized : IsOne sized
one_sized bytes c d (inl (l, e)) (inl (m, h)) = e ∙ sym h
one_sized bytes c d (inl (l, e)) (inr (s, h)) = absurd (omega (arith, l, s))
one_sized bytes c d (inr (s, e)) (inl (l, h)) = absurd (omega (arith, l, s))
one_sized bytes c d (inr (s, e)) (inr (t, h)) = e ∙ sym h

-- the tokens
abbrev lexed : List ℕ → Outcome (List Spanned) → Type 0
lexed bytes c = ((place : Place) × (kind : LexKind) × HasLexFault 0 bytes place kind × (c ≡ failed (Lex place kind))) ⊎ ((ts : List Spanned) × HasTokens 0 bytes ts × (c ≡ made ts))

same_lex : Laws → (bytes : List ℕ) (p q : Place) (i j : LexKind) → HasLexFault 0 bytes p i → HasLexFault 0 bytes q j → Lex p i ≡ Lex q j
same_lex laws bytes p q i j (k, f, e) (l, g, d) =
    let one = laws.one_fault bytes i j k l f g in
    ap (λ v. Lex v i) (e ∙ ap (λ n. place_behind 0 (take n bytes)) one.1 ∙ sym d) ∙ ap (λ v. Lex q v) one.0

one_lexed : Laws → IsOne lexed
one_lexed laws bytes c d (inl (p, i, f, e)) (inl (q, j, g, h)) = e ∙ ap failed (same_lex laws bytes p q i j f g) ∙ sym h
one_lexed laws bytes c d (inl (p, i, f, e)) (inr (us, b, h)) = absurd (laws.none_beside 0 f.0 bytes i us b f.1)
one_lexed laws bytes c d (inr (ts, a, e)) (inl (q, j, g, h)) = absurd (laws.none_beside 0 g.0 bytes j ts a g.1)
one_lexed laws bytes c d (inr (ts, a, e)) (inr (us, b, h)) = e ∙ ap made (laws.one_list 0 bytes ts us a b) ∙ sym h

-- the tree
abbrev parsed : List ℕ → List Spanned → Outcome Items → Type 0
parsed bytes ts c =
    ((place : Place) × (k : ℕ) × SyntaxAt WritesTree ts k × IsTokenPlace 0 bytes ts k place × (c ≡ failed (Syntax place)))
    ⊎ (((place : Place) × (k : ℕ) × DeepAt WritesTree ts k × IsTokenPlace 0 bytes ts k place × (c ≡ failed (Deep place)))
    ⊎ ((tree : Items) × HasTree ts tree × (c ≡ made tree)))

same_place : (bytes : List ℕ) (ts : List Spanned) (j k : ℕ) (p q : Place) → j ≡ k → IsTokenPlace 0 bytes ts j p → IsTokenPlace 0 bytes ts k q → p ≡ q
same_place bytes ts j k p q at d e = d ∙ ap (λ n. place_behind 0 (take (byte_of ts n) bytes)) at ∙ sym e

one_parsed : Laws → (bytes : List ℕ) → IsOne (parsed bytes)
one_parsed laws bytes ts c d (inl (p, j, f, a, e)) (inl (q, k, g, b, h)) =
    e ∙ ap (λ v. failed (Syntax v)) (same_place bytes ts j k p q (laws.one_answer.one_syntax ts j k f g) a b) ∙ sym h
one_parsed laws bytes ts c d (inl (p, j, f, a, e)) (inr (inl (q, k, g, b, h))) = absurd (laws.one_answer.not_both ts j k f g)
one_parsed laws bytes ts c d (inl (p, j, f, a, e)) (inr (inr (x, t, h))) = absurd (laws.one_answer.not_syntax ts x j t.0 f)
one_parsed laws bytes ts c d (inr (inl (p, j, f, a, e))) (inl (q, k, g, b, h)) = absurd (laws.one_answer.not_both ts k j g f)
one_parsed laws bytes ts c d (inr (inl (p, j, f, a, e))) (inr (inl (q, k, g, b, h))) =
    e ∙ ap (λ v. failed (Deep v)) (same_place bytes ts j k p q (laws.one_answer.one_deep ts j k f g) a b) ∙ sym h
one_parsed laws bytes ts c d (inr (inl (p, j, f, a, e))) (inr (inr (x, t, h))) = absurd (laws.one_answer.not_deep ts j t.1 f)
one_parsed laws bytes ts c d (inr (inr (x, t, e))) (inl (q, k, g, b, h)) = absurd (laws.one_answer.not_syntax ts x k t.0 g)
one_parsed laws bytes ts c d (inr (inr (x, t, e))) (inr (inl (q, k, g, b, h))) = absurd (laws.one_answer.not_deep ts k t.1 g)
one_parsed laws bytes ts c d (inr (inr (x, t, e))) (inr (inr (y, u, h))) = e ∙ ap made (laws.one_model ts x y t.0 u.0 t.1) ∙ sym h

-- the types
abbrev typed : Items → Outcome Items → Type 0
typed tree c = ((f : TypeFault) × HasTypeFault tree f × (c ≡ failed (Typing f))) ⊎ (IsWellTyped tree × (c ≡ made tree))

one_typed : Laws → IsOne typed
one_typed laws tree c d (inl (f, p, e)) (inl (g, q, h)) = e ∙ ap (λ v. failed (Typing v)) (laws.one_type_fault tree.0 library f g p q) ∙ sym h
one_typed laws tree c d (inl (f, p, e)) (inr (w, h)) = absurd (laws.not_ill_typed tree.0 library f w p)
one_typed laws tree c d (inr (v, e)) (inl (g, q, h)) = absurd (laws.not_ill_typed tree.0 library g v q)
one_typed laws tree c d (inr (v, e)) (inr (w, h)) = e ∙ sym h

-- the model of the plain form
abbrev formed : Items → Outcome PlainModel → Type 0
formed tree c = (((m : PlainModel) → IsPlain m tree → ⊥) × (c ≡ failed (Form 0))) ⊎ ((m : PlainModel) × IsPlain m tree × (c ≡ made m))

one_plain : (tree : Items) (m n : PlainModel) → IsPlain m tree → IsPlain n tree → m ≡ n
one_plain tree m n p q = let e : Some m ≡ Some n = sym p.0 ∙ q.0 in cc

one_formed : IsOne formed
one_formed tree c d (inl (never, e)) (inl (none, h)) = e ∙ sym h
one_formed tree c d (inl (never, e)) (inr (n, q, h)) = absurd (never n q)
one_formed tree c d (inr (m, p, e)) (inl (none, h)) = absurd (none m p)
one_formed tree c d (inr (m, p, e)) (inr (n, q, h)) = e ∙ ap made (one_plain tree m n p q) ∙ sym h

-- ---- all stages

abbrev judged : Items → Outcome PlainModel → Type 0
judged = behind typed formed

abbrev read : List ℕ → Outcome PlainModel → Type 0
read bytes = behind lexed (behind (parsed bytes) judged) bytes

abbrev outcome : List ℕ → Outcome PlainModel → Type 0
outcome = behind sized read

one_read : Laws → IsOne read
one_read laws bytes =
    one_behind lexed (behind (parsed bytes) judged) (one_lexed laws) (one_behind (parsed bytes) judged (one_parsed laws bytes) (one_behind typed formed (one_typed laws) one_formed)) bytes

one : Laws → IsOne outcome
one laws = one_behind sized read one_sized (one_read laws)

-- ---- what is said of bytes is an outcome

short : (bytes : List ℕ) (c : Outcome PlainModel) → IsShort bytes → read bytes c → outcome bytes c
short bytes c s h = inr (bytes, inr (s, refl), h)

treed : (bytes : List ℕ) (ts : List Spanned) (tree : Items) (c : Outcome PlainModel) → HasTokens 0 bytes ts → HasTree ts tree → judged tree c → read bytes c
treed bytes ts tree c a t h = inr (ts, inr (ts, a, refl), inr (tree, inr (inr (tree, t, refl)), h))

fault_outcome : (bytes : List ℕ) (fault : Fault) → IsFaulty bytes fault → outcome bytes (failed fault)
fault_outcome bytes (LongFile file) (e, l) = inl (LongFile 0, inl (l, refl), ap (λ n. failed (LongFile n)) e)
fault_outcome bytes (Lex place kind) (s, h) = short bytes _ s (inl (Lex place kind, inl (place, kind, h, refl), refl))
fault_outcome bytes (Syntax place) (s, (ts, k, a, f, p)) = short bytes _ s (inr (ts, inr (ts, a, refl), inl (Syntax place, inl (place, k, f, p, refl), refl)))
fault_outcome bytes (Deep place) (s, (ts, k, a, f, p)) = short bytes _ s (inr (ts, inr (ts, a, refl), inl (Deep place, inr (inl (place, k, f, p, refl)), refl)))
fault_outcome bytes (Typing fault) (s, (tree, (ts, a, t), f)) = short bytes _ s (treed bytes ts tree _ a t (inl (Typing fault, inl (fault, f, refl), refl)))
fault_outcome bytes (Form file) (e, s, (tree, (ts, a, t), w, none)) = short bytes _ s (treed bytes ts tree _ a t (inr (tree, inr (w, refl), inl (none, ap (λ n. failed (Form n)) e))))

model_outcome : (bytes : List ℕ) (m : PlainModel) → IsAccepted bytes m → outcome bytes (made m)
model_outcome bytes m (s, (tree, (ts, a, t), w, p)) = short bytes _ s (treed bytes ts tree _ a t (inr (tree, inr (w, refl), inr (m, p, refl))))

-- ---- one outcome

pub one_fault : Laws → (bytes : List ℕ) (fault other : Fault) → IsFaulty bytes fault → IsFaulty bytes other → fault ≡ other
one_fault laws bytes fault other f g = same_fault fault other _ _ refl refl (one laws bytes (failed fault) (failed other) (fault_outcome bytes fault f) (fault_outcome bytes other g))

pub not_both : Laws → (bytes : List ℕ) (fault : Fault) (m : PlainModel) → IsFaulty bytes fault → IsAccepted bytes m → ⊥
not_both laws bytes fault m f a = apart fault m _ _ refl refl (one laws bytes (failed fault) (made m) (fault_outcome bytes fault f) (model_outcome bytes m a))

pub one_model : Laws → (bytes : List ℕ) (m n : PlainModel) → IsAccepted bytes m → IsAccepted bytes n → m ≡ n
one_model laws bytes m n a b = same_value m n _ _ refl refl (one laws bytes (made m) (made n) (model_outcome bytes m a) (model_outcome bytes n b))
