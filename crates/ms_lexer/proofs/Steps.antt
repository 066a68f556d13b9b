-- One turn of the loop over all of the bytes, and its exit at a fault.
use Rattle.std.proofs.Common.{◌≡◌, ℕ, zero, suc, ◌+◌, ◌-◌, ◌<◌, ◌≤◌, List, [], ◌∷◌, ◌++◌, length, take, drop, Option, Some, None, Result, Ok, Err, Vec, refl, sym, ap, ◌∙◌, subst, arith, length-drop}
use Rattle.std.specs.Prelude.{fold, IfOk, IfErr}
use Rattle.std.specs.declared.alloc.Global.{Global}
use Rattle.std.proofs.Math.Seq.{take-add}
use Rattle.std.proofs.lemmas.List.Sums.{fold-append}
use Rattle.std.proofs.lemmas.List.{append-nil, take_all, drop-drop}
use Rattle.ms_syntax.specs.declared.token.Place.{Place}
use Rattle.ms_syntax.specs.declared.token.Token.{Token}
use Rattle.ms_syntax.specs.declared.token.Spanned.{Spanned}
use Rattle.ms_lexer.specs.declared.fault.LexFault.{LexFault}
use Rattle.ms_lexer.specs.declared.fault.LexFault.TheVariants as f
use Rattle.ms_lexer.specs.declared.fault.FormError.{FormError}
use Rattle.ms_lexer.specs.declared.fault.FormError.TheVariants as e
use Rattle.ms_syntax.specs.declared.token.LexKind.{LexKind}
use Rattle.ms_syntax.specs.declared.token.LexKind.TheVariants as kind
use Rattle.ms_syntax.specs.Form.{Form, blank, token, form}
use Rattle.ms_lexer.specs.Reading.{piece_of, piece, Shows, FaultIs, FaultAt, IsFault, IsAmong, IsWithin, GivesTokens, GivesFault}
use Rattle.ms_syntax.specs.Cut.{Cuts, IsMore, IsPiece, size, spanned, next_place, place_behind, HasTokens, HasFault}
use Rattle.ms_syntax.proofs.SharedCuts.{cuts_more, spanned_more, sizes, sizes_more, one_list, none_beside, one_fault}

pub more_of : (bytes : List ℕ) (start : ℕ) → start < length bytes → IsMore (drop start bytes)
more_of [] start h = absurd (omega arith)
more_of (b ∷ bs) zero h = tt
more_of (b ∷ bs) (suc n) h = more_of bs n (omega arith)

pub rest_is : (bytes : List ℕ) (start : ℕ) → take (length bytes - start) (drop start bytes) ≡ drop start bytes
rest_is bytes start = take_all (length bytes - start) (drop start bytes) (omega (arith, length-drop start bytes))

pub fault_is : (bytes rest : List ℕ) (fs : List Form) (start : ℕ) (x : LexFault) (y : FormError) → Cuts bytes fs rest → IsMore rest → start + length rest ≡ length bytes
    → FaultAt x y start → Shows {X = Option Token × ℕ} piece (form rest) (Err y) → FaultIs bytes x
fault_is bytes rest fs start f.Memory y c m h at s = tt
fault_is bytes rest fs start (f.BadByte k) (e.Fault kind.BadByte n) c m h at s = (fs, rest, n, c, m, s, omega (arith, h, at))
fault_is bytes rest fs start (f.OpenText k) (e.Fault kind.OpenText n) c m h at s = (fs, rest, n, c, m, s, omega (arith, h, at))
fault_is bytes rest fs start (f.OpenComment k) (e.Fault kind.OpenComment n) c m h at s = (fs, rest, n, c, m, s, omega (arith, h, at))
fault_is bytes rest fs start (f.BigNumber k) (e.Fault kind.BigNumber n) c m h at s = (fs, rest, n, c, m, s, omega (arith, h, at))
fault_is bytes rest fs start _ _ c m h at s = absurd at

pub fault_here : (bytes : List ℕ) (fs : List Form) (start : ℕ) (x : LexFault) (y : FormError) → Cuts bytes fs (drop start bytes) → start < length bytes
    → FaultAt x y start → Shows {X = Option Token × ℕ} piece (form (take (length bytes - start) (drop start bytes))) (Err y) → FaultIs bytes x
fault_here bytes fs start x y c lt at s =
    fault_is bytes (drop start bytes) fs start x y c (more_of bytes start lt) (omega (arith, length-drop start bytes)) at
    (subst (λ (r : List ℕ). Shows {X = Option Token × ℕ} piece (form r) (Err y)) (rest_is bytes start) s)

piece_is : (t : Option Token) (n : ℕ) → IsPiece (piece_of t n)
piece_is None n = tt
piece_is (Some t) n = tt

piece_size : (t : Option Token) (n : ℕ) → size (piece_of t n) ≡ n
piece_size None n = refl
piece_size (Some t) n = refl

module _ (file : ℕ) (all : List ℕ) (fs : List Form) (start len : ℕ) (t : Option Token) (cut : Cuts all fs (drop start all)) (behind : start ≡ sizes fs)
    (here : form (take (length all - start) (drop start all)) ≡ piece_of t len) (lt : start < length all) where
  pub cut_step : Cuts all (fs ++ piece_of t len ∷ []) (drop (start + len) all)
  cut_step = subst (λ (r : List ℕ). Cuts all (fs ++ piece_of t len ∷ []) r) (drop-drop (size (piece_of t len)) start all ∙ ap (λ k. drop (start + k) all) (piece_size t len))
      (cuts_more all fs (drop start all) (piece_of t len) cut (more_of all start lt) (ap form (sym (rest_is all start)) ∙ here) (piece_is t len))

  pub sizes_step : start + len ≡ sizes (fs ++ piece_of t len ∷ [])
  sizes_step = omega (arith, behind, sizes_more fs (piece_of t len), piece_size t len)

module _ (file : ℕ) (all : List ℕ) (fs : List Form) (start len : ℕ) (behind : start ≡ sizes fs) (items items2 : List Spanned) (found : items ≡ spanned file all 0 fs) where
  pub blank_step : (t : Option Token) → t ≡ None → items2 ≡ items → items2 ≡ spanned file all 0 (fs ++ piece_of t len ∷ [])
  blank_step t none same =
      same ∙ found ∙ sym (append-nil (spanned file all 0 fs)) ∙ sym (ap (λ u. spanned file all 0 (fs ++ piece_of u len ∷ [])) none ∙ spanned_more file all fs (blank len) start behind)

  pub token_step : (t : Option Token) (x : Token) (place : Place) → t ≡ Some x → place ≡ place_behind file (take start all)
      → items2 ≡ items ++ record { token = x; start = start; end = start + len; place = place } ∷ [] → items2 ≡ spanned file all 0 (fs ++ piece_of t len ∷ [])
  token_step t x place some at more =
      more ∙ ap (λ p. items ++ record { token = x; start = start; end = start + len; place = p } ∷ []) at
      ∙ ap (λ v. v ++ record { token = x; start = start; end = start + len; place = place_behind file (take start all) } ∷ []) found
      ∙ sym (ap (λ u. spanned file all 0 (fs ++ piece_of u len ∷ [])) some ∙ spanned_more file all fs (token x len) start behind)

pub place_step : (file : ℕ) (all : List ℕ) (start len : ℕ) (place next : Place) → place ≡ place_behind file (take start all) → next ≡ fold next_place place (take len (take (length all - start) (drop start all)))
    → next ≡ place_behind file (take (start + len) all)
place_step file all start len place next at h =
    h ∙ ap (λ r. fold next_place place (take len r)) (rest_is all start) ∙ ap (λ p. fold next_place p (take len (drop start all))) at
    ∙ sym (ap (place_behind file) (take-add start len all) ∙ fold-append next_place (record { file = file; line = 1; col = 1 }) (take start all) (take len (drop start all)))

-- what is found is the bytes' own list, and a fault is their own
pub gives_tokens : (file : ℕ) (bytes : List ℕ) (r : Result (Vec Spanned Global) LexFault) → IfOk r (λ v. HasTokens file bytes v.items) → IfErr r (λ e. FaultIs bytes e)
    → (ts : List Spanned) → HasTokens file bytes ts → GivesTokens ts r
gives_tokens file bytes (Ok v) ok fault ts h = one_list file bytes v.items ts ok h
gives_tokens file bytes (Err f.Memory) ok fault ts h = refl
gives_tokens file bytes (Err (f.BadByte k)) ok fault ts h = absurd (none_beside file k bytes kind.BadByte ts h fault)
gives_tokens file bytes (Err (f.OpenText k)) ok fault ts h = absurd (none_beside file k bytes kind.OpenText ts h fault)
gives_tokens file bytes (Err (f.OpenComment k)) ok fault ts h = absurd (none_beside file k bytes kind.OpenComment ts h fault)
gives_tokens file bytes (Err (f.BigNumber k)) ok fault ts h = absurd (none_beside file k bytes kind.BigNumber ts h fault)

same_fault : (k n : ℕ) (x y : LexKind) (z : LexFault) → x ≡ y → k ≡ n → IsFault y n z → IsFault x k z
same_fault k n x y z a b h = subst (λ (w : LexKind). IsFault w k z) (sym a) (subst (λ (m : ℕ). IsFault y m z) (sym b) h)

pub gives_fault : (file : ℕ) (bytes : List ℕ) (r : Result (Vec Spanned Global) LexFault) → IfOk r (λ v. HasTokens file bytes v.items) → IfErr r (λ e. FaultIs bytes e)
    → (kind : LexKind) (k : ℕ) → HasFault bytes kind k → GivesFault kind k r
gives_fault file bytes (Ok v) ok fault x k h = absurd (none_beside file k bytes x v.items ok h)
gives_fault file bytes (Err f.Memory) ok fault x k h = tt
gives_fault file bytes (Err (f.BadByte n)) ok fault x k h = let same = one_fault bytes x kind.BadByte k n h fault in same_fault k n x kind.BadByte (f.BadByte n) same.0 same.1 refl
gives_fault file bytes (Err (f.OpenText n)) ok fault x k h = let same = one_fault bytes x kind.OpenText k n h fault in same_fault k n x kind.OpenText (f.OpenText n) same.0 same.1 refl
gives_fault file bytes (Err (f.OpenComment n)) ok fault x k h = let same = one_fault bytes x kind.OpenComment k n h fault in same_fault k n x kind.OpenComment (f.OpenComment n) same.0 same.1 refl
gives_fault file bytes (Err (f.BigNumber n)) ok fault x k h = let same = one_fault bytes x kind.BigNumber k n h fault in same_fault k n x kind.BigNumber (f.BigNumber n) same.0 same.1 refl

pub among_here : (n m start : ℕ) (x : LexFault) (y : FormError) → FaultAt x y start → IsWithin m y → start + m ≤ n → IsAmong n x
among_here n m start f.Memory y at w h = tt
among_here n m start (f.BadByte k) (e.Fault kind.BadByte i) at w h = omega (arith, at, w, h)
among_here n m start (f.OpenText k) (e.Fault kind.OpenText i) at w h = omega (arith, at, w, h)
among_here n m start (f.OpenComment k) (e.Fault kind.OpenComment i) at w h = omega (arith, at, w, h)
among_here n m start (f.BigNumber k) (e.Fault kind.BigNumber i) at w h = omega (arith, at, w, h)
among_here n m start _ _ at w h = absurd at
