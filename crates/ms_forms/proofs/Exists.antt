-- Bytes have tokens or a fault, and spellings with spaces between them have their tokens.
use Rattle.std.proofs.Common.{◌≡◌, ℕ, zero, suc, ◌+◌, ◌-◌, ◌≤◌, ◌<◌, List, [], ◌∷◌, ◌++◌, length, take, drop, map, refl, sym, ap, ◌∙◌, subst, arith, inl, inr, length-drop, length-take}
use Rattle.std.specs.Prelude.{◌⊎◌}
use Rattle.std.proofs.lemmas.List.{append-nil}
use Rattle.std.proofs.Math.Seq.{drop-append_seam}
use Rattle.ms_syntax.specs.declared.token.Token.{Token}
use Rattle.ms_syntax.specs.declared.token.Spanned.{Spanned}
use Rattle.ms_syntax.specs.declared.token.LexKind.{LexKind}
use Rattle.ms_syntax.specs.Form.{Form, blank, token, fault, form}
use Rattle.ms_syntax.specs.Cut.{Cuts, IsMore, IsPiece, size, spanned, HasTokens, HasFault}
use Rattle.ms_forms.specs.Spelling.{Spells, AllSpell, spaced}
use Rattle.ms_forms.proofs.Symbols.{IsSpelled, end, space}
use Rattle.ms_forms.proofs.Spelled.{form_spelled, form_taken, spells_some, fault_among}

-- ---- existence

-- the bytes are cut to their end, or up to a fault
abbrev Cuttable : List ℕ → Type 0
Cuttable bytes = ((fs : List Form) × Cuts bytes fs []) ⊎ ((fs : List Form) × (rest : List ℕ) × (kind : LexKind) × (n : ℕ) × Cuts bytes fs rest × IsMore rest × (form rest ≡ fault kind n) × (length rest ≤ length bytes))

with_piece : (b : ℕ) (bs : List ℕ) (f : Form) → form (b ∷ bs) ≡ f → IsPiece f → Cuttable (drop (size f) (b ∷ bs)) → Cuttable (b ∷ bs)
with_piece b bs f e p (inl (fs, c)) = inl (f ∷ fs, (tt, e, p, c))
with_piece b bs f e p (inr (fs, rest, kind, n, c, m, h, within)) = inr (f ∷ fs, rest, kind, n, (tt, e, p, c), m, h, omega (arith, within, length-drop (size f) (b ∷ bs)))

positive : (all : List ℕ) (f : Form) → IsSpelled all f → IsPiece f → 0 < size f
unfolding IsSpelled
positive all (blank n) h p = h.0
positive all (token u n) h p = let some : 0 < length (take n all) = spells_some u (take n all) h.0 in omega (arith, length-take n all)
positive all (fault kind n) h p = absurd p

cuttable : (fuel : ℕ) (bytes : List ℕ) → length bytes ≤ fuel → Cuttable bytes
cuttable fuel [] h = inl ([], refl)
cuttable zero (b ∷ bs) h = absurd (omega arith)
cuttable (suc fuel) (b ∷ bs) h = next (form (b ∷ bs)) refl (cuttable fuel)
  where
    next : (f : Form) → form (b ∷ bs) ≡ f → ((rest : List ℕ) → length rest ≤ fuel → Cuttable rest) → Cuttable (b ∷ bs)
    next (blank n) e go =
        let some : 0 < n = positive (b ∷ bs) (blank n) (subst (IsSpelled (b ∷ bs)) e (form_spelled b bs)) tt in
        with_piece b bs (blank n) e tt (go (drop n (b ∷ bs)) (omega (arith, length-drop n (b ∷ bs))))
    next (token u n) e go =
        let some : 0 < n = positive (b ∷ bs) (token u n) (subst (IsSpelled (b ∷ bs)) e (form_spelled b bs)) tt in
        with_piece b bs (token u n) e tt (go (drop n (b ∷ bs)) (omega (arith, length-drop n (b ∷ bs))))
    next (fault kind n) e go = inr ([], b ∷ bs, kind, n, refl, tt, e, omega arith)

pub tokens_or_fault : (file : ℕ) (bytes : List ℕ) → ((ts : List Spanned) × HasTokens file bytes ts) ⊎ ((kind : LexKind) × (k : ℕ) × HasFault bytes kind k)
tokens_or_fault file bytes = answer (cuttable (length bytes) bytes (omega arith))
  where
    answer : Cuttable bytes → ((ts : List Spanned) × HasTokens file bytes ts) ⊎ ((kind : LexKind) × (k : ℕ) × HasFault bytes kind k)
    answer (inl (fs, c)) = inl (spanned file bytes 0 fs, (fs, c, refl))
    answer (inr (fs, rest, kind, n, c, m, h, within)) = inr (kind, length bytes + n - length rest, (fs, rest, n, c, m, h, omega (arith, within)))

-- ---- spaces between spellings

tokens_of : List Form → List Token
tokens_of [] = []
tokens_of (blank n ∷ fs) = tokens_of fs
tokens_of (token u n ∷ fs) = u ∷ tokens_of fs
tokens_of (fault kind n ∷ fs) = tokens_of fs

tokens_spanned : (file : ℕ) (all : List ℕ) (start : ℕ) (fs : List Form) → map (λ (y : Spanned). y.token) (spanned file all start fs) ≡ tokens_of fs
unfolding tokens_of
tokens_spanned file all start [] = refl
tokens_spanned file all start (blank n ∷ fs) = tokens_spanned file all (start + n) fs
tokens_spanned file all start (token u n ∷ fs) = ap (λ us. u ∷ us) (tokens_spanned file all (start + n) fs)
tokens_spanned file all start (fault kind n ∷ fs) = tokens_spanned file all start fs

-- these bytes are cut into these tokens
CutInto : List ℕ → List Token → Type 0
CutInto bytes ts = (fs : List Form) × Cuts bytes fs [] × (tokens_of fs ≡ ts)

more_spelled : (u : Token) (s r : List ℕ) → Spells u s → IsMore (s ++ r)
more_spelled u [] r h = let some : 0 < 0 = spells_some u [] h in absurd (omega arith)
more_spelled u (b ∷ bs) r h = tt

more_alone : (u : Token) (s : List ℕ) → Spells u s → IsMore s
more_alone u s h = subst IsMore (append-nil s) (more_spelled u s [] h)

space_blank : (r : List ℕ) → form (32 ∷ r) ≡ blank 1
unfolding form
space_blank r = refl

cut_spaced : (ts : List Token) (pieces : List (List ℕ)) → AllSpell ts pieces → CutInto (spaced pieces) ts
unfolding CutInto tokens_of
cut_spaced [] [] h = ([], refl, refl)
cut_spaced [] (s ∷ ss) h = absurd h
cut_spaced (u ∷ us) [] h = absurd h
cut_spaced (u ∷ []) (s ∷ []) h = (
  token u (length s) ∷ [],
  (more_alone u s h.0, ap form (sym (append-nil s)) ∙ form_taken u s [] h.0 end, tt, ap (drop (length s)) (sym (append-nil s)) ∙ drop-append_seam s []),
  refl,
)
cut_spaced (u ∷ v ∷ us) (s ∷ []) h = absurd h.1
cut_spaced (u ∷ us) (s ∷ s2 ∷ ss) h =
    let others = cut_spaced us (s2 ∷ ss) h.1 in
    let rest = spaced (s2 ∷ ss) in (
      token u (length s) ∷ blank 1 ∷ others.0,
      (
        more_spelled u s (32 ∷ rest) h.0,
        form_taken u s (32 ∷ rest) h.0 (space rest),
        tt,
        subst (λ (z : List ℕ). Cuts z (blank 1 ∷ others.0) []) (sym (drop-append_seam s (32 ∷ rest))) (tt, space_blank rest, tt, others.1),
      ),
      ap (λ z. u ∷ z) others.2,
    )

pub spaced_tokens : (file : ℕ) (ts : List Token) (pieces : List (List ℕ)) → AllSpell ts pieces → (us : List Spanned) × HasTokens file (spaced pieces) us × (map (λ (y : Spanned). y.token) us ≡ ts)
unfolding CutInto
spaced_tokens file ts pieces h = let cut = cut_spaced ts pieces h in (spanned file (spaced pieces) 0 cut.0, (cut.0, cut.1, refl), tokens_spanned file (spaced pieces) 0 cut.0 ∙ cut.2)

-- ---- the byte of a fault

pub fault_within : (bytes : List ℕ) (kind : LexKind) (k : ℕ) → HasFault bytes kind k → k < length bytes
fault_within bytes kind k (fs, rest, n, c, m, e, o) = omega (arith, o, fault_among rest kind n e)
