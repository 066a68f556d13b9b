-- Cuts and places.
use Rattle.std.proofs.Common.{◌≡◌, ℕ, ◌+◌, List, [], ◌∷◌, ◌++◌, length, take, drop, refl, sym, ap, ◌∙◌, subst, arith}
use Rattle.ms_syntax.specs.declared.token.Spanned.{Spanned}
use Rattle.ms_syntax.specs.declared.token.LexKind.TheVariants as kind
use Rattle.ms_syntax.specs.declared.token.LexKind.{LexKind}
use Rattle.ms_syntax.specs.Form.{Form, blank, token, fault, form}
use Rattle.ms_syntax.specs.Cut.{Cuts, IsMore, IsPiece, size, spanned, place_behind, HasTokens, HasFault}

-- one form more
pub cuts_more : (bytes : List ℕ) (fs : List Form) (rest : List ℕ) (f : Form) → Cuts bytes fs rest → IsMore rest → form rest ≡ f → IsPiece f → Cuts bytes (fs ++ f ∷ []) (drop (size f) rest)
cuts_more bytes [] rest f c m e p = (subst IsMore (sym c) m, ap form c ∙ e, p, ap (drop (size f)) c)
cuts_more bytes (g ∷ gs) rest f c m e p = (c.0, c.1, c.2, cuts_more (drop (size g) bytes) gs rest f c.3 m e p)

abbrev pub sizes : List Form → ℕ
sizes [] = 0
sizes (f ∷ fs) = size f + sizes fs

-- bytes have one cut, and none beside a fault
pub one_cut : (bytes : List ℕ) (fs gs : List Form) → Cuts bytes fs [] → Cuts bytes gs [] → fs ≡ gs
one_cut bytes [] [] a b = refl
one_cut bytes [] (g ∷ gs) a b = absurd (subst IsMore a b.0)
one_cut bytes (f ∷ fs) [] a b = absurd (subst IsMore b a.0)
one_cut bytes (f ∷ fs) (g ∷ gs) a b =
    let same : f ≡ g = sym a.1 ∙ b.1 in
    let others = one_cut (drop (size f) bytes) fs gs a.3 (subst (λ (h : Form). Cuts (drop (size h) bytes) gs []) (sym same) b.3) in
    ap (λ h. h ∷ fs) same ∙ ap (λ t. g ∷ t) others

pub no_fault : (bytes : List ℕ) (fs gs : List Form) (rest : List ℕ) (kind : LexKind) (n : ℕ) → Cuts bytes fs [] → Cuts bytes gs rest → IsMore rest → form rest ≡ fault kind n → ⊥
no_fault bytes [] [] rest kind n a b m e = subst IsMore (sym b ∙ a) m
no_fault bytes [] (g ∷ gs) rest kind n a b m e = subst IsMore a b.0
no_fault bytes (f ∷ fs) [] rest kind n a b m e = let faulty : f ≡ fault kind n = sym a.1 ∙ ap form b ∙ e in subst IsPiece faulty a.2
no_fault bytes (f ∷ fs) (g ∷ gs) rest kind n a b m e =
    let same : f ≡ g = sym a.1 ∙ b.1 in
    no_fault (drop (size f) bytes) fs gs rest kind n a.3 (subst (λ (h : Form). Cuts (drop (size h) bytes) gs rest) (sym same) b.3) m e

spanned_from : (file : ℕ) (all : List ℕ) (start : ℕ) (fs : List Form) (f : Form) → spanned file all start (fs ++ f ∷ []) ≡ spanned file all start fs ++ spanned file all (start + sizes fs) (f ∷ [])
spanned_from file all start [] f = ap (λ n. spanned file all n (f ∷ [])) (omega arith)
spanned_from file all start (blank n ∷ fs) f = spanned_from file all (start + n) fs f ∙ ap (λ m. spanned file all (start + n) fs ++ spanned file all m (f ∷ [])) (omega arith)
spanned_from file all start (token t n ∷ fs) f =
    ap (λ ts. record { token = t; start = start; end = start + n; place = place_behind file (take start all) } ∷ ts)
    (spanned_from file all (start + n) fs f ∙ ap (λ m. spanned file all (start + n) fs ++ spanned file all m (f ∷ [])) (omega arith))
spanned_from file all start (fault k n ∷ fs) f = spanned_from file all start fs f ∙ ap (λ m. spanned file all start fs ++ spanned file all m (f ∷ [])) (omega arith)

-- the tokens with one form more
pub spanned_more : (file : ℕ) (all : List ℕ) (fs : List Form) (f : Form) (start : ℕ) → start ≡ sizes fs → spanned file all 0 (fs ++ f ∷ []) ≡ spanned file all 0 fs ++ spanned file all start (f ∷ [])
spanned_more file all fs f start h = spanned_from file all 0 fs f ∙ ap (λ m. spanned file all 0 fs ++ spanned file all m (f ∷ [])) (omega (arith, h))

pub sizes_more : (fs : List Form) (f : Form) → sizes (fs ++ f ∷ []) ≡ sizes fs + size f
sizes_more [] f = omega arith
sizes_more (g ∷ fs) f = omega (arith, sizes_more fs f)

pub one_list : (file : ℕ) (bytes : List ℕ) (ts us : List Spanned) → HasTokens file bytes ts → HasTokens file bytes us → ts ≡ us
one_list file bytes ts us (fs, c, q) (gs, d, r) = q ∙ ap (spanned file bytes 0) (one_cut bytes fs gs c d) ∙ sym r

pub none_beside : (file k : ℕ) (bytes : List ℕ) (kind : LexKind) (ts : List Spanned) → HasTokens file bytes ts → HasFault bytes kind k → ⊥
none_beside file k bytes kind ts (fs, c, q) (gs, rest, n, d, m, h, o) = no_fault bytes fs gs rest kind n c d m h

-- two faults that follow cuts of the same bytes are one
fault_at : (bytes : List ℕ) (fs gs : List Form) (rest rest2 : List ℕ) (a b : LexKind) (n m : ℕ) → Cuts bytes fs rest → IsMore rest → form rest ≡ fault a n → Cuts bytes gs rest2 → IsMore rest2 → form rest2 ≡ fault b m
    → (rest ≡ rest2) × (fault a n ≡ fault b m)
fault_at bytes [] [] rest rest2 a b n m c x e d y h = let same : rest ≡ rest2 = sym c ∙ d in (same, sym e ∙ ap form same ∙ h)
fault_at bytes [] (g ∷ gs) rest rest2 a b n m c x e d y h = let faulty : g ≡ fault a n = sym d.1 ∙ ap form c ∙ e in absurd (subst IsPiece faulty d.2)
fault_at bytes (f ∷ fs) [] rest rest2 a b n m c x e d y h = let faulty : f ≡ fault b m = sym c.1 ∙ ap form d ∙ h in absurd (subst IsPiece faulty c.2)
fault_at bytes (f ∷ fs) (g ∷ gs) rest rest2 a b n m c x e d y h =
    let same : f ≡ g = sym c.1 ∙ d.1 in
    fault_at (drop (size f) bytes) fs gs rest rest2 a b n m c.3 x e (subst (λ (z : Form). Cuts (drop (size z) bytes) gs rest2) (sym same) d.3) y h

kind_of : Form → LexKind
kind_of (fault x n) = x
kind_of (blank n) = kind.BadByte
kind_of (token t n) = kind.BadByte

offset_of : Form → ℕ
offset_of (fault x n) = n
offset_of (blank n) = 0
offset_of (token t n) = 0

pub one_fault : (bytes : List ℕ) (a b : LexKind) (k j : ℕ) → HasFault bytes a k → HasFault bytes b j → (a ≡ b) × (k ≡ j)
unfolding kind_of offset_of
one_fault bytes a b k j (fs, rest, n, c, x, e, o) (gs, rest2, m, d, y, h, p) =
    let same = fault_at bytes fs gs rest rest2 a b n m c x e d y h in
    let offset : n ≡ m = ap offset_of same.1 in
    let left : length rest ≡ length rest2 = ap length same.0 in
    (ap kind_of same.1, omega (arith, o, p, offset, left))
