-- What the first bytes say of the form.
use Rattle.std.proofs.Common.{◌≡◌, ℕ, ◌-◌, List, [], ◌∷◌, length, take, drop, false, inl, inr, arith, length-drop}
use Rattle.std.specs.Prelude.{◌==◌, ◌&&◌}
use Rattle.std.proofs.lemmas.Bool.Decides.{eqb_tells}
use Rattle.std.proofs.lemmas.List.{take_all}
use Rattle.ms_syntax.specs.Form.{Form, form, is_white, is_letter, is_digit, symbol, byte_at}
use Rattle.ms_syntax.specs.Cut.{IsMore}

pub ne_eqb : (a b : ℕ) → (a ≡ b → ⊥) → (a == b) ≡ false
ne_eqb a b h = elim (eqb_tells a b) as (λ _. (a == b) ≡ false) [ inl e ↦ absurd (h e.1) | inr e ↦ e.0 ]

pub others_are : (bytes : List ℕ) → take (length bytes - 1) (drop 1 bytes) ≡ drop 1 bytes
others_are bytes = take_all (length bytes - 1) (drop 1 bytes) (omega (arith, length-drop 1 bytes))

-- what is nothing else is a symbol
pub form_symbol : (bytes : List ℕ) (f : Form) → IsMore bytes
    → is_white (byte_at bytes 0) ≡ false → (byte_at bytes 0 == 37) ≡ false → is_letter (byte_at bytes 0) ≡ false → is_digit (byte_at bytes 0) ≡ false → (byte_at bytes 0 == 34) ≡ false
    → (byte_at bytes 0 == 47 && byte_at (drop 1 bytes) 0 == 42) ≡ false → symbol (byte_at bytes 0) (byte_at (drop 1 bytes) 0) (byte_at (drop 1 bytes) 1) ≡ f → form bytes ≡ f
unfolding form
form_symbol [] f m a b c d e g h = absurd m
form_symbol (x ∷ bs) f m a b c d e g h = rw (a, b, c, d, e, g) h
