use Rattle.std.proofs.Common.{◌≡◌, ◌∙◌, refl, sym, ap, true, Option, Some, w64, to_z, of_z}
use Rattle.std.specs.Prelude.{ℤ, pos, int_rem}
use Rattle.ms_num.specs.Numbers.{mod_at}
use Rattle.ms_num.specs.Span.{is_within}
use Rattle.ms_num.proofs.SharedRemainders.{read_rem, mod_at_is}
use Rattle.ms_values.specs.declared.operand.Operand.{Operand}
use Rattle.ms_rules.specs.Operands.{known_number}
use Rattle.ms_operators.proofs.numbers.known_rest.Goals as goal

rest_is : (x y u v : ℤ) (r : Option Operand) → u ≡ x → v ≡ y → is_within x ≡ true → is_within y ≡ true → (of_z w64 v ≡ 0 → ⊥) → r ≡ known_number (Some (to_z w64 (of_z w64 (int_rem (to_z w64 (of_z w64 u)) (to_z w64 (of_z w64 v)))))) → r ≡ known_number (mod_at x y)
rest_is x y u v r p q a b k h =
    let read : to_z w64 (of_z w64 (int_rem (to_z w64 (of_z w64 u)) (to_z w64 (of_z w64 v)))) ≡ int_rem x y = rw (p, q) (read_rem x y a b) in
    let other : y ≡ pos 0 → ⊥ = λ e. k (rw (q, e) refl) in
    h ∙ ap (λ o. known_number o) (ap (λ z. Some z) read ∙ sym (mod_at_is x y other))

pub returns-else-y-eq0 : goal.returns-else-y-eq0
returns-else-y-eq0 c =
    rest_is c.args.x c.args.y c.get-x.result c.get-y.result c.known_number.result c.get-x.ensures.value c.get-y.ensures.value c.get-x.ensures.within c.get-y.ensures.within c.if-y-eq0.false
    c.known_number.ensures
