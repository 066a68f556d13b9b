-- Arguments from the last on are those from the first on.
use Rattle.std.proofs.Common.{◌≡◌, refl, ◌∙◌, sym, ap, List, [], ◌∷◌, ◌++◌, reverse}
use Rattle.std.proofs.lemmas.List.{append-nil, append_assoc, reverse-append}
use Rattle.ms_values.specs.declared.operand.Operand.{Operand}
use Rattle.ms_rules.specs.Calls.{first, second, third, nothing}
use Rattle.ms_calls.specs.Arguments.{first_from, two_from, three_from}

moved : (ys : List Operand) → (y : Operand) → (acc : List Operand) → (reverse ys ++ y ∷ acc) ≡ (reverse (y ∷ ys) ++ acc)
moved ys y acc = sym (append_assoc (reverse ys) (y ∷ []) acc) ∙ ap (λ l. l ++ acc) (sym (reverse-append (y ∷ []) ys))

three_onto : (ys acc : List Operand) → three_from ys (first acc, (second acc, third acc))
    ≡ (first (reverse ys ++ acc), (second (reverse ys ++ acc), third (reverse ys ++ acc)))
three_onto [] acc = refl
three_onto (y ∷ ys) acc = three_onto ys (y ∷ acc) ∙ ap (λ l. (first l, (second l, third l))) (moved ys y acc)

pub first_three : (xs : List Operand) → three_from xs (nothing, (nothing, nothing)) ≡ (first (reverse xs), (second (reverse xs), third (reverse xs)))
first_three xs = three_onto xs [] ∙ ap (λ l. (first l, (second l, third l))) (append-nil (reverse xs))

two_onto : (ys acc : List Operand) → two_from ys (first acc, second acc) ≡ (first (reverse ys ++ acc), second (reverse ys ++ acc))
two_onto [] acc = refl
two_onto (y ∷ ys) acc = two_onto ys (y ∷ acc) ∙ ap (λ l. (first l, second l)) (moved ys y acc)

pub first_two : (xs : List Operand) → two_from xs (nothing, nothing) ≡ (first (reverse xs), second (reverse xs))
first_two xs = two_onto xs [] ∙ ap (λ l. (first l, second l)) (append-nil (reverse xs))

first_onto : (ys acc : List Operand) → first_from ys (first acc) ≡ first (reverse ys ++ acc)
first_onto [] acc = refl
first_onto (y ∷ ys) acc = first_onto ys (y ∷ acc) ∙ ap first (moved ys y acc)

pub first_of : (xs : List Operand) → first_from xs nothing ≡ first (reverse xs)
first_of xs = first_onto xs [] ∙ ap first (append-nil (reverse xs))
