-- Calls that have a type.
use Rattle.std.proofs.Common.{◌≡◌, Bool, true, false, List, [], ◌∷◌, ◌++◌, map, refl, Some, None, option_and_then, if◌then◌else◌}
use Rattle.ms_typing.specs.declared.types.ExprType.{ExprType}
use Rattle.ms_typing.specs.declared.types.Shape.TheVariants.{Single, Line}
use Rattle.ms_typing.specs.Conversion.{is_element, shaped}
use Rattle.ms_typing.specs.Meaning.{Meaning}
use Rattle.ms_typing.specs.Least.{Given, Kind, are_known, at, call, convert_all, generate_over, needs, operand, uniform}
use Rattle.ms_rows.specs.declared.arguments.Asked.{Asked}
use Rattle.ms_rows.specs.Forms.{asked_of, result_of}

asked_where : (b : Bool) (us : List ExprType) (t : ExprType) → true ≡ b → Some (record { first = operand 0 us; result = t }) ≡ asked_of (if b then Some (us, t) else None)
asked_where true us t h = refl
asked_where false us t h = absurd cc

pub uniform_asked : (xs : List Kind) (r : Kind) (ts : List ExprType) (k : Bool) (first t : ExprType) → k ≡ are_known xs ts → true ≡ convert_all ts (map (at k) xs)
    → first ≡ operand 0 (map (at k) xs) → t ≡ at k r → Some (record { first = first; result = t }) ≡ asked_of (uniform xs r ts)
uniform_asked xs r ts k first t h e f g = rw (f, g, ← h) (asked_where (convert_all ts (map (at k) xs)) (map (at k) xs) (at k r) e)

result_where : (b : Bool) (us : List ExprType) (t : ExprType) → (if b then Some t else None) ≡ result_of (if b then Some (us, t) else None)
result_where true us t = refl
result_where false us t = refl

abbrev over : List ExprType → List ExprType → List ExprType × ExprType → Given
over asked ts g = needs ts (asked ++ (shaped Single (operand 0 g.0) ∷ [])) g.1

called_gives : (g : Given) (a : Asked) (ts asked : List ExprType) → Some a ≡ asked_of g
    → (if convert_all ts (asked ++ (shaped Single a.first ∷ [])) then Some a.result else None) ≡ result_of (option_and_then (over asked ts) g)
called_gives None a ts asked h = absurd cc
called_gives (Some x) a ts asked h =
    let e : a ≡ record { first = operand 0 x.0; result = x.1 } = cc in
    rw e (result_where (convert_all ts (asked ++ (shaped Single (operand 0 x.0) ∷ []))) (asked ++ (shaped Single (operand 0 x.0) ∷ [])) x.1)

pub generated : (w : Meaning) (asked ts : List ExprType) (t : ExprType) (a : Asked) (u s : ExprType) (b : Bool) → is_element t ≡ true → u ≡ shaped Line t
    → Some a ≡ asked_of (call w (u ∷ [])) → s ≡ shaped Single a.first → b ≡ convert_all ts (asked ++ (s ∷ []))
    → (if b then Some a.result else None) ≡ result_of (generate_over w asked ts t)
generated w asked ts t a u s b h e f g k =
    rw (h, k, g, ← e) (called_gives (call w (u ∷ [])) a ts asked f)
