-- Variables with numbers one after the other.
use Rattle.std.proofs.Common.{◌≡◌, ℕ, suc, ◌+◌, ◌-◌, ◌<◌, List, [], ◌∷◌, ◌++◌, map, ap, sym, ◌∙◌, append_assoc, arith}
use Rattle.ms_values.specs.declared.operand.Placed.{Placed}
use Rattle.ms_declared.specs.Variables.{numbers_from}

-- what is left, where one is done
pub from_more : (f : ℕ → Placed) (xs : List Placed) (v n : ℕ) → v < n
    → xs ++ map f (numbers_from v (n - v)) ≡ (xs ++ map f (numbers_from v 1)) ++ map f (numbers_from (v + 1) (n - (v + 1)))
from_more f xs v n l =
    let m : ℕ = n - (v + 1) in
    let left : n - v ≡ suc m = omega (arith, l) in
    let next : suc v ≡ v + 1 = omega arith in
    ap (λ k. xs ++ map f (numbers_from v k)) left ∙ sym (append_assoc xs (f v ∷ []) (map f (numbers_from (suc v) m)))
    ∙ ap (λ k. (xs ++ (f v ∷ [])) ++ map f (numbers_from k m)) next
