-- So many times the same.
use Rattle.std.proofs.Common.{◌≡◌, ℕ, suc, ◌+◌, ◌-◌, ◌<◌, List, [], ◌∷◌, ◌++◌, ap, sym, ◌∙◌, append_assoc, arith}
use Rattle.std.specs.Prelude.{replicate}

pub replicate_more : {X : Type 0} (x : X) (xs : List X) (v n : ℕ) → v < n → xs ++ replicate (n - v) x ≡ (xs ++ (x ∷ [])) ++ replicate (n - (v + 1)) x
replicate_more x xs v n l =
    let left : n - v ≡ suc (n - (v + 1)) = omega (arith, l) in
    ap (λ k. xs ++ replicate k x) left ∙ sym (append_assoc xs (x ∷ []) (replicate (n - (v + 1)) x))
