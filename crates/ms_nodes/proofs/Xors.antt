-- Chains through their last `xor`.
use Rattle.std.proofs.Common.{◌≡◌, ℕ, suc, ◌≤◌, nat_lt, Bool, true, false, List, [], ◌∷◌, ◌++◌, length, take, drop, refl, ap, sym, arith, if◌then◌else◌}
use Rattle.std.proofs.lemmas.Bool.Decides.{nat_tests}
use Rattle.std.proofs.lemmas.List.{drop-map, take-map}
use Rattle.ms_typing.specs.declared.types.ExprType.{ExprType}
use Rattle.ms_code.specs.Code.{is_xor}
use Rattle.ms_nodes.specs.declared.parts.Operand.{Operand}
use Rattle.ms_nodes.specs.Nodes.{link_of, linked, through_xor}

positive : (n : ℕ) → nat_lt 0 (suc n) ≡ true
positive n = grind (arith, nat_tests)

-- the last of some operands
pub xor_last : (os : List Operand) (o : Operand) → through_xor (os ++ (o ∷ [])) ≡ (if is_xor o.operator then suc (length os) else through_xor os)
xor_last [] o = refl
xor_last (p ∷ os) o = rw (xor_last os o) (turned (is_xor o.operator) (is_xor p.operator) (length os) (through_xor os))
  where
    turned : (b x : Bool) (n k : ℕ)
        → (if nat_lt 0 (if b then suc n else k) then suc (if b then suc n else k) else (if x then 1 else 0))
        ≡ (if b then suc (suc n) else (if nat_lt 0 k then suc k else (if x then 1 else 0)))
    turned true x n k = ap (λ (t : Bool). if t then suc (suc n) else (if x then 1 else 0)) (positive n)
    turned false x n k = refl

step : (b x : Bool) (k n : ℕ) → k ≤ n → (if b then suc k else (if x then 1 else 0)) ≤ suc n
step true x k n h = omega arith
step false true k n h = omega arith
step false false k n h = omega arith

pub xor_within : (os : List Operand) → through_xor os ≤ length os
xor_within [] = omega arith
xor_within (o ∷ os) = step (nat_lt 0 (through_xor os)) (is_xor o.operator) (through_xor os) (length os) (xor_within os)

-- the links of some of the operands
pub front_links : (n : ℕ) (whole : ExprType) (os : List Operand) → linked whole (take n os) ≡ take n (linked whole os)
front_links n whole os = sym (take-map (link_of whole) n os)

pub back_links : (n : ℕ) (whole : ExprType) (os : List Operand) → linked whole (drop n os) ≡ drop n (linked whole os)
back_links n whole os = sym (drop-map (link_of whole) n os)
