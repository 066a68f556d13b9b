-- The operations on integers, with None where they are undefined.
use Rattle.std.specs.Prelude.{Bool, zero, suc, Option, Some, None, ℤ, pos, negsuc, neg_ℤ, ◌+ℤ◌, ◌-ℤ◌, ◌*ℤ◌, ◌&&◌, int_div, int_le, unsigned_abs}
use Rattle.std.specs.Int.{int_min, int_max}

-- the two numbers are the same
abbrev pub int_eq : ℤ → ℤ → Bool
int_eq x y = int_le x y && int_le y x

abbrev pub neg_at : ℤ → Option ℤ
neg_at x = Some (neg_ℤ x)

abbrev pub abs_at : ℤ → Option ℤ
abs_at x = Some (pos (unsigned_abs x))

abbrev pub add_at : ℤ → ℤ → Option ℤ
add_at x y = Some (x +ℤ y)

abbrev pub sub_at : ℤ → ℤ → Option ℤ
sub_at x y = Some (x -ℤ y)

abbrev pub mul_at : ℤ → ℤ → Option ℤ
mul_at x y = Some (x *ℤ y)

abbrev pub min_at : ℤ → ℤ → Option ℤ
min_at x y = Some (int_min x y)

abbrev pub max_at : ℤ → ℤ → Option ℤ
max_at x y = Some (int_max x y)

-- cut toward zero
abbrev pub div_at : ℤ → ℤ → Option ℤ
div_at x (pos zero) = None
div_at x (pos (suc n)) = Some (int_div x (pos (suc n)))
div_at x (negsuc n) = Some (int_div x (negsuc n))

-- what the cut quotient leaves
abbrev pub mod_at : ℤ → ℤ → Option ℤ
mod_at x (pos zero) = None
mod_at x (pos (suc n)) = Some (x -ℤ (pos (suc n) *ℤ int_div x (pos (suc n))))
mod_at x (negsuc n) = Some (x -ℤ (negsuc n *ℤ int_div x (negsuc n)))
